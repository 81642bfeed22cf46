use Rattle.std.proofs.Common.{arith}
use Rattle.values.proofs.Copying.{turn-room, turn, copied-end}
use Rattle.values.proofs.Segment_turns.{takes}
use Rattle.values.proofs.copy_segments.Goals as goal

pub copy_part-requires : goal.copy_part-requires
copy_part-requires c =
    let h = turn-room _ _ _ _ c.loop-i.invariant c.requires.size_in_bounds (omega arith) _ _ c.entry.ensures c.segment_length-n.ensures in
    record { len_in_bounds = h.0; len_in_bounds_2 = h.1 }

pub overflow_sub-left : goal.overflow_sub-left
overflow_sub-left c = let t = takes c.loop-i.left in omega arith

pub loop-i-preserved : goal.loop-i-preserved
loop-i-preserved c =
    rw c.copy_part.ensures
    (turn _ _ _ _ c.loop-i.invariant c.requires.size_in_bounds (omega arith) _ _ c.entry.ensures c.segment_length-n.ensures)

pub returns : goal.returns
returns c = copied-end _ _ _ _ c.loop-i.invariant (omega arith)
