use Rattle.std.proofs.Common.{arith, rules, sym, ◌∙◌}
use Rattle.values.proofs.Segment_turns.{takes, segment-stop, segment-on, segments-end}
use Rattle.values.proofs.each_segment_flaw.Goals as goal

pub returns-in_err-room_flaw : goal.returns-in_err-room_flaw
returns-in_err-room_flaw c =
    let l = c.loop-i in
    let f = sym
    (segment-stop _ _ l.i l.left (omega arith) _ _ c.entry.ensures c.segment_length-n.ensures _ _ _ l.invariant
    (sym c.room_flaw.ensures ∙ c.in_err-room_flaw.was)) in search rules

pub overflow_sub-left : goal.overflow_sub-left
overflow_sub-left c = let t = takes c.loop-i.left in omega arith

pub loop-i-preserved : goal.loop-i-preserved
loop-i-preserved c =
    let l = c.loop-i in
    segment-on _ _ l.i l.left (omega arith) _ _ c.entry.ensures c.segment_length-n.ensures _ _ _ l.invariant
    (sym c.room_flaw.ensures ∙ c.in_ok-room_flaw.was)

pub returns : goal.returns
returns c = let l = c.loop-i in sym (l.invariant ∙ segments-end _ _ l.i l.left _ (omega arith))
