use Prim.Native.Nat.{◌+◌}
use native.Mathlib.Nat.{add-sub_cancel_left}
use Rattle.cells.proofs.Parts.{part_room, part_bytes}
use borrow.Author.Rules.{rules}
use Rattle.cells.proofs.part_in.Goals as goal

pub overflow_add-start-2 : goal.overflow_add-start-2
overflow_add-start-2 c = let h = part_room _ _ _ _ c.requires in search rules

pub overflow_add-result : goal.overflow_add-result
overflow_add-result c = let h = part_room _ _ _ _ c.requires in search rules

pub slice_bounds-result-end : goal.slice_bounds-result-end
slice_bounds-result-end c = let h = part_room _ _ _ _ c.requires in search rules

pub returns : goal.returns
returns c =
    let a = c.args in
    rw (add-sub_cancel_left (a.o.0 + 4 + a.at) a.len) (part_bytes _ _ _ _ c.requires)
