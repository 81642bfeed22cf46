use native.Mathlib.Omega.{arith}
use mathlib.Core.Path.{◌∙◌}
use Rattle.build_write.proofs.Trees.{known-few, known-bounds, own_room, own-record, own_put}
use Rattle.build_write.proofs.put_own.Goals as goal

pub list_size-requires : goal.list_size-requires
list_size-requires c = omega (arith, (known-few _ _ _ _ _ _ _ _ c.requires.4).0)

pub overflow_sub-list : goal.overflow_sub-list
overflow_sub-list c = omega (arith, (known-few _ _ _ _ _ _ _ _ c.requires.4).1, c.list_size.ensures)

pub overflow_cast-k-3 : goal.overflow_cast-k-3
overflow_cast-k-3 c = omega (arith, (known-few _ _ _ _ _ _ _ _ c.requires.4).0)

pub overflow_cast-k-5 : goal.overflow_cast-k-5
overflow_cast-k-5 c = omega (arith, (known-bounds _ _ _ _ _ _ _ _ c.requires.4).0)

pub overflow_cast-k-6 : goal.overflow_cast-k-6
overflow_cast-k-6 c = omega (arith, (known-bounds _ _ _ _ _ _ _ _ c.requires.4).1)

pub overflow_cast-k-7 : goal.overflow_cast-k-7
overflow_cast-k-7 c = omega (arith, (known-bounds _ _ _ _ _ _ _ _ c.requires.4).2)

pub put_key-requires : goal.put_key-requires
put_key-requires c =
    let r = own_room _ _ _ _ _ _ _ _ c.requires.4 _ c.part_of.ensures _ c.requires.7 in
    record { name = r.0; name_in_bounds = r.1 }

pub returns : goal.returns
returns c =
    λ sh x vs b k. c.put_key.ensures
    ∙ own_put _ _
    (own-record _ _ _ _ _ _ _ _ k _ c.part_of.ensures _ _ _ _ _ _ c.key_flags.ensures c.if_any.ensures c.list_size.ensures c.if_any-2.ensures)
