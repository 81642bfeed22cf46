use native.Mathlib.Omega.{arith}
use Rattle.build_write.proofs.Values.{value_room, next-given, next-fits-in, next_low, data-room, held-end, held-put}
use Rattle.build_write.proofs.put_held.Goals as goal

pub overflow_add-next : goal.overflow_add-next
overflow_add-next c =
    omega (
      arith,
      next-fits-in _ _ c.requires.0 _ _
          c.requires.1 _ _ c.cell_size.ensures
          (c.stored_by.ensures.stored_by _ c.requires.0.lies.name
          c.is_narrow-narrow.ensures),
    )

pub put_value-requires : goal.put_value-requires
put_value-requires c =
    let r = value_room _ _ c.requires.0 _ _ c.requires.1 _ _ c.part_of.ensures c.part_of-body.ensures _ c.is_narrow-narrow.ensures in
    record { name = r.0; body_len_bound = r.1.0; name_in_bounds = r.1.1 }

pub overflow_add-next-2 : goal.overflow_add-next-2
overflow_add-next-2 c =
    omega (
      arith,
      next_low _ _ c.requires.0 _ _
          c.requires.1 _ _
          c.part_of.ensures c.part_of-body.ensures _ _
          (next-given _ _ _ c.cell_size.ensures)
          (c.stored_by.ensures.stored_by _
          c.requires.0.lies.name
          c.is_narrow-narrow.ensures),
    )

pub put_data-requires : goal.put_data-requires
put_data-requires c =
    let r =
    data-room _ _ c.requires.0 _ _
    c.requires.1 _ _
    c.part_of.ensures c.part_of-body.ensures _ _
    (next-given _ _ _ c.cell_size.ensures)
    (c.stored_by.ensures.stored_by _
    c.requires.0.lies.name
    c.is_narrow-narrow.ensures) in
    record { body_len_bound = r.0; body_in_bounds = omega (arith, r.1) }

pub overflow_add-result : goal.overflow_add-result
overflow_add-result c =
    omega (
      arith,
      c.requires.1.low,
      held-end _ _
          c.requires.0
          _ _
          c.requires.1
          _ _ c.part_of.ensures
          c.part_of-body.ensures _ _
          (next-given _ _ _ c.cell_size.ensures)
          (c.stored_by.ensures.stored_by _
          c.requires.0.lies.name
          c.is_narrow-narrow.ensures)
          _ c.data_size.ensures,
    )

pub returns : goal.returns
returns c =
    let next = next-given _ _ _ c.cell_size.ensures in
    let stored = c.stored_by.ensures.stored_by _ c.requires.0.lies.name c.is_narrow-narrow.ensures in
    record {
      out_after =
          rw (c.put_data.ensures, c.put_value.ensures)
          (held-put _ _ c.requires.0 _ _ c.requires.1 _ _ c.part_of.ensures c.part_of-body.ensures _ _ next stored _);
      value = held-end _ _ c.requires.0 _ _ c.requires.1 _ _ c.part_of.ensures c.part_of-body.ensures _ _ next stored _ c.data_size.ensures;
    }
