use native.Mathlib.Omega.{arith}
use Rattle.build_write.proofs.Trees.{first-low, values-room, list-here, list-fits, started}
use Rattle.build_write.proofs.start_key.Goals as goal

pub overflow_add-first : goal.overflow_add-first
overflow_add-first c =
    omega (
      arith,
      first-low _ _ _ _ _ _ _ _ c.requires.6 _
          c.opening_at-o.ensures _ _ _ c.cell_size.ensures _ c.is_narrow-narrow.ensures
          c.stored_by.ensures.stored_by _ c.requires.7,
    )

pub put_values-w-requires : goal.put_values-w-requires
put_values-w-requires c =
    values-room _ _ _ _ _ _ _ _ c.requires.6 _ c.opening_at-o.ensures _ _ _ c.cell_size.ensures _
    c.is_narrow-narrow.ensures c.stored_by.ensures.stored_by _ c.frame_end-from.ensures _ c.requires.7

pub put_list-requires : goal.put_list-requires
put_list-requires c =
    let y =
    list-here _ _ _ _ _ _ _ _ c.requires.6 _
    c.opening_at-o.ensures _ _ _
    c.cell_size.ensures _
    c.is_narrow-narrow.ensures
    c.stored_by.ensures.stored_by _ c.frame_end-from.ensures
    _ _ _ c.put_values-w.ensures _
    c.requires.7 in
    (y.0, y.1, y.2, y.3, y.4, record { low = y.5.low; inside = omega (arith, y.5.inside) })

pub list_size-requires : goal.list_size-requires
list_size-requires c =
    omega (
      arith,
      (list-fits _ _ _ _ _ _ _ _ c.requires.6 _ c.opening_at-o.ensures _ _ _ c.cell_size.ensures _ c.is_narrow-narrow.ensures c.stored_by.ensures.stored_by _ c.frame_end-from.ensures _ _ _ c.put_values-w.ensures _ c.requires.7).0,
    )

pub overflow_add-result : goal.overflow_add-result
overflow_add-result c =
    omega (
      arith,
      (list-fits _ _ _ _ _ _ _ _ c.requires.6 _ c.opening_at-o.ensures _ _ _ c.cell_size.ensures _ c.is_narrow-narrow.ensures c.stored_by.ensures.stored_by _ c.frame_end-from.ensures _ _ _ c.put_values-w.ensures _ c.requires.7).1,
      c.list_size.ensures,
    )

pub returns : goal.returns
returns c =
    λ n sh x vs b t k. started _ _ _ _ _ _ _ _ k _ c.opening_at-o.ensures _ _ _
    c.cell_size.ensures _ c.is_narrow-narrow.ensures
    c.stored_by.ensures.stored_by _ c.frame_end-from.ensures _ _ _
    c.put_values-w.ensures _ _ c.list_size.ensures c.put_list.ensures
