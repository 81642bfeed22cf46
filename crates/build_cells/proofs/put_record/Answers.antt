use Rattle.build_frames.proofs.Sizes.{cell-few}
use Rattle.build_cells.proofs.Laws.{stored-few, record-put}
use Rattle.build_cells.specs.Terms.{item_of}
use Rattle.layout.specs.Layout.{flag_of}
use mathlib.Core.Bool.{Bool}
use Prim.Native.Nat.{ℕ, ◌+◌}
use mathlib.Core.Path.{ap, ◌∙◌}
use native.Mathlib.Omega.{arith}
use Rattle.build_cells.proofs.put_record.Goals as goal

pub overflow_add-len : goal.overflow_add-len
overflow_add-len c =
    omega (arith, c.stored_len-len.ensures, stored-few _ _ c.requires.name.0, c.requires.name.1)

pub cell_size-requires : goal.cell_size-requires
cell_size-requires c =
    omega (arith, c.stored_len-len.ensures, stored-few _ _ c.requires.name.0, c.requires.name.1)

pub overflow_add-next : goal.overflow_add-next
overflow_add-next c =
    omega (
      arith,
      c.stored_len-len.ensures,
      stored-few _ _ c.requires.name.0,
      c.requires.name.1,
      c.cell_size.ensures,
      cell-few (20 + c.stored_len-len.result),
      c.requires.body_len_bound.1,
    )

pub overflow_cast-len : goal.overflow_cast-len
overflow_cast-len c =
    omega (
      arith,
      c.stored_len-len.ensures,
      stored-few _ _ c.requires.name.0,
      c.requires.name.1,
    )

pub put_field-requires : goal.put_field-requires
put_field-requires c = record {
  body_len_bound = (
    c.requires.body_len_bound.0,
    omega (
      arith,
      c.stored_len-len.ensures,
      stored-few _ _ c.requires.name.0,
      c.requires.name.1,
      c.cell_size.ensures,
      cell-few (20 + c.stored_len-len.result),
      c.requires.body_len_bound.1,
    ),
  );
  at_in_bounds = omega (arith, c.requires.name_in_bounds);
}

pub put_stored-requires : goal.put_stored-requires
put_stored-requires c = record {
  name = c.requires.name.0;
  name_in_bounds = omega (
    arith,
    c.requires.name_in_bounds,
  );
}

pub returns : goal.returns
returns c =
    rw (
      c.put_stored.ensures,
      c.put_u32-2.ensures,
      c.put_u32.ensures,
      c.put_field.ensures,
      c.put_u16-2.ensures,
      c.put_u16.ensures,
    )
    (record-put (item_of c.args.kind c.args.name.now c.args.body.now) c.args.offset c.args.out.now
    c.args.at _ _ _ c.stored_len-len.ensures
    (ap (λ (k : ℕ). c.args.offset + k) c.cell_size.ensures)
    (c.flag.ensures ∙ ap (λ (b : Bool). flag_of b 1) c.requires.name.0.told))
