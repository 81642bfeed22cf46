use Rattle.layout.proofs.Sizes.{cell_room}
use Rattle.build_cells.proofs.Laws.{stored-few, key-put}
use Rattle.layout.specs.Layout.{cell_size, stored}
use Rattle.names.specs.Codes.{codes}
use mathlib.Core.Bool.{false}
use Prim.Native.Nat.{ℕ, ◌+◌}
use mathlib.Core.Path.{ap}
use native.Mathlib.Omega.{arith}
use Rattle.build_cells.proofs.put_key.Goals as goal

pub overflow_add-len : goal.overflow_add-len
overflow_add-len c =
    omega (arith, c.stored_len-len.ensures, stored-few _ _ c.requires.name.0, c.requires.name.1)

pub put_size-requires : goal.put_size-requires
put_size-requires c = (
  omega (arith, c.stored_len-len.ensures, stored-few _ _ c.requires.name.0, c.requires.name.1),
  omega (
    arith,
    cell_room (76 + c.stored_len-len.result),
    ap (λ (k : ℕ). cell_size (76 + k)) c.stored_len-len.ensures,
    c.requires.name_in_bounds,
  ),
)

pub overflow_cast-len : goal.overflow_cast-len
overflow_cast-len c =
    omega (
      arith,
      c.stored_len-len.ensures,
      stored-few _ _ c.requires.name.0,
      c.requires.name.1,
    )

pub put_fixed-requires : goal.put_fixed-requires
put_fixed-requires c =
    omega (
      arith,
      cell_room (76 + c.stored_len-len.result),
      ap (λ (k : ℕ). cell_size (76 + k)) c.stored_len-len.ensures,
      c.requires.name_in_bounds,
    )

pub put_stored-requires : goal.put_stored-requires
put_stored-requires c = record {
  name = c.requires.name.0;
  name_in_bounds = omega (
    arith,
    cell_room (76 + c.stored_len-len.result),
    c.stored_len-len.ensures,
    ap (λ (k : ℕ). cell_size (76 + k)) c.stored_len-len.ensures,
    c.requires.name_in_bounds,
  );
}

pub overflow_add-len-2 : goal.overflow_add-len-2
overflow_add-len-2 c =
    omega (
      arith,
      c.stored_len-len.ensures,
      stored-few _ _
          c.requires.name.0,
      c.requires.name.1,
    )

pub put_pad-requires : goal.put_pad-requires
put_pad-requires c = (
  omega (
    arith,
    c.stored_len-len.ensures,
    stored-few _ _
        c.requires.name.0,
    c.requires.name.1,
  ),
  omega (
    arith,
    ap (λ (k : ℕ). cell_size (76 + k))
        c.stored_len-len.ensures,
    c.requires.name_in_bounds,
  ),
)

pub returns : goal.returns
returns c =
    rw (c.put_pad.ensures, c.put_stored.ensures, c.put_fixed.ensures, c.put_size.ensures)
    (key-put c.args.k (stored (codes false c.args.name.now)) c.args.out.now c.args.at _
    c.stored_len-len.ensures)
