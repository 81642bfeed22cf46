use Rattle.layout.proofs.Sizes.{cell_room, value-length}
use Rattle.build_cells.proofs.Laws.{stored-few, cell-put}
use Rattle.build_cells.specs.Terms.{item_of}
use Rattle.layout.specs.Layout.{cell_size, value_record}
use Prim.Native.Nat.{ℕ, ◌+◌}
use mathlib.Core.Path.{sym, ap, ◌∙◌}
use native.Mathlib.Omega.{arith}
use Rattle.build_cells.proofs.put_value.Goals as goal

pub overflow_add-len : goal.overflow_add-len
overflow_add-len c = omega (arith, c.stored_len-len.ensures, stored-few _ _ c.requires.name.0, c.requires.name.1)

pub put_size-requires : goal.put_size-requires
put_size-requires c = (
  omega (
    arith,
    c.stored_len-len.ensures,
    stored-few _ _ c.requires.name.0,
    c.requires.name.1,
  ),
  omega (
    arith,
    cell_room (20 + c.stored_len-len.result),
    ap (λ (k : ℕ). cell_size (20 + k)) c.stored_len-len.ensures,
    c.requires.name_in_bounds,
  ),
)

pub overflow_add-at : goal.overflow_add-at
overflow_add-at c =
    omega (
      arith,
      cell_room (20 + c.stored_len-len.result),
      ap (λ (k : ℕ). cell_size (20 + k)) c.stored_len-len.ensures,
      c.requires.name_in_bounds,
    )

pub put_record-requires : goal.put_record-requires
put_record-requires c = record {
  name = c.requires.name;
  body_len_bound = c.requires.body_len_bound;
  name_in_bounds =
      omega (
        arith,
        cell_room (20 + c.stored_len-len.result),
        c.stored_len-len.ensures,
        ap (λ (k : ℕ). cell_size (20 + k)) c.stored_len-len.ensures,
        c.requires.name_in_bounds,
      );
}

pub put_pad-requires : goal.put_pad-requires
put_pad-requires c = (
  omega (
    arith,
    c.stored_len-len.ensures,
    stored-few _ _ c.requires.name.0,
    c.requires.name.1,
  ),
  omega (
    arith,
    ap (λ (k : ℕ). cell_size (20 + k)) c.stored_len-len.ensures,
    c.requires.name_in_bounds,
  ),
)

pub returns : goal.returns
returns c =
    let item = item_of c.args.kind c.args.name.now c.args.body.now in
    rw (c.put_pad.ensures, c.put_record.ensures, c.put_size.ensures)
    (cell-put (value_record item c.args.offset) c.args.out.now c.args.at _
    (ap (λ (k : ℕ). 20 + k) c.stored_len-len.ensures ∙ sym (value-length item c.args.offset)))
