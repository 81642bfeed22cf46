use Rattle.build_cells.proofs.Segments.{count-few, segmented-put}
use Rattle.build_frames.proofs.Sizes.{cell-few}
use Rattle.layout.specs.Layout.{cell_size}
use lib.ListN.{length}
use Prim.Native.Nat.{ℕ, ◌*◌}
use mathlib.Core.Path.{ap}
use native.Mathlib.Omega.{arith}
use Rattle.build_cells.proofs.put_segmented.Goals as goal

pub overflow_mul-count : goal.overflow_mul-count
overflow_mul-count c =
    omega (arith, c.segments_for-count.ensures, count-few (length c.args.body.now) c.requires.body_len_bound.0)

pub cell_size-list-requires : goal.cell_size-list-requires
cell_size-list-requires c =
    omega (arith, c.segments_for-count.ensures, count-few (length c.args.body.now) c.requires.body_len_bound.0)

pub put_db-requires : goal.put_db-requires
put_db-requires c = record {
  count_bound = (
    omega (
      arith,
      c.segments_for-count.ensures,
      count-few (length c.args.body.now) c.requires.body_len_bound.0,
    ),
    omega (arith, c.requires.body_len_bound.1),
  );
  at_in_bounds = omega (arith, c.requires.body_in_bounds);
}

pub overflow_add-offset-3 : goal.overflow_add-offset-3
overflow_add-offset-3 c =
    omega (
      arith,
      c.cell_size-list.ensures,
      c.segments_for-count.ensures,
      count-few (length c.args.body.now)
          c.requires.body_len_bound.0,
      cell-few (4 * c.segments_for-count.result),
    )

pub put_list-requires : goal.put_list-requires
put_list-requires c = record {
  n_bound = (
    omega (
      arith,
      c.segments_for-count.ensures,
      count-few (length c.args.body.now)
          c.requires.body_len_bound.0,
    ),
    omega (
      arith,
      c.cell_size-list.ensures,
      c.segments_for-count.ensures,
      count-few (length c.args.body.now)
          c.requires.body_len_bound.0,
      cell-few (4 * c.segments_for-count.result),
    ),
  );
  n_in_bounds = omega (
    arith,
    ap (λ (i : ℕ). cell_size (4 * i)) c.segments_for-count.ensures,
    c.requires.body_in_bounds,
  );
}

pub overflow_add-at-3 : goal.overflow_add-at-3
overflow_add-at-3 c =
    omega (
      arith,
      c.cell_size-list.ensures,
      ap (λ (i : ℕ). cell_size (4 * i)) c.segments_for-count.ensures,
      c.requires.body_in_bounds,
    )

pub put_segments-requires : goal.put_segments-requires
put_segments-requires c = record {
  body_len_bound = c.requires.body_len_bound.0;
  body_in_bounds = omega (
    arith,
    c.cell_size-list.ensures,
    ap (λ (i : ℕ). cell_size (4 * i)) c.segments_for-count.ensures,
    c.requires.body_in_bounds,
  );
}

pub returns : goal.returns
returns c =
    rw (c.put_segments.ensures, c.put_list.ensures, c.put_db.ensures)
    (segmented-put c.args.body.now c.args.out.now c.args.at c.args.offset _ _
    c.segments_for-count.ensures c.cell_size-list.ensures)
