use Rattle.build_cells.proofs.Segments.{length-offsets}
use Rattle.layout.proofs.Sizes.{cell_room}
use Rattle.build_cells.proofs.Laws.{cell-put}
use Rattle.build_cells.specs.Terms.{offsets_n}
use Prim.Native.Nat.{◌*◌}
use mathlib.Core.Path.{sym}
use native.Mathlib.Omega.{arith}
use Rattle.build_cells.proofs.put_list.Goals as goal

pub put_size-requires : goal.put_size-requires
put_size-requires c = (omega arith, omega (arith, cell_room (4 * c.args.n), c.requires.n_in_bounds))

pub overflow_add-at : goal.overflow_add-at
overflow_add-at c =
    omega (arith, cell_room (4 * c.args.n), c.requires.n_in_bounds)

pub put_offsets-requires : goal.put_offsets-requires
put_offsets-requires c = record { n_bound = c.requires.n_bound; n_in_bounds = omega (arith, cell_room (4 * c.args.n), c.requires.n_in_bounds) }

pub returns : goal.returns
returns c =
    rw (c.put_pad.ensures, c.put_offsets.ensures, c.put_size.ensures)
    (cell-put (offsets_n c.args.n c.args.first) c.args.out.now c.args.at _
    (sym (length-offsets c.args.n c.args.first)))
