use Rattle.layout.proofs.Sizes.{cell_room}
use Rattle.build_cells.proofs.Laws.{cell-put}
use lib.ListN.{length}
use mathlib.Core.Path.{refl}
use native.Mathlib.Omega.{arith}
use Rattle.build_cells.proofs.put_bytes.Goals as goal

pub put_size-requires : goal.put_size-requires
put_size-requires c = (omega arith, omega (arith, cell_room (length c.args.body.now)))

pub overflow_add-at : goal.overflow_add-at
overflow_add-at c = omega (arith, cell_room (length c.args.body.now))

pub put_copy-requires : goal.put_copy-requires
put_copy-requires c = omega (arith, cell_room (length c.args.body.now))

pub returns : goal.returns
returns c =
    rw (c.put_pad.ensures, c.put_copy.ensures, c.put_size.ensures)
    (cell-put c.args.body.now c.args.out.now c.args.at _ refl)
