use Prim.Native.Nat.{◌+◌}
use native.Mathlib.Omega.{arith}
use Rattle.build_frames.proofs.Sizes.{cell-few}
use Rattle.build.proofs.bins_size.Goals as goal

pub overflow_add-size-2 : goal.overflow_add-size-2
overflow_add-size-2 c = let k = cell-few (20 + c.args.n) in omega (arith, c.requires.0, c.requires.1, c.cell_size.ensures)

pub next_multiple_of-requires-clause-fits : goal.next_multiple_of-requires-clause-fits
next_multiple_of-requires-clause-fits c =
    let k = cell-few (20 + c.args.n) in omega (arith, c.requires.0, c.requires.1, c.cell_size.ensures)
