use Prim.Native.Nat.{◌+◌}
use Rattle.cells.specs.Named.{data_of}
use native.Mathlib.Nat.{add-sub_cancel_left}
use Rattle.cells.proofs.cell_data.Goals as goal

pub returns : goal.returns
unfolding data_of
returns c = let k = c.args.c in rw (add-sub_cancel_left (k.at.0 + 4) k.len)
