use native.Mathlib.Omega.{arith}
use Prim.Native.Nat.{◌+◌}
use Rattle.build_frames.proofs.Sizes.{cell-few, data-few, value-is}
use Rattle.build_frames.proofs.value_size.Goals as goal

pub overflow_add-result : goal.overflow_add-result
overflow_add-result c = omega (arith, cell-few (20 + c.stored_len.result), data-few c.args.v.«data».len c.requires.small)

pub returns : goal.returns
returns c = value-is _ _ _ _ _ c.requires c.stored_len.ensures c.cell_size.ensures c.data_size.ensures
