use Rattle.layout.proofs.Sizes.{cell_room}
use Rattle.layout.specs.Layout.{zeros}
use Prim.Native.Nat.{ℕ, ◌-◌, ◌+◌}
use lib.Seq.{sets}
use mathlib.Core.Path.{ap, ◌∙◌}
use native.Mathlib.Omega.{arith}
use Rattle.build_cells.proofs.put_pad.Goals as goal

pub overflow_add-at : goal.overflow_add-at
overflow_add-at c =
    omega (arith, cell_room c.args.len)

pub overflow_add-at-2 : goal.overflow_add-at-2
overflow_add-at-2 c =
    omega (arith, cell_room c.args.len)

pub overflow_add-len : goal.overflow_add-len
overflow_add-len c =
    omega (arith, cell_room c.args.len)

pub overflow_sub-cell_size : goal.overflow_sub-cell_size
overflow_sub-cell_size c = omega (arith, cell_room c.args.len, c.cell_size.ensures)

pub put_zeros-requires : goal.put_zeros-requires
put_zeros-requires c = omega (arith, cell_room c.args.len, c.cell_size.ensures)

pub returns : goal.returns
returns c =
    c.put_zeros.ensures
    ∙ ap (λ (k : ℕ). sets c.args.out.now (c.args.at + 4 + c.args.len) (zeros (k - (4 + c.args.len))))
    c.cell_size.ensures
