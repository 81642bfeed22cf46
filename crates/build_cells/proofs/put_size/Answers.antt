use Rattle.fields.specs.Number.{le32}
use Prim.Native.Nat.{ℕ, ◌-◌}
use lib.Seq.{sets}
use mathlib.Core.Path.{ap, ◌∙◌}
use Rattle.layout.proofs.Sizes.{cell_room}
use Rattle.build_frames.proofs.Sizes.{cell-few}
use native.Mathlib.Omega.{arith}
use Rattle.build_cells.proofs.put_size.Goals as goal

pub overflow_sub-cell_size : goal.overflow_sub-cell_size
overflow_sub-cell_size c = omega (arith, cell-few c.args.len, c.cell_size.ensures)

pub overflow_cast-cell_size : goal.overflow_cast-cell_size
overflow_cast-cell_size c = omega (arith, cell_room c.args.len, c.cell_size.ensures)

pub returns : goal.returns
returns c =
    c.put_u32.ensures
    ∙ ap (λ (k : ℕ). sets c.args.out.now c.args.at (le32 (4294967296 - k))) c.cell_size.ensures
