use Prim.Native.Nat.{◌/◌, ◌%◌}
use native.Mathlib.Omega.{arith}
use mathlib.Core.Path.{sym}
use lib.Seq.{set_out}
use Rattle.cells.specs.Map.{mark_at}
use Rattle.bitmap.proofs.Marks.{shifted}
use Rattle.cells.proofs.mark.Goals as goal

pub returns-then-j-map : goal.returns-then-j-map
unfolding mark_at
returns-then-j-map c = rw (shifted (c.args.at / 8 % 8) (omega arith))

pub returns-else-j-map : goal.returns-else-j-map
unfolding mark_at
returns-else-j-map c = sym (set_out _ _ _ (omega arith))
