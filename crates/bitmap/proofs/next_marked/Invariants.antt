use Rattle.bitmap.specs.Bits.{next_marked}
use lib.ListN.{length}
use Prim.Native.Nat.{◌*◌, ◌-◌}
use mathlib.Core.Path.{◌≡◌}
use Rattle.bitmap.proofs.next_marked.Given as goal

abbrev pub invariant-loop-index : goal.invariant-loop-index
invariant-loop-index l = next_marked l.map l.index ≡ next_marked l.map l.from

abbrev pub decreases-loop-index : goal.decreases-loop-index
decreases-loop-index l = 8 * length l.map - l.index
