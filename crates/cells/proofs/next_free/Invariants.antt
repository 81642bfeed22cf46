use Prim.Native.Nat.{◌-◌, ◌≤◌}
use mathlib.Core.Path.{◌≡◌}
use lib.ListN.{length}
use Rattle.cells.specs.Terms.{Stands, free_from}
use Rattle.cells.proofs.next_free.Given as goal

abbrev pub invariant-loop-cell : goal.invariant-loop-cell
invariant-loop-cell l = Stands l.bins l.cell l.bin × (l.from ≤ l.cell) × (free_from l.bins l.from l.end ≡ free_from l.bins l.cell l.bin)

abbrev pub decreases-loop-cell : goal.decreases-loop-cell
decreases-loop-cell l = length l.bins - l.cell
