use Prim.Native.Nat.{◌-◌, ◌≤◌}
use mathlib.Core.Path.{◌≡◌}
use Rattle.namesake_laws.proofs.Blocks.{Reached}
use Rattle.build_namesakes.specs.Rows.{start_of, called}
use Rattle.build_namesakes.proofs.many.Given as goal

-- p is where the last block starts, b where the next one does
abbrev pub invariant-loop-b : goal.invariant-loop-b
invariant-loop-b l = (4096 ≤ l.b) × (l.p ≡ start_of l.s l.at (l.b - 4096)) × Reached (called l.s l.at) l.n l.b l.best

abbrev pub decreases-loop-b : goal.decreases-loop-b
decreases-loop-b l = l.best - l.b
