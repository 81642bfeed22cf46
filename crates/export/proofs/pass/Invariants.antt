use mathlib.Core.Path.{◌≡◌}
use Prim.Native.Nat.{◌-◌, ◌*◌, ◌≤◌}
use lib.ListN.{length}
use Rattle.export.specs.Terms.{went}
use Rattle.export.proofs.pass.Given as goal

abbrev pub invariant-loop : goal.invariant-loop
invariant-loop l =
    (went l.bins l.minor l.n l.initial.levels l.initial.next ≡ went l.bins l.minor (l.n - l.counter) l.levels l.next)
    × (3 * l.next.depth ≤ length l.levels)
    × (length l.levels ≡ length l.initial.levels)
