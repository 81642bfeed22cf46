use Prim.Native.Nat.{ℕ, ◌≤◌, ◌<◌}
use mathlib.Core.Bool.{false}
use mathlib.Core.Path.{◌≡◌}
use Rattle.log_versions.specs.Versions.{is_logged}
use Rattle.new_log.proofs.next_logged.Given as goal

abbrev pub invariant-loop-base : goal.invariant-loop-base
invariant-loop-base l = (l.from ≤ l.base) × ((q : ℕ) → l.from ≤ q → q < l.base → is_logged l.log q ≡ false)
