use Rattle.std.proofs.Common.{◌≡◌, ℕ, ◌-◌, ◌<◌, ◌≤◌}
use Rattle.search.specs.declared.Turn.{Turn}
use Rattle.search.specs.declared.TheConstants.{TURNS}
use Rattle.search.specs.Quick.{halve}
use Rattle.search.proofs.by_halves.Given as goal

-- what is left answers as the whole
abbrev pub invariant-loop-turn : goal.invariant-loop-turn
invariant-loop-turn g l =
    (l.hi ≤ l.count)
    × ((says : ℕ → Turn) → ((i : ℕ) (t : Turn) → i < l.count → goal.F-post g l.ask i t → t ≡ says i)
    → halve TURNS says 0 l.count ≡ halve (TURNS - l.turn) says l.lo l.hi)
