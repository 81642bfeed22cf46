use Rattle.log_entries.specs.Entries.{apart_from}
use mathlib.Core.Bool.{true}
use mathlib.Core.Path.{◌≡◌}
use Rattle.log_entries.proofs.apart_from.Given as goal

abbrev pub invariant-loop-j : goal.invariant-loop-j
invariant-loop-j l = (apart_from l.log l.at l.i l.j ≡ true)
