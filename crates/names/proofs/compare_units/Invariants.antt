use mathlib.Core.Path.{◌≡◌}
use Rattle.names.specs.Comparison.{compare}
use Rattle.names.proofs.Turns.{left}
use Rattle.names.proofs.compare_units.Given as goal

-- what is left decides
abbrev pub invariant-loop-i : goal.invariant-loop-i
invariant-loop-i l = compare l.a l.b ≡ left l.a l.b l.i
