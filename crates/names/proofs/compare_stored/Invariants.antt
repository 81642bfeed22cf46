use mathlib.Core.Path.{◌≡◌}
use Rattle.names.specs.Codes.{codes}
use Rattle.names.specs.Comparison.{compare}
use Rattle.names.proofs.Turns.{left}
use Rattle.names.proofs.compare_stored.Given as goal

-- what is left decides
abbrev pub invariant-loop-i : goal.invariant-loop-i
invariant-loop-i l =
    compare (codes l.a_narrow l.a) (codes l.b_narrow l.b) ≡ left (codes l.a_narrow l.a) (codes l.b_narrow l.b) l.i
