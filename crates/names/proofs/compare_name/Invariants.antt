use mathlib.Core.Path.{◌≡◌}
use Rattle.names.specs.Codes.{codes}
use Rattle.names.specs.Comparison.{compare}
use Rattle.names.proofs.Turns.{left}
use Rattle.names.proofs.compare_name.Given as goal

-- what is left decides
abbrev pub invariant-loop-i : goal.invariant-loop-i
invariant-loop-i l =
    compare (codes l.narrow l.s) l.name ≡ left (codes l.narrow l.s) l.name l.i
