use mathlib.Core.Path.{◌≡◌}
use Rattle.names.specs.Codes.{codes}
use Rattle.names.specs.Comparison.{is_same, same_name}
use Rattle.names.proofs.Turns.{left}
use Rattle.names.proofs.is_same.Given as goal

-- what is left decides
abbrev pub invariant-loop-i : goal.invariant-loop-i
invariant-loop-i l = same_name (codes l.a_narrow l.a) (codes l.b_narrow l.b) ≡ is_same (left (codes l.a_narrow l.a) (codes l.b_narrow l.b) l.i)
