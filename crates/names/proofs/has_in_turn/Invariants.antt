use mathlib.Core.Path.{◌≡◌}
use lib.ListN.{drop}
use Rattle.names.specs.Codes.{codes, has_code, backslash}
use Rattle.names.proofs.has_in_turn.Given as goal

-- what is left decides
abbrev pub invariant-loop-i : goal.invariant-loop-i
invariant-loop-i l = has_code backslash (codes l.narrow l.s) ≡ has_code backslash (drop l.i (codes l.narrow l.s))
