use Prim.Native.Nat.{◌-◌}
use Rattle.names.specs.Codes.{codes}
use Rattle.names.proofs.LawsCodes.{Clear}
use Rattle.names.proofs.has_backslash.Given as goal

abbrev pub invariant-loop-i : goal.invariant-loop-i
invariant-loop-i l = Clear (codes l.narrow l.s) l.i

abbrev pub decreases-loop-i : goal.decreases-loop-i
decreases-loop-i l = l.last - l.i
