use Prim.Native.Nat.{◌-◌}
use Rattle.remnants.specs.Terms.{Going}
use Rattle.remnants.proofs.find.Given as goal

abbrev pub invariant-loop-o : goal.invariant-loop-o
invariant-loop-o l = Going l.bins l.at l.end l.from l.o

abbrev pub decreases-loop-o : goal.decreases-loop-o
decreases-loop-o l = l.end - l.o
