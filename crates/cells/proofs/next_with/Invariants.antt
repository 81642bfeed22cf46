use Prim.Native.Nat.{◌-◌}
use Rattle.cells.specs.Terms.{Without}
use Rattle.cells.proofs.next_with.Given as goal

abbrev pub invariant-loop-o : goal.invariant-loop-o
invariant-loop-o l = Without l.bins l.at l.end l.i l.byte l.o

abbrev pub decreases-loop-o : goal.decreases-loop-o
decreases-loop-o l = l.end - l.o
