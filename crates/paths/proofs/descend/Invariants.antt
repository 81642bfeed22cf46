use Rattle.paths.proofs.Descents.{Descended}
use lib.ListN.{length}
use Prim.Native.Nat.{◌-◌}
use Rattle.paths.proofs.descend.Given as goal

abbrev pub invariant-loop-start : goal.invariant-loop-start
invariant-loop-start l = Descended l.how l.bins l.initial.key l.path l.key l.start

abbrev pub decreases-loop-start : goal.decreases-loop-start
decreases-loop-start l = length l.path - l.start
