use Rattle.values.proofs.Copying.{Copied}
use Rattle.values.proofs.copy_segments.Given as goal

abbrev pub invariant-loop-i : goal.invariant-loop-i
invariant-loop-i l = Copied l.bins l.initial.out l.e l.size l.out l.left l.i
