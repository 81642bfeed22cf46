use Rattle.security_check.proofs.Marking.{Marking}
use Rattle.security_check.proofs.mark_ring.Given as goal

abbrev pub invariant-loop-met : goal.invariant-loop-met
invariant-loop-met l = Marking l.bins l.first l.initial.map l.map l.at l._met
