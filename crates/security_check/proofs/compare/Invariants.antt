use Rattle.security_check.proofs.Compares.{Comparing}
use Rattle.security_check.proofs.compare.Given as goal

abbrev pub invariant-loop-i : goal.invariant-loop-i
invariant-loop-i l = Comparing l.bins l.table l.counts l.n l.sum l.i
