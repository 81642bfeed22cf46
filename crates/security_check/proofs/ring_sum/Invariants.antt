use Rattle.security_check.specs.Terms.{tree_keys}
use Rattle.security_check.proofs.Rounds.{Round}
use Rattle.security_check.proofs.ring_sum.Given as goal

abbrev pub invariant-loop-met : goal.invariant-loop-met
invariant-loop-met l = Round l.bins l.map (tree_keys l.bins l.root) l.first l.from l.sum l._met
