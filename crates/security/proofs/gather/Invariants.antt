use Rattle.security.proofs.Gathers.{Going}
use Rattle.security.proofs.gather.Given as goal

abbrev pub invariant-loop-n : goal.invariant-loop-n
invariant-loop-n l = Going l.bins l.map l.first l.initial.at l.initial.keys l.initial.older l.initial.heads l.keys l.older l.heads l.at l.n
