use Rattle.build_namesakes.proofs.Scans.{Going}
use Rattle.build_namesakes.proofs.in_block.Given as goal

abbrev pub invariant-loop-j : goal.invariant-loop-j
invariant-loop-j l =
    Going l.s l.at l.initial.keys l.initial.older l.initial.heads l.initial.starts l.keys l.older l.heads l.starts l.p l.j l.k
