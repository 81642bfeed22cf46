use Rattle.cells.specs.Rule.{rule_of, lent}
use Rattle.records.proofs.Totals.{Counted}
use Rattle.records.proofs.total_over.Given as goal

abbrev pub invariant-loop-j : goal.invariant-loop-j
invariant-loop-j l = Counted (rule_of l.map) l.bins (lent l.map) l.ls l.sum l.j
