use mathlib.Core.Path.{◌≡◌}
use Rattle.namesake_laws.proofs.Blocks.{Passed}
use Rattle.build_namesakes.specs.Rows.{start_of, called}
use Rattle.build_namesakes.proofs.few.Given as goal

abbrev pub invariant-loop-j : goal.invariant-loop-j
invariant-loop-j l = (l.p ≡ start_of l.s l.at l.j) × Passed (called l.s l.at) l.j
