use mathlib.Core.Path.{◌≡◌}
use Rattle.build_namesakes.specs.Rows.{start_of}
use Rattle.build_namesakes.proofs.position_of.Given as goal

abbrev pub invariant-loop-i : goal.invariant-loop-i
invariant-loop-i l = l.p ≡ start_of l.s l.at l._i
