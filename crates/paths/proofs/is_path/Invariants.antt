use Rattle.paths.proofs.Passes.{Passed}
use Rattle.paths.proofs.is_path.Given as goal

abbrev pub invariant-loop-u : goal.invariant-loop-u
invariant-loop-u l = Passed l.path l.units l.cuts l.u-index
