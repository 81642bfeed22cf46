use lib.ListN.{length}
use Rattle.namesake_laws.proofs.Searches.{Seeking}
use Rattle.build_frames.specs.Terms.{name_in}
use Rattle.build_namesakes.specs.Terms.{starts_called}
use Rattle.build_namesakes.proofs.is_met.Given as goal

abbrev pub invariant-loop-p : goal.invariant-loop-p
invariant-loop-p l = Seeking (starts_called l.s l.starts) (name_in l.s l.x) l.keys l.g (length l.heads) l.n l.p

abbrev pub decreases-loop-p : goal.decreases-loop-p
decreases-loop-p l = l.p
