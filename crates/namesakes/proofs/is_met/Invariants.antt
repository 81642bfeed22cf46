use lib.ListN.{length}
use Rattle.namesake_laws.specs.Repeats.{later}
use Rattle.namesake_laws.proofs.Searches.{Seeking}
use Rattle.records.specs.Keys.{codes_of}
use Rattle.values.specs.Entries.{entries_of}
use Rattle.namesakes.specs.Terms.{called}
use Rattle.namesakes.proofs.is_met.Given as goal

abbrev pub invariant-loop-p : goal.invariant-loop-p
invariant-loop-p l = Seeking (later (called l.bins (entries_of l.bins l.e)) l.s) (codes_of l.bins l.x) l.keys l.g (length l.heads) l.n l.p

abbrev pub decreases-loop-p : goal.decreases-loop-p
decreases-loop-p l = l.p
