use Rattle.namesake_laws.proofs.Blocks.{Passed}
use Rattle.values.specs.Entries.{entries_of}
use Rattle.namesakes.specs.Terms.{called}
use Rattle.namesakes.proofs.few.Given as goal

abbrev pub invariant-loop-j : goal.invariant-loop-j
invariant-loop-j l = Passed (called l.bins (entries_of l.bins l.e)) l.j
