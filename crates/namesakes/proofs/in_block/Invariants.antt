use Rattle.namesake_laws.proofs.Scans.{Scanning}
use Rattle.values.specs.Entries.{entries_of}
use Rattle.namesakes.specs.Terms.{called}
use Rattle.namesakes.proofs.in_block.Given as goal

abbrev pub invariant-loop-j : goal.invariant-loop-j
invariant-loop-j l =
    Scanning (called l.bins (entries_of l.bins l.e)) l.s l.initial.keys l.initial.older l.initial.heads l.keys l.older l.heads l.j l.n
