use Prim.Native.Nat.{◌-◌}
use Rattle.namesake_laws.proofs.Blocks.{Reached}
use Rattle.values.specs.Entries.{entries_of}
use Rattle.namesakes.specs.Terms.{called}
use Rattle.namesakes.proofs.many.Given as goal

abbrev pub invariant-loop-s : goal.invariant-loop-s
invariant-loop-s l = Reached (called l.bins (entries_of l.bins l.e)) l.e.count l.s l.best

abbrev pub decreases-loop-s : goal.decreases-loop-s
decreases-loop-s l = l.best - l.s
