use mathlib.Core.Path.{◌≡◌}
use mathlib.Core.Bool.{false}
use Rattle.namesake_laws.specs.Repeats.{met_in}
use Rattle.records.specs.Keys.{codes_of}
use Rattle.values.specs.Entries.{entries_of}
use Rattle.namesakes.specs.Terms.{called}
use Rattle.namesakes.proofs.is_repeat.Given as goal

-- none of those passed has the name
abbrev pub invariant-loop-i : goal.invariant-loop-i
invariant-loop-i l = met_in (called l.bins (entries_of l.bins l.e)) l.i (codes_of l.bins l.x) ≡ false
