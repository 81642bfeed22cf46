use Rattle.search.specs.Search.{first_of}
use Rattle.lookup.specs.Search.{value_named}
use Rattle.values.specs.Entries.{entries_of}
use lib.ListN.{drop}
use mathlib.Core.Path.{◌≡◌}
use Rattle.lookup.proofs.search_values.Given as goal

abbrev pub invariant-loop-n : goal.invariant-loop-n
invariant-loop-n l =
    first_of (value_named l.bins l.minor l.name) (entries_of l.bins l.e) ≡ first_of (value_named l.bins l.minor l.name) (drop l.n (entries_of l.bins l.e))
