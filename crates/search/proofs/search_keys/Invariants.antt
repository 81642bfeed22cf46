use Rattle.std.proofs.Common.{◌≡◌, drop}
use Rattle.records.specs.Terms.{elements_of}
use Rattle.search.specs.Search.{key_named, first_of}
use Rattle.search.proofs.search_keys.Given as goal

abbrev pub invariant-loop-i : goal.invariant-loop-i
invariant-loop-i l =
    first_of (key_named l.bins l.name) (elements_of l.bins l.leaf) ≡ first_of (key_named l.bins l.name) (drop l.i (elements_of l.bins l.leaf))
