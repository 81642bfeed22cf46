use Rattle.std.proofs.Common.{◌≡◌, drop}
use Rattle.records.specs.Terms.{leaves_named}
use Rattle.search.specs.Search.{search_leaf, first_of}
use Rattle.search.proofs.search_leaves.Given as goal

abbrev pub invariant-loop-j : goal.invariant-loop-j
invariant-loop-j l =
    first_of (search_leaf l.bins l.name) (leaves_named l.bins l.ls) ≡ first_of (search_leaf l.bins l.name) (drop l.j (leaves_named l.bins l.ls))
