use Rattle.records.specs.Terms.{leaves_named}
use Rattle.listing.specs.Members.{nth_in}
use lib.ListN.{drop}
use mathlib.Core.Path.{◌≡◌}
use Rattle.listing.proofs.nth_in.Given as goal

abbrev pub invariant-loop-j : goal.invariant-loop-j
invariant-loop-j l = nth_in l.bins (leaves_named l.bins l.ls) l.n ≡ nth_in l.bins (drop l.j (leaves_named l.bins l.ls)) l.left
