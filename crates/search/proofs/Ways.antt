-- What a key, a leaf and a list that were read say: their tests passed, or the flaw.
use Rattle.std.proofs.Common.{◌≡◌, ℕ, List}
use Rattle.fields.specs.declared.Offset.{Offset}
use Rattle.records.specs.declared.Leaf.{Leaf}
use Rattle.records.specs.Terms.{child_named}
use Rattle.search.specs.Search.{key_named}
use Rattle.search.specs.Terms.{by_offset}
use Rattle.records.proofs.LawsAnswer.{called-whole, called-flawed, leafed-whole, leafed-flawed, headed-whole, headed-flawed}
use Rattle.records.proofs.LawsKey.{name-room}
use Rattle.records.proofs.LawsPlaces.{elements_lie, leaf-some, leaf-count, leaves-lie, leaves-are}
use Rattle.records.proofs.LawsElements.{elements-are}

pub ruleset key_ways = (called-whole, called-flawed, name-room)

pub ruleset leaf_ways = (leafed-whole, leafed-flawed, elements_lie, elements-are, leaf-some, leaf-count)

pub ruleset list_ways = (headed-whole, headed-flawed, leaves-lie, leaves-are)

-- an element of a leaf, by the offset that it holds
pub key-by : (d x : List ℕ) (l : Leaf) (i : ℕ) {o : Offset} → o ≡ (child_named d l i).at → key_named d x (by_offset o) ≡ key_named d x (child_named d l i)
unfolding key_named
key-by d x l i p = rw p
