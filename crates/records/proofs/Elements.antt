-- The leaves that a list's loop reads are tested.
use Prim.Native.Nat.{ℕ, zero, suc, ◌<◌, ◌≤◌}
use native.Mathlib.Omega.{arith}
use mathlib.Core.Path.{◌≡◌, refl, sym, ap, ◌∙◌, subst}
use mathlib.Core.List.{List, [], ◌∷◌, Memᴰ}
use lib.ListN.{length, get_or}
use Rattle.fields.specs.declared.Offset.{Offset}
use Rattle.fields.specs.Faults.{nowhere}
use Rattle.cells.specs.Rule.{Map}
use Rattle.cells.specs.Named.{data_at}
use Rattle.records.specs.declared.Key.{Key}
use Rattle.records.specs.declared.Leaves.{Leaves}
use Rattle.records.specs.Lists.{children_in, leaves_below, children_below, leaf_fault, head_fault, lists_fault}
use Rattle.records.specs.Terms.{leaves_at, leaf_named, leaves_named, LeavesLie}
use Rattle.records.proofs.ListFacts.{list-room}
use Rattle.records.proofs.LawsLists.{below_none, below-some, lists-head, lists-leaf}
use Rattle.records.proofs.LawsPlaces.{named-at, named-length, head-tested, leaves-are}
use Rattle.std.specs.Prelude.{Ok}

-- what stands at an index is in the list
pub at_in : {A : Type 0} (xs : List A) (i : ℕ) (z : A) → i < length xs → Memᴰ (get_or xs i z) xs
at_in [] i z p = absurd (omega arith)
at_in (x ∷ xs) zero z p = Memᴰ.head refl
at_in (x ∷ xs) (suc i) z p = Memᴰ.tail (at_in xs i z (omega arith))

module _ (d : List ℕ) (ls : Leaves) (lie : LeavesLie d ls) (j : ℕ) {o : Offset} (p : j < ls.count) (q : o ≡ leaf_named d ls j) where
  pub leaf-there : o ≡ get_or (leaves_named d ls) j nowhere
  leaf-there = q ∙ named-at d ls lie j p

  pub leaf-in : Memᴰ o (leaves_named d ls)
  leaf-in = rw leaf-there (at_in (leaves_named d ls) j nowhere (omega (arith, named-length d ls lie)))

-- a key without subkeys has no children, and one with some has those of its leaves
pub no-children : (d : List ℕ) (k : Key) → k.subkeys ≡ 0 → children_below d k ≡ []
unfolding children_below children_in
no-children d k e = rw (below_none d k e)

module _ (d m : List ℕ) (k : Key) (e : lists_fault Map d m k ≡ Ok tt) (ne : k.subkeys ≡ 0 → ⊥) where
  pub head-sound : head_fault Map d m k.list ≡ Ok tt
  head-sound = lists-head Map d m k e ne

  pub head-room : 4 ≤ length (data_at d k.list)
  head-room = list-room (data_at d k.list) (head-tested Map d m k.list head-sound)

  module _ {ls : Leaves} (q : ls ≡ leaves_at d k.list) where
    as-leaves : leaves_below d k ≡ leaves_named d ls
    as-leaves = below-some d k ne ∙ sym (ap (leaves_named d) q ∙ leaves-are d k.list)

    pub as-list : children_below d k ≡ children_in d (leaves_named d ls)
    unfolding children_below
    as-list = ap (children_in d) as-leaves

    pub each-sound : (o : Offset) → Memᴰ o (leaves_named d ls) → leaf_fault Map d m o ≡ Ok tt
    each-sound o i = lists-leaf Map d m k e o (subst (λ (xs : List Offset). Memᴰ o xs) (sym as-leaves) i)
