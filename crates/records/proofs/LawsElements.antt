-- The elements that a leaf's loop reads are its children.
use Prim.Native.Nat.{ℕ, zero, suc, ◌+◌, ◌<◌}
use native.Mathlib.Omega.{arith}
use mathlib.Core.Path.{◌≡◌, refl, sym, ap, ap₂, ◌∙◌}
use mathlib.Core.List.{List, ◌∷◌}
use lib.ListN.{length, get_or}
use Rattle.fields.specs.declared.Offset.{Offset}
use Rattle.cells.specs.Named.{data_at}
use Rattle.records.specs.declared.Child.{Child}
use Rattle.records.specs.declared.Leaf.{Leaf}
use Rattle.records.specs.Lists.{count_of, children_from, leaf_children}
use Rattle.records.specs.Terms.{leaf_in, leaf_of, child_named, elements_from, elements_of, no_child}
use Rattle.records.proofs.LawsPlaces.{child-is}

module _ (d : List ℕ) (l : Leaf) where
  from-length : (i n : ℕ) → length (elements_from d l i n) ≡ n
  unfolding elements_from
  from-length i zero = refl
  from-length i (suc n) = ap suc (from-length (suc i) n)

  pub elements-length : length (elements_of d l) ≡ l.count
  unfolding elements_of
  elements-length = from-length 0 l.count

  from_at : (i n j : ℕ) → j < n → get_or (elements_from d l i n) j no_child ≡ child_named d l (i + j)
  unfolding elements_from
  from_at i zero j p = absurd (omega arith)
  from_at i (suc n) zero p = let e : i ≡ i + 0 = omega arith in ap (child_named d l) e
  from_at i (suc n) (suc j) p = let e : suc i + j ≡ i + suc j = omega arith in from_at (suc i) n j (omega arith) ∙ ap (child_named d l) e

  pub element-at : (i : ℕ) {c : Child} → i < l.count → c ≡ child_named d l i → c ≡ get_or (elements_of d l) i no_child
  unfolding elements_of
  element-at i p q = let e : 0 + i ≡ i = omega arith in q ∙ sym (from_at 0 l.count i p ∙ ap (child_named d l) e)

module _ (d : List ℕ) (o : Offset) where
  from-are : (i n : ℕ) → elements_from d (leaf_of d o) i n ≡ children_from (data_at d o) i n
  unfolding elements_from children_from
  from-are i zero = refl
  from-are i (suc n) = ap₂ ◌∷◌ (child-is d o i) (from-are (suc i) n)

  count-is : (leaf_of d o).count ≡ count_of (data_at d o)
  unfolding leaf_of leaf_in
  count-is = refl

  of-leaf : elements_of d (leaf_of d o) ≡ leaf_children (data_at d o)
  unfolding elements_of leaf_children
  of-leaf = ap (elements_from d (leaf_of d o) 0) count-is ∙ from-are 0 (count_of (data_at d o))

  pub elements-are : {l : Leaf} → l ≡ leaf_of d o → leaf_children (data_at d o) ≡ elements_of d l
  elements-are q = sym (ap (elements_of d) q ∙ of-leaf)
