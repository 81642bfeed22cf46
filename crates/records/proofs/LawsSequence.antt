-- The sequences: offsets one after the other, the elements of a leaf, and the elements of several leaves. Of each the length and an element.
use Prim.Native.Nat.{ℕ, zero, suc, ◌+◌, ◌*◌, ◌<◌, ◌≤◌}
use native.Mathlib.Numerals.{add-one}
use native.Mathlib.Omega.{arith}
use mathlib.Core.Path.{◌≡◌, refl, sym, ap, ◌∙◌}
use mathlib.Core.List.{List, [], ◌∷◌, ◌++◌, append_assoc}
use lib.ListN.{length, get_or, drop, length-append}
use lib.Seq.{drop-cons}
use Rattle.fields.specs.declared.Offset.{Offset}
use Rattle.fields.proofs.Loops.{drop_all}
use Rattle.cells.specs.Named.{data_at}
use Rattle.records.specs.declared.Child.{Child}
use Rattle.records.specs.Offsets.{offset_at, offsets_at}
use Rattle.records.specs.Lists.{count_of, child_at, children_from, leaf_children, children_in}

module _ (r : List ℕ) where
  pub offsets-length : (p n : ℕ) → length (offsets_at r p n) ≡ n
  unfolding offsets_at
  offsets-length p zero = refl
  offsets-length p (suc n) = ap suc (offsets-length (p + 4) n)

  -- z is what stands past the end
  pub offsets-at : (p n i : ℕ) (z : Offset) → i < n → get_or (offsets_at r p n) i z ≡ offset_at r (p + 4 * i)
  unfolding offsets_at
  offsets-at p zero i z h = absurd (omega arith)
  offsets-at p (suc n) zero z h = let e : p ≡ p + 4 * 0 = omega arith in ap (λ (k : ℕ). offset_at r k) e
  offsets-at p (suc n) (suc i) z h =
      let e : p + 4 + 4 * i ≡ p + 4 * suc i = omega arith in
      offsets-at (p + 4) n i z (omega arith) ∙ ap (λ (k : ℕ). offset_at r k) e

  pub from-length : (i n : ℕ) → length (children_from r i n) ≡ n
  unfolding children_from
  from-length i zero = refl
  from-length i (suc n) = ap suc (from-length (suc i) n)

  pub from_at : (i n j : ℕ) (z : Child) → j < n → get_or (children_from r i n) j z ≡ child_at r (i + j)
  unfolding children_from
  from_at i zero j z h = absurd (omega arith)
  from_at i (suc n) zero z h = let e : i ≡ i + 0 = omega arith in ap (child_at r) e
  from_at i (suc n) (suc j) z h =
      let e : suc i + j ≡ i + suc j = omega arith in
      from_at (suc i) n j z (omega arith) ∙ ap (child_at r) e

  pub leaf-children-length : length (leaf_children r) ≡ count_of r
  unfolding leaf_children
  leaf-children-length = from-length 0 (count_of r)

  pub leaf-children-at : (j : ℕ) (z : Child) → j < count_of r → get_or (leaf_children r) j z ≡ child_at r j
  unfolding leaf_children
  leaf-children-at j z h = let e : 0 + j ≡ j = omega arith in from_at 0 (count_of r) j z h ∙ ap (child_at r) e

module _ (d : List ℕ) where
  in-cons : (l : Offset) (ls : List Offset) → children_in d (l ∷ ls) ≡ leaf_children (data_at d l) ++ children_in d ls
  unfolding children_in
  in-cons l ls = refl

  in-append : (ks ls : List Offset) → children_in d (ks ++ ls) ≡ children_in d ks ++ children_in d ls
  unfolding children_in
  in-append [] ls = refl
  in-append (k ∷ ks) ls =
      ap (λ (cs : List Child). leaf_children (data_at d k) ++ cs) (in-append ks ls)
      ∙ sym (append_assoc (leaf_children (data_at d k)) (children_in d ks) (children_in d ls))

  -- the elements are counted leaf by leaf
  pub count-on : (ls : List Offset) (j : ℕ) (z l : Offset) → j < length ls → l ≡ get_or ls j z
      → length (children_in d (drop j ls)) ≡ count_of (data_at d l) + length (children_in d (drop (j + 1) ls))
  count-on ls j z l h e =
      let c = leaf-children-length (data_at d l) in
      rw (add-one, drop-cons ls j z h, ← e, in-cons l (drop (suc j) ls))
      (length-append (leaf_children (data_at d l)) (children_in d (drop (suc j) ls)) ∙ omega arith)

  pub count-end : (ls : List Offset) (j : ℕ) → length ls ≤ j → length (children_in d (drop j ls)) ≡ 0
  unfolding children_in
  count-end ls j h = rw (drop_all ls j h)
