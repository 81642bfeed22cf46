-- In a list of leaves without fault, what a mark stands at is the first of what is left from it on, and behind it stands the rest.
use Prim.Native.Nat.{ℕ, suc, ◌+◌, ◌<◌}
use native.Mathlib.Omega.{arith}
use native.Mathlib.Numerals.{add-one}
use mathlib.Core.Path.{◌≡◌, refl, sym, ap, ◌∙◌, subst}
use mathlib.Core.Bool.{Bool, true, false}
use mathlib.Core.List.Memᴰ
use mathlib.Core.List.{List, [], ◌∷◌, ◌++◌, Memᴰ}
use lib.Dec.{eqb, leb, ltb}
use lib.ListN.{length, get_or, drop, length-append, get_or-append}
use lib.Seq.{drop-cons, drop-nil, drop-append_seam}
use borrow.Author.Tests.{eqb-false, leb-true, leb-false, ltb-true, ltb-false, lt-leb}
use Rattle.fields.specs.declared.Offset.{Offset}
use Rattle.fields.specs.Faults.{nowhere}
use Rattle.fields.proofs.Loops.{drop_all}
use Rattle.cells.specs.Rule.{Header}
use Rattle.cells.specs.Named.{data_at}
use Rattle.cells.specs.Tiled.{BinsTile}
use Rattle.records.specs.declared.Child.{Child}
use Rattle.records.specs.Keys.{key_of}
use Rattle.records.specs.Lists.{leaf_fault, leaf_children, leaves_of, children_in, leaves_below}
use Rattle.records.specs.Terms.{no_child}
use Rattle.records.proofs.Elements.{at_in}
use Rattle.records.proofs.LawsPlaces.{leaf-some}
use Rattle.tree.specs.declared.Hive.{Hive}
use Rattle.tree.specs.WellFormed.{KeyStands}
use Rattle.search.proofs.Finds.{list-head, leaves-good}
use Rattle.search.proofs.Refusals.{in-leaves}
use Rattle.walk.specs.declared.Mark.{Mark}
use Rattle.walk.specs.Answers.{mark_after, next_of, next_in, next_below}
use Rattle.walk.proofs.Ways.{after_more, after_last}
use Rattle.fields.specs.declared.Flaw.{Flaw}
use Rattle.std.specs.Prelude.{None, Ok, Option, Result, Some}

-- the elements of leaf j, and those of all leaves from a mark on
abbrev pub elements_in : List ℕ → List Offset → ℕ → List Child
elements_in d ls j = leaf_children (data_at d (get_or ls j nowhere))

abbrev pub left : List ℕ → List Offset → Mark → List Child
left d ls m = drop m.element (children_in d (drop m.leaf ls))

none_left : (d : List ℕ) (m : Mark) → drop m.element (children_in d []) ≡ []
unfolding children_in
none_left d m = drop-nil m.element

-- the element of a mark stands in the mark's leaf, where there is such a leaf
pub record Inside (d : List ℕ) (ls : List Offset) (m : Mark) : Type 0 where
  pub inside : m.leaf < length ls → m.element < length (elements_in d ls m.leaf)

-- what comes next
pub data NextIs (d : List ℕ) (ls : List Offset) (m : Mark) : Result (Option (Offset × Mark)) Flaw → Type 0 where
  no_more : left d ls m ≡ [] → NextIs d ls m (Ok None)
  one_more : (c : Child) (m' : Mark) → left d ls m ≡ c ∷ left d ls m' → Memᴰ c (children_in d ls) → Inside d ls m' → NextIs d ls m (Ok (Some (c.at, m')))

module _ (d : List ℕ) (ls : List Offset) (good : (l : Offset) → Memᴰ l ls → leaf_fault Header d [] l ≡ Ok tt) where
  -- at the first element of a leaf
  pub inside-first : (j : ℕ) → Inside d ls (record { leaf = j; element = 0 })
  inside-first j =
      record { inside = λ p. leaf-some Header d [] (get_or ls j nowhere) (good (get_or ls j nowhere) (at_in ls j nowhere p)) }

  module _ (m : Mark) (p : m.leaf < length ls) (q : m.element < length (elements_in d ls m.leaf)) where
    from-leaf : children_in d (drop m.leaf ls) ≡ elements_in d ls m.leaf ++ children_in d (drop (suc m.leaf) ls)
    unfolding children_in
    from-leaf = rw (drop-cons ls m.leaf nowhere p)

    first-left : left d ls m
        ≡ get_or (elements_in d ls m.leaf) m.element no_child ∷ drop (suc m.element) (elements_in d ls m.leaf ++ children_in d (drop (suc m.leaf) ls))
    first-left =
        let xs = elements_in d ls m.leaf in
        let ys = children_in d (drop (suc m.leaf) ls) in
        let s = length-append xs ys in
        ap (drop m.element) from-leaf
        ∙ drop-cons (xs ++ ys) m.element no_child (omega arith)
        ∙ ap (λ (c : Child). c ∷ drop (suc m.element) (xs ++ ys)) (get_or-append xs ys no_child m.element q)

    moved : left d ls (mark_after m (length (elements_in d ls m.leaf)))
        ≡ drop (suc m.element) (elements_in d ls m.leaf ++ children_in d (drop (suc m.leaf) ls))
    moved = by (ltb (m.element + 1) (length xs)) refl
      where
        xs : List Child
        xs = elements_in d ls m.leaf

        by : (t : Bool) → ltb (m.element + 1) (length xs) ≡ t
            → left d ls (mark_after m (length xs)) ≡ drop (suc m.element) (xs ++ children_in d (drop (suc m.leaf) ls))
        by true e =
            ap (left d ls) (after_more m (length xs) (ltb-true _ _ e))
            ∙ ap (drop (m.element + 1)) from-leaf
            ∙ ap (λ (n : ℕ). drop n (xs ++ children_in d (drop (suc m.leaf) ls))) (add-one m.element)
        by false e =
            let z = ltb-false (m.element + 1) (length xs) e in
            let y : length xs ≡ suc m.element = omega arith in
            ap (left d ls) (after_last m (length xs) z)
            ∙ ap (λ (n : ℕ). children_in d (drop n ls)) (add-one m.leaf)
            ∙ sym (ap (λ (n : ℕ). drop n (xs ++ children_in d (drop (suc m.leaf) ls))) (sym y)
            ∙ drop-append_seam xs (children_in d (drop (suc m.leaf) ls)))

    inside-after : Inside d ls (mark_after m (length (elements_in d ls m.leaf)))
    inside-after = by (ltb (m.element + 1) (length xs)) refl
      where
        xs : List Child
        xs = elements_in d ls m.leaf

        by : (t : Bool) → ltb (m.element + 1) (length xs) ≡ t → Inside d ls (mark_after m (length xs))
        by true e =
            let z = ltb-true (m.element + 1) (length xs) e in
            subst (λ (x : Mark). Inside d ls x) (sym (after_more m (length xs) z)) (record { inside = λ u. z })
        by false e =
            subst (λ (x : Mark). Inside d ls x) (sym (after_last m (length xs) (ltb-false (m.element + 1) (length xs) e))) (inside-first (m.leaf + 1))

  pub next-among : (m : Mark) → Inside d ls m → NextIs d ls m (next_in d ls m)
  unfolding next_in next_of
  next-among m i = by (leb (length ls) m.leaf) refl
    where
      by : (t : Bool) → leb (length ls) m.leaf ≡ t → NextIs d ls m (next_in d ls m)
      by true e =
          let p = leb-true (length ls) m.leaf e in
          rw e (no_more (ap (λ (xs : List Offset). drop m.element (children_in d xs)) (drop_all ls m.leaf p) ∙ none_left d m))
      by false e =
          let p = leb-false (length ls) m.leaf e in
          let q = i.inside p in
          let l = get_or ls m.leaf nowhere in
          let j = at_in ls m.leaf nowhere p in
          let xs = elements_in d ls m.leaf in
          let c = get_or xs m.element no_child in
          rw (e, good l j, lt-leb (length xs) m.element q)
          (one_more c (mark_after m (length xs)) (first-left m p q ∙ ap (λ (ys : List Child). c ∷ ys) (sym (moved m p q)))
          (in-leaves d ls j (at_in xs m.element no_child q))
          (inside-after m p q))

-- below a key that stands
module _ (d : List ℕ) (hive : Hive) (tiles : BinsTile d 0) (o : Offset) (s : KeyStands d hive.minor o) where
  -- its leaves are good
  pub below-good : (l : Offset) → Memᴰ l (leaves_below d (key_of d o)) → leaf_fault Header d [] l ≡ Ok tt
  unfolding leaves_below
  below-good l = by (eqb (key_of d o).subkeys 0) refl
    where
      by : (t : Bool) → eqb (key_of d o).subkeys 0 ≡ t → Memᴰ l (leaves_below d (key_of d o)) → leaf_fault Header d [] l ≡ Ok tt
      by true e i = absurd (Memᴰ.not-nil (rw e at i))
      by false e i = leaves-good d hive tiles (key_of d o).list (s.lists (eqb-false _ _ e)) l (rw e at i)

  pub next-stands : (m : Mark) → Inside d (leaves_below d (key_of d o)) m → NextIs d (leaves_below d (key_of d o)) m (next_below d (key_of d o) m)
  unfolding next_below leaves_below
  next-stands m i = by (eqb (key_of d o).subkeys 0) refl
    where
      by : (t : Bool) → eqb (key_of d o).subkeys 0 ≡ t → NextIs d (leaves_below d (key_of d o)) m (next_below d (key_of d o) m)
      by true e = rw e (no_more (ap (λ (xs : List Offset). drop m.element (children_in d xs)) (drop-nil m.leaf) ∙ none_left d m))
      by false e =
          let l = s.lists (eqb-false _ _ e) in
          rw (e, list-head d hive tiles (key_of d o).list l)
          (next-among d (leaves_of d (key_of d o).list) (leaves-good d hive tiles (key_of d o).list l) m (rw e at i))
