-- The values of a key whose names were asked for namesakes.
use Prim.Native.Nat.{ℕ, zero, suc, ◌+◌, ◌≤◌, ◌<◌}
use native.Mathlib.Omega.{arith}
use mathlib.Core.Path.{◌≡◌, refl, sym, ap, ap₂, subst, ◌∙◌}
use mathlib.Core.Bool.{Bool, true, false}
use mathlib.Core.List.{List, [], ◌∷◌, ◌++◌}
use lib.ListN.{length, drop}
use lib.Dec.{ltb}
use borrow.Author.Tests.{ltb-true, ltb-false}
use Rattle.names.specs.Comparison.{same_name}
use Rattle.fields.specs.declared.Fault.TheVariants.{Repeated}
use Rattle.fields.specs.Faults.{flaw, nowhere}
use Rattle.namesake_laws.specs.Repeats.{First}
use Rattle.forest.specs.Forest.{Item}
use Rattle.forest.specs.Faults.{Shape as Said, unlaid, opens, holds, closes, frame_len, shape_of, Open, within, fresh, is_new, is_named, is_small, Wrong, judge}
use Rattle.forest.specs.Behind.{add_values}
use Rattle.build_namesakes.specs.Rows.{start_of, Held, called}
use Rattle.build_namesakes.proofs.Rows.{held-named}
use Rattle.build_namesakes.proofs.Laws.{take_all, Listed, listed_start, listed-on, listed-names, listed-none}
use Rattle.build_namesakes.proofs.Judged.{new-at, row-passed, row-repeated}
use Rattle.build_measure.specs.declared.Values.{Values}
use Rattle.build_measure.specs.Terms.{item_of, items_from, AllValues, Asked, NoneTwice, TwiceAt}
use Rattle.build_measure.proofs.Rows.{start-next}

-- a frame that is no value
module _ {f : Said} where
  pub not-opens : {n : ℕ} {y : List ℕ} → f ≡ opens n y → (v : Item) → f ≡ holds v → ⊥
  not-opens e v q = let z = sym e ∙ q in let c : ◌≡◌ {A = ℕ} 0 1 = cc in omega arith

  pub not-closes : f ≡ closes → (v : Item) → f ≡ holds v → ⊥
  not-closes e v q = let z = sym e ∙ q in let c : ◌≡◌ {A = ℕ} 0 1 = cc in omega arith

  pub not-laid : f ≡ unlaid → (v : Item) → f ≡ holds v → ⊥
  not-laid e v q = let z = sym e ∙ q in let c : ◌≡◌ {A = ℕ} 0 1 = cc in omega arith

module _ (s : List ℕ) where
  pub items-length : (n at : ℕ) → length (items_from s at n) ≡ n
  unfolding items_from
  items-length zero at = refl
  items-length (suc n) at = ap suc (items-length n (at + frame_len (drop at s)))

  items-snoc : (n at : ℕ) → items_from s at (suc n) ≡ items_from s at n ++ (item_of (shape_of (drop (start_of s at n) s)) ∷ [])
  unfolding items_from start_of
  items-snoc zero at = refl
  items-snoc (suc n) at =
      let next = at + frame_len (drop at s) in
      ap (λ (vs : List Item). item_of (shape_of (drop at s)) ∷ vs)
      (items-snoc n next ∙ ap (λ (p : ℕ). items_from s next n ++ (item_of (shape_of (drop p s)) ∷ [])) (start-next s at n))

  held-is : (p : ℕ) → Held s p → shape_of (drop p s) ≡ holds (item_of (shape_of (drop p s)))
  unfolding item_of
  held-is p h = h.1 ∙ ap holds (sym (ap item_of h.1))

  pub listed-items : (at n : ℕ) → ((j : ℕ) → j < n → Held s (start_of s at j)) → Listed s at (items_from s at n)
  unfolding items_from
  listed-items at zero h = listed_start s at
  listed-items at (suc n) h =
      let old = listed-items at n (λ j q. h j (omega arith)) in
      let v = item_of (shape_of (drop (start_of s at n) s)) in
      let e = ap (λ (m : ℕ). shape_of (drop (start_of s at m) s)) (items-length n at) ∙ held-is (start_of s at n) (h n (omega arith)) in
      subst (Listed s at) (sym (items-snoc n at)) (listed-on s at old v e)

module _ {s : List ℕ} {at : ℕ} {r : Values} (x : AllValues s at r) where
  pub good-held : (j : ℕ) → j < r.count → Held s (start_of s at j)
  good-held j q = let g = x.passed.each j q in (item_of (shape_of (drop (start_of s at j) s)), g.is)

  good-both : (j : ℕ) → j < r.count → (is_named (shape_of (drop (start_of s at j) s)) ≡ true) × (is_small (shape_of (drop (start_of s at j) s)) ≡ true)
  good-both j q = let g = x.passed.each j q in (g.named, g.small)

  -- how many are asked
  pub asked-one : (v : Item) → shape_of (drop r.at s) ≡ holds v → Asked s at r (suc r.count)
  asked-one v e = record {
    row = record { each = λ j q. by j q (ltb j r.count) refl };
    least = omega arith;
    most = omega arith;
    held = λ w f. omega arith;
  }
    where
      by : (j : ℕ) → j < suc r.count → (t : Bool) → ltb j r.count ≡ t → Held s (start_of s at j)
      by j q true u = good-held j (ltb-true j r.count u)
      by j q false u =
          let z = ltb-false j r.count u in
          let y : r.count ≡ j = omega arith in
          (v, ap (λ (p : ℕ). shape_of (drop p s)) (sym (x.passed.ends ∙ ap (start_of s at) y)) ∙ e)

  pub asked-none : ((v : Item) → shape_of (drop r.at s) ≡ holds v → ⊥) → Asked s at r r.count
  asked-none n = record { row = record { each = good-held }; least = omega arith; most = omega arith; held = λ v e. absurd (n v e) }

  module _ {n i : ℕ} (a : Asked s at r n) (f : First (called s at) n i) where
    -- one has an earlier namesake
    pub twice-at : i < n → (p : ℕ) → p ≡ start_of s at i → TwiceAt s at p
    twice-at q p e ks =
        let vs = items_from s at n in
        let l = listed-items s at n a.row.each in
        let m = items-length s n at in
        let c = a.most in
        row-repeated s at vs l fresh ks refl refl i (subst (λ (k : ℕ). First (called s at) k i) (sym m) f) (omega arith) (λ j u. good-both j (omega arith))
        ∙ ap (Wrong (flaw Repeated nowhere)) (sym e)

    -- none has
    module _ (q : n ≤ i) where
      count-is : length (items_from s at r.count) ≡ r.count
      count-is = items-length s r.count at

      first_good : First (called s at) (length (items_from s at r.count)) (length (items_from s at r.count))
      first_good =
          let c = a.least in
          let m = count-is in
          record { within = omega arith; clear = λ j k u w. f.clear j k u (omega arith); found = λ u. absurd (omega arith) }

      listed-good : Listed s at (items_from s at r.count)
      listed-good = listed-items s at r.count good-held

      passed-good : (ks : List Open) → judge (drop at s) at (within (fresh ∷ ks)) ≡ judge (drop r.at s) r.at (within (add_values (items_from s at r.count) fresh ∷ ks))
      passed-good ks =
          let vs = items_from s at r.count in
          let m = count-is in
          row-passed s at vs listed-good fresh ks refl refl (length vs) first_good (length vs) (omega arith) (λ j u. good-both j (omega arith))
          ∙ ap₂ (λ (p : ℕ) (o : Open). judge (drop p s) p (within (o ∷ ks))) (ap (start_of s at) m ∙ sym x.passed.ends) (ap (λ (w : List Item). add_values w fresh) (take_all vs))

      new-good : (v : Item) → shape_of (drop r.at s) ≡ holds v → is_new v.name (add_values (items_from s at r.count) fresh).values ≡ true
      unfolding is_new
      new-good v e =
          let vs = items_from s at r.count in
          let m = count-is in
          let c = a.held v e in
          let w = f.within in
          let last : called s at r.count ≡ v.name = (held-named s (start_of s at r.count) (ap (λ (p : ℕ). shape_of (drop p s)) (sym x.passed.ends) ∙ e)).is in
          new-at v.name vs fresh refl (λ j u. ap₂ same_name (sym (listed-names listed-good j u)) (sym last) ∙ f.clear j r.count (omega arith) (omega arith))

      pub none-twice : NoneTwice s at r
      none-twice = record { judged = passed-good; apart = listed-none listed-good first_good (omega arith); new = new-good }
