-- The records of one free cell: what a turn of `find` keeps.
use Prim.Native.Nat.{ℕ, zero, suc, ◌+◌, ◌-◌, ◌*◌, ◌/◌, ◌%◌, ◌≤◌, ◌<◌}
use native.Mathlib.Omega.{arith}
use mathlib.Core.Path.{◌≡◌, refl, ap, ◌∙◌, subst}
use mathlib.Core.Bool.{Bool, true, false, cond}
use mathlib.Core.Logic.{⊎_elim}
use mathlib.Core.List.{List, [], ◌∷◌, ◌++◌}
use lib.Dec.{leb, ltb}
use borrow.Author.Tests.{le-leb, lt-leb, ltb-true, ltb-false}
use lib.ListN.{get_or}
use Rattle.cells.specs.Named.{data_to}
use Rattle.cells.specs.Free.{Span}
use Rattle.cells.specs.Terms.{gap_of, Without}
use Rattle.cells.proofs.Gaps.{gap-some, gap-none}
use Rattle.remnants.specs.declared.Kind.{Kind}
use Rattle.std.specs.Prelude.{None, Option, Some}
use Rattle.remnants.specs.declared.Remain.{Remain}
use Rattle.remnants.specs.Remnants.{kind_at, remain_at, spot, spots_n, spots_in, spots_of, not_below}
use Rattle.remnants.specs.Terms.{Free, Skipped, Going}
use Rattle.remnants.proofs.Held.{remain-offset, spot-none, unsigned}

module _ (from : ℕ) where
  pub below-append : (xs ys : List Remain) → not_below from (xs ++ ys) ≡ not_below from xs ++ not_below from ys
  unfolding not_below
  below-append [] ys = refl
  below-append (x ∷ xs) ys = by (leb from x.at.0) refl (below-append xs ys)
    where
      by : (t : Bool) → leb from x.at.0 ≡ t → not_below from (xs ++ ys) ≡ not_below from xs ++ not_below from ys
          → cond t (x ∷ not_below from (xs ++ ys)) (not_below from (xs ++ ys)) ≡ cond t (x ∷ not_below from xs) (not_below from xs) ++ not_below from ys
      by true e ih = ap (λ (l : List Remain). x ∷ l) ih
      by false e ih = ih

  pub below-keeps : (x : Remain) (xs : List Remain) → from ≤ x.at.0 → not_below from (x ∷ xs) ≡ x ∷ not_below from xs
  unfolding not_below
  below-keeps x xs p = rw (le-leb from x.at.0 p)

  pub below-skips : (x : Remain) (xs : List Remain) → x.at.0 < from → not_below from (x ∷ xs) ≡ not_below from xs
  unfolding not_below
  below-skips x xs p = rw (lt-leb from x.at.0 p)

  pub below-nil : not_below from [] ≡ []
  unfolding not_below
  below-nil = refl

  spot-below : (k : Option Kind) (f : Kind → Remain) → ((j : Kind) → (f j).at.0 < from) → not_below from (spot k f) ≡ []
  spot-below (Some j) f p = below-skips (f j) [] (p j) ∙ below-nil
  spot-below None f p = below-nil

module _ (d : List ℕ) where
  pub spots-step : {at end : ℕ} → at % 8 ≡ 0 → end % 8 ≡ 0 → at < end
      → spots_in d at end ≡ spot (kind_at d at end) (remain_at d at end) ++ spots_in d (at + 8) end
  unfolding spots_in spots_n
  spots-step {at} {end} p q lt =
      let e : (end - at) / 8 ≡ suc ((end - (at + 8)) / 8) = omega arith in
      ap (λ (n : ℕ). spots_n n d at end) e

  pub spots-end : (end : ℕ) → spots_in d end end ≡ []
  unfolding spots_in spots_n
  spots-end end = let e : (end - end) / 8 ≡ 0 = omega arith in ap (λ (n : ℕ). spots_n n d end end) e

  -- of the next free cell, where there is one, and of those behind it
  pub spots-nil : spots_of d [] ≡ []
  unfolding spots_of
  spots-nil = refl

  pub spots-gap : (ss : List Span) {at end : ℕ} → at ≤ end → spots_of d (gap_of at end ++ ss) ≡ spots_in d at end ++ spots_of d ss
  unfolding spots_of
  spots-gap ss {at} {end} p = by (ltb at end) refl
    where
      by : (t : Bool) → ltb at end ≡ t → spots_of d (gap_of at end ++ ss) ≡ spots_in d at end ++ spots_of d ss
      by true e = rw (gap-some (ltb-true at end e))
      by false e =
          let q : end ≡ at = omega (arith, ltb-false at end e) in
          rw (q, gap-none at, spots-end at)

  pub spots-some : {at end : ℕ} → at % 8 ≡ 0 → end % 8 ≡ 0 → at < end → {k : Kind} → Some k ≡ kind_at d at end
      → spots_in d at end ≡ remain_at d at end k ∷ spots_in d (at + 8) end
  spots-some {at} {end} p q lt s = spots-step p q lt ∙ rw (← s)

  module _ (from end : ℕ) where
    -- a position that holds nothing at or past `from`
    passes : {at : ℕ} → at % 8 ≡ 0 → end % 8 ≡ 0 → at < end → not_below from (spot (kind_at d at end) (remain_at d at end)) ≡ []
        → not_below from (spots_in d at end) ≡ not_below from (spots_in d (at + 8) end)
    passes {at} p q lt e =
        ap (not_below from) (spots-step p q lt) ∙ below-append from (spot (kind_at d at end) (remain_at d at end)) (spots_in d (at + 8) end) ∙ rw e

    skipping : (k at : ℕ) → at % 8 ≡ 0 → end % 8 ≡ 0 → at + 8 * k ≤ end → at + 8 * k ≤ from + 7
        → not_below from (spots_in d at end) ≡ not_below from (spots_in d (at + 8 * k) end)
    skipping zero at p q h n = ap (λ (x : ℕ). not_below from (spots_in d x end)) (omega arith)
    skipping (suc k) at p q h n =
        passes p q (omega arith) (spot-below from (kind_at d at end) (remain_at d at end) (λ j. let o = remain-offset d at end j in omega arith))
        ∙ skipping k (at + 8) (omega arith) q (omega arith) (omega arith)
        ∙ ap (λ (x : ℕ). not_below from (spots_in d x end)) (omega arith)

    pub going : {at o : ℕ} → Free d at end → Skipped at end from o → Going d at end from o
    going {at} {o} f s =
        record {
          low = s.low;
          free = record { order = s.high; eights = s.eights; ends = f.ends; inside = f.inside; small = f.small };
          past = s.past;
          same = ⊎_elim (λ e. rw e) by s.near;
        }
      where
        by : o ≤ from + 7 → not_below from (spots_in d at end) ≡ not_below from (spots_in d o end)
        by n =
            let k = (o - at) / 8 in
            let e : at + 8 * k ≡ o = omega (arith, s.low, s.eights, f.eights) in
            skipping k at f.eights f.ends (omega (arith, s.high)) (omega arith) ∙ ap (λ (x : ℕ). not_below from (spots_in d x end)) e

    module _ {at o : ℕ} (g : Going d at end from o) where
      pub going_on : o < end → kind_at d o end ≡ None → Going d at end from (o + 8)
      going_on lt e =
          let f = g.free in
          let p = g.past lt in
          record {
            low = omega (arith, g.low);
            free = record { order = omega (arith, f.eights, f.ends); eights = omega (arith, f.eights); ends = f.ends; inside = f.inside; small = f.small };
            past = λ h. omega arith;
            same = g.same ∙ passes f.eights f.ends lt (ap (not_below from) (spot-none (remain_at d o end) e) ∙ below-nil from);
          }

    -- positions without the second byte of the signatures hold nothing
    over : (k : ℕ) {at p r : ℕ} → Going d at end from p → p + 8 * k ≡ r → r ≤ end
        → ((o : ℕ) → p ≤ o → o < r → o % 8 ≡ 0 → get_or (data_to d o end) 1 0 ≡ 107 → ⊥) → Going d at end from r
    over zero {at} {p} {r} g e h n = subst (Going d at end from) (let q : p ≡ r = omega arith in q) g
    over (suc k) {at} {p} {r} g e h n =
        over k (going_on g (omega arith) (unsigned d p end (n p (omega arith) (omega arith) g.free.eights))) (omega arith) h
        (λ o a b c. n o (omega arith) b c)

    pub going-over : {at p r : ℕ} → Going d at end from p → Without d p end 1 107 r → Going d at end from r
    going-over {at} {p} {r} g w =
        let e : p + 8 * ((r - p) / 8) ≡ r = omega (arith, w.low, w.eights, g.free.eights) in
        over ((r - p) / 8) g e w.high w.none
