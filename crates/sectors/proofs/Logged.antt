-- `same_bytes` is equality, and what the test that logged pages are in says of them.
use Prim.Native.Nat.{ℕ, zero, suc, ◌<◌}
use native.Mathlib.Decide.{le_ind, ℕ_discrete}
use native.Mathlib.Nat.{not-suc-le-zero}
use native.Mathlib.Omega.{arith}
use mathlib.Core.Path.{◌≡◌, refl, sym, ap, ap₂, ◌∙◌}
use mathlib.Core.Bool.{Bool, true, false, not, ◌&&◌, ◌||◌, false≢true}
use mathlib.Core.List.{List, [], ◌∷◌}
use lib.Dec.{eqb}
use borrow.Author.Tests.{eqb-true}
use Rattle.fields.specs.Bytes.{same_bytes}
use Rattle.fields.proofs.Bools.{and-inv, and_both}
use Rattle.fields.proofs.Written.{same_refl}
use Rattle.sectors.specs.Sector.{page}
use Rattle.sectors.specs.Logged.{is_in, in_below}

pub same_true : (a b : List ℕ) → same_bytes a b ≡ true → a ≡ b
unfolding same_bytes
same_true [] [] e = refl
same_true [] (y ∷ b) e = absurd (false≢true e)
same_true (x ∷ a) [] e = absurd (false≢true e)
same_true (x ∷ a) (y ∷ b) e = let i = and-inv (eqb x y) (same_bytes a b) e in ap₂ ◌∷◌ (eqb-true x y i.0) (same_true a b i.1)

module _ (is : ℕ → Bool) (bytes : ℕ → List ℕ) (h : List ℕ) where
  pub not-logged : (p : ℕ) → is p ≡ false → is_in is bytes h p ≡ true
  not-logged p e = ap (λ (b : Bool). not b || same_bytes (page h p) (bytes p)) e

  pub by_bytes : (p : ℕ) → is p ≡ true → is_in is bytes h p ≡ same_bytes (page h p) (bytes p)
  by_bytes p e = ap (λ (b : Bool). not b || same_bytes (page h p) (bytes p)) e

  -- one page that is not in
  pub in-false : (p n : ℕ) → p < n → is_in is bytes h p ≡ false → in_below is bytes n h ≡ false
  unfolding in_below
  in-false p n g e =
      le_ind (λ (m : ℕ). in_below is bytes m h ≡ false) (last (in_below is bytes p h) e) (λ m k i. ap (λ (b : Bool). b && is_in is bytes h m) i) n g
    where
      last : (a : Bool) {b : Bool} → b ≡ false → (a && b) ≡ false
      last true i = i
      last false i = refl

  in-true : (p : ℕ) → is_in is bytes h p ≡ true → is p ≡ true → page h p ≡ bytes p
  in-true p e m = same_true (page h p) (bytes p) (sym (by_bytes p m) ∙ e)

  true-in : (p : ℕ) → (is p ≡ true → page h p ≡ bytes p) → is_in is bytes h p ≡ true
  true-in p f = go (is p) refl
    where
      go : (m : Bool) → is p ≡ m → is_in is bytes h p ≡ true
      go true e = by_bytes p e ∙ ap (λ (x : List ℕ). same_bytes x (bytes p)) (f e) ∙ same_refl (bytes p)
      go false e = not-logged p e

  -- each logged page below n is in, exactly when the test says so
  pub below_in : (n : ℕ) → in_below is bytes n h ≡ true → (p : ℕ) → p < n → is p ≡ true → page h p ≡ bytes p
  unfolding in_below
  below_in zero e p g m = absurd (not-suc-le-zero g)
  below_in (suc n) e p g m = go (λ a k. below_in n a p k m) (ℕ_discrete p n)
    where
      halves : (in_below is bytes n h ≡ true) × (is_in is bytes h n ≡ true)
      halves = and-inv (in_below is bytes n h) (is_in is bytes h n) e

      go : (in_below is bytes n h ≡ true → p < n → page h p ≡ bytes p) → Dec (p ≡ n) → page h p ≡ bytes p
      go rest (yes q) = in-true p (ap (is_in is bytes h) q ∙ halves.1) m
      go rest (no q) = rest halves.0 (omega arith)

  pub in-below : (n : ℕ) → ((p : ℕ) → is p ≡ true → page h p ≡ bytes p) → in_below is bytes n h ≡ true
  unfolding in_below
  in-below zero f = refl
  in-below (suc n) f = and_both (in-below n f) (true-in n (f n))
