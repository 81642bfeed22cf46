-- The first fault over a list, found by a loop: the invariant is that what is left answers as the whole does.
use Prim.Native.Nat.{ℕ, zero, suc, ◌+◌, ◌<◌, ◌≤◌}
use native.Mathlib.Omega.{arith}
use native.Mathlib.Numerals.{add-one}
use mathlib.Core.Path.{◌≡◌, refl, ap, ◌∙◌}
use mathlib.Core.List.Memᴰ
use mathlib.Core.List.{List, [], ◌∷◌, Memᴰ}
use mathlib.Core.Logic.{⊎_elim}
use lib.ListN.{length, get_or, drop}
use lib.Seq.{drop-cons}
use Rattle.fields.specs.declared.Flaw.{Flaw}
use Rattle.fields.specs.Faults.{fault_over, Verdict}
use Rattle.fields.proofs.Firsts.{on, stop, both, sound}
use Rattle.std.specs.Prelude.{Err, Ok}

pub drop_all : {A : Type 0} (xs : List A) (j : ℕ) → length xs ≤ j → drop j xs ≡ []
drop_all [] zero q = refl
drop_all [] (suc j) q = refl
drop_all (x ∷ xs) zero q = absurd (omega arith)
drop_all (x ∷ xs) (suc j) q = drop_all xs j (omega arith)

module _ {A : Type 0} (each : A → Verdict) where
  over-stop : (x : A) (xs : List A) {f : Flaw} → each x ≡ Err f → fault_over each (x ∷ xs) ≡ Err f
  unfolding fault_over
  over-stop x xs e = stop (each x) _ e

  over-on : (x : A) (xs : List A) → each x ≡ Ok tt → fault_over each (x ∷ xs) ≡ fault_over each xs
  unfolding fault_over
  over-on x xs e = on (each x) _ e

  over-nil : fault_over each [] ≡ Ok tt
  unfolding fault_over
  over-nil = refl

  -- `d` is what stands past the end of the list
  module _ (xs : List A) (i : ℕ) (d : A) (inv : fault_over each xs ≡ fault_over each (drop i xs)) where
    pub loop-stop : (x : A) {f : Flaw} → i < length xs → x ≡ get_or xs i d → each x ≡ Err f → fault_over each xs ≡ Err f
    loop-stop x p q e = inv ∙ rw (drop-cons xs i d p, ← q) (over-stop x _ e)

    pub loop-on : (x : A) → i < length xs → x ≡ get_or xs i d → each x ≡ Ok tt → fault_over each xs ≡ fault_over each (drop (i + 1) xs)
    loop-on x p q e = inv ∙ rw (drop-cons xs i d p, ← q, add-one i) (over-on x _ e)

    pub loop-end : length xs ≤ i → fault_over each xs ≡ Ok tt
    loop-end p = inv ∙ rw (drop_all xs i p) over-nil

  -- all are sound exactly when each is
  pub over-each : (xs : List A) → fault_over each xs ≡ Ok tt → (x : A) → Memᴰ x xs → each x ≡ Ok tt
  unfolding fault_over
  over-each [] e x i = absurd (Memᴰ.not-nil i)
  over-each (y ∷ xs) e x i =
      let p = both (each y) _ e in
      ⊎_elim (λ q. ap each q ∙ p.0) (λ j. over-each xs p.1 x j) (Memᴰ.cases_cons i)

  pub each_over : (xs : List A) → ((x : A) → Memᴰ x xs → each x ≡ Ok tt) → fault_over each xs ≡ Ok tt
  unfolding fault_over
  each_over [] f = refl
  each_over (y ∷ xs) f = sound (each y) _ (f y (Memᴰ.head refl)) (each_over xs (λ x i. f x (Memᴰ.tail i)))
