-- The recursion over a list with what was passed, by positions.
use Prim.Native.Nat.{ℕ, zero, suc, ◌<◌, ◌≤◌}
use native.Mathlib.Omega.{arith}
use mathlib.Core.Path.{◌≡◌, refl, sym, ap, ◌∙◌}
use mathlib.Core.Bool.{Bool, true, false, not, ◌||◌}
use mathlib.Core.List.{List, [], ◌∷◌}
use lib.ListN.{length, get_or}
use borrow.Author.Tests.{not-true}
use Rattle.fields.specs.declared.Fault.TheVariants.{Namesake}
use Rattle.fields.specs.declared.Flaw.{Flaw}
use Rattle.fields.specs.declared.Offset.{Offset}
use Rattle.fields.specs.Faults.{nowhere, flaw}
use Rattle.fields.proofs.Bools.{never}
use Rattle.fields.proofs.Firsts.{on, stop, both, held, holds, fails}
use Rattle.namesakes.specs.Namesakes.{are_namesakes, is_repeat, repeat_fault}
use Rattle.std.specs.Prelude.{Err, Ok}

-- what was passed at a position
unfoldable pub passed_at : List Offset → List Offset → ℕ → List Offset
passed_at passed vs zero = passed
passed_at passed [] (suc j) = passed
passed_at passed (v ∷ vs) (suc j) = passed_at (v ∷ passed) vs j

module _ (d : List ℕ) where
  -- whether the value at a position is a repeat
  abbrev pub repeat_at : List Offset → List Offset → ℕ → Bool
  repeat_at passed vs j = is_repeat d (passed_at passed vs j) (get_or vs j nowhere)

  pub none-repeats : (passed vs : List Offset) → ((j : ℕ) → j < length vs → repeat_at passed vs j ≡ false) → repeat_fault d passed vs ≡ Ok tt
  unfolding repeat_fault passed_at
  none-repeats passed [] h = refl
  none-repeats passed (v ∷ vs) h =
      on _ _ (holds (flaw Namesake v) (ap not (h 0 (omega arith))))
      ∙ none-repeats (v ∷ passed) vs (λ j l. h (suc j) (omega arith))

  pub one-repeats : (passed vs : List Offset) (j : ℕ) → j < length vs → ((i : ℕ) → i < j → repeat_at passed vs i ≡ false) → repeat_at passed vs j ≡ true
      → repeat_fault d passed vs ≡ Err (flaw Namesake (get_or vs j nowhere))
  unfolding repeat_fault passed_at
  one-repeats passed [] j l h e = absurd (omega arith)
  one-repeats passed (v ∷ vs) zero l h e = stop _ _ (fails (flaw Namesake v) (ap not e))
  one-repeats passed (v ∷ vs) (suc j) l h e =
      on _ _ (holds (flaw Namesake v) (ap not (h 0 (omega arith))))
      ∙ one-repeats (v ∷ passed) vs j (omega arith) (λ i k. h (suc i) (omega arith)) e

  pub sound-at : (passed vs : List Offset) → repeat_fault d passed vs ≡ Ok tt → (j : ℕ) → j < length vs → repeat_at passed vs j ≡ false
  unfolding repeat_fault passed_at
  sound-at passed [] s j l = absurd (omega arith)
  sound-at passed (v ∷ vs) s zero l = not-true _ (held _ _ (both _ _ s).0)
  sound-at passed (v ∷ vs) s (suc j) l = sound-at (v ∷ passed) vs (both _ _ s).1 j (omega arith)

  -- where a flaw stands
  pub record Stands (passed vs : List Offset) (f : Flaw) : Type 0 where
    pub at : ℕ
    pub inside : at < length vs
    pub says : f ≡ flaw Namesake (get_or vs at nowhere)
    pub repeat : repeat_at passed vs at ≡ true
    pub lowest : (i : ℕ) → i < at → repeat_at passed vs i ≡ false

  pub flawed-at : (passed vs : List Offset) {f : Flaw} → repeat_fault d passed vs ≡ Err f → Stands passed vs f
  unfolding repeat_fault passed_at
  flawed-at passed [] e = absurd (let z : ◌≡◌ {A = ℕ} 0 1 = cc in omega arith)
  flawed-at passed (v ∷ vs) {f} e = by (λ q. flawed-at (v ∷ passed) vs q) (is_repeat d passed v) refl
    where
      further : is_repeat d passed v ≡ false → Stands (v ∷ passed) vs f → Stands passed (v ∷ vs) f
      further q s =
          record {
            at = suc s.at;
            inside = let z = s.inside in omega arith;
            says = s.says;
            repeat = s.repeat;
            lowest = low;
          }
        where
          low : (i : ℕ) → i < suc s.at → repeat_at passed (v ∷ vs) i ≡ false
          low zero l = q
          low (suc i) l = s.lowest i (omega arith)

      by : (repeat_fault d (v ∷ passed) vs ≡ Err f → Stands (v ∷ passed) vs f) → (t : Bool) → is_repeat d passed v ≡ t → Stands passed (v ∷ vs) f
      by h true q =
          let z : Err (flaw Namesake v) ≡ Err f = sym (stop _ _ (fails (flaw Namesake v) (ap not q))) ∙ e in
          record {
            at = 0;
            inside = omega arith;
            says = let y : flaw Namesake v ≡ f = cc in sym y;
            repeat = q;
            lowest = λ i l. absurd (let y = l in omega arith);
          }
      by h false q = further q (h (sym (on _ _ (holds (flaw Namesake v) (ap not q))) ∙ e))

  -- a repeat of what was passed
  module _ (x : Offset) where
    kept-repeat : (passed vs : List Offset) (j : ℕ) → is_repeat d passed x ≡ true → is_repeat d (passed_at passed vs j) x ≡ true
    unfolding passed_at is_repeat
    kept-repeat passed vs zero e = e
    kept-repeat passed [] (suc j) e = e
    kept-repeat passed (v ∷ vs) (suc j) e = kept-repeat (v ∷ passed) vs j (by (are_namesakes d v x))
      where
        by : (t : Bool) → t || is_repeat d passed x ≡ true
        by true = refl
        by false = e

    pub repeat-of : (passed vs : List Offset) (i j : ℕ) → i < j → i < length vs → are_namesakes d (get_or vs i nowhere) x ≡ true
        → is_repeat d (passed_at passed vs j) x ≡ true
    unfolding passed_at is_repeat
    repeat-of passed vs i zero l k e = absurd (omega arith)
    repeat-of passed [] i (suc j) l k e = absurd (omega arith)
    repeat-of passed (v ∷ vs) zero (suc j) l k e = kept-repeat (v ∷ passed) vs j (rw e)
    repeat-of passed (v ∷ vs) (suc i) (suc j) l k e = repeat-of (v ∷ passed) vs i j (omega arith) (omega arith) e

    pub of-repeat : (passed vs : List Offset) (j : ℕ) → j ≤ length vs → is_repeat d passed x ≡ false → is_repeat d (passed_at passed vs j) x ≡ true
        → (i : ℕ) × (i < j) × (are_namesakes d (get_or vs i nowhere) x ≡ true)
    unfolding passed_at is_repeat
    of-repeat passed vs zero l n e = absurd (never _ e n)
    of-repeat passed [] (suc j) l n e = absurd (omega arith)
    of-repeat passed (v ∷ vs) (suc j) l n e = by (λ a b. of-repeat (v ∷ passed) vs j a b e) (are_namesakes d v x) refl
      where
        by : (j ≤ length vs → is_repeat d (v ∷ passed) x ≡ false → (i : ℕ) × (i < j) × (are_namesakes d (get_or vs i nowhere) x ≡ true)) → (t : Bool)
            → are_namesakes d v x ≡ t → (i : ℕ) × (i < suc j) × (are_namesakes d (get_or (v ∷ vs) i nowhere) x ≡ true)
        by h true q = (0, omega arith, q)
        by h false q = let r = h (omega arith) (rw q n) in (suc r.0, let z = r.1 in omega arith, r.2)
