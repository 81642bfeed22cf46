-- Steps from any offset, and rows in buffers of any sizes, give all records that are left, in order.
use Prim.Native.Nat.{ℕ, zero, suc, ◌+◌, ◌*◌, ◌/◌, ◌≤◌, ◌<◌}
use native.Mathlib.Omega.{arith}
use mathlib.Core.Path.{◌≡◌, refl, sym, ap, ◌∙◌, subst}
use mathlib.Core.List.{List, [], ◌∷◌, ◌++◌}
use lib.ListN.{length, take, drop, length-append}
use borrow.Author.Tests.{le-leb}
use Rattle.base.specs.Block.{bins_data}
use Rattle.remnants.specs.declared.Remain.{Remain}
use Rattle.remnants.specs.Remnants.{remnants_of, not_below, tiles_fault, first_of, remnant_answer, fitting, filled_with, rows_answer, rows_of, poured, rows_out}
use Rattle.remnants.specs.Found.{Steps, step-done, step-on, Runs, run-done, run_on}
use Rattle.remnants.proofs.Stores.{poured-none}
use Rattle.remnants.proofs.Rising.{remnants-rise, all_of, rest_of, rest-behind}
use Rattle.std.specs.Prelude.{Ok, Some}

-- the first rows of a list that is not empty: the last of them, and what comes behind
record Cut (xs ys : List Remain) : Type 0 where
  before : List Remain
  final : Remain
  behind : List Remain
  taken : ys ≡ before ++ (final ∷ [])
  all : xs ≡ before ++ (final ∷ behind)

cut : (n : ℕ) (x : Remain) (xs : List Remain) → Cut (x ∷ xs) (take (suc n) (x ∷ xs))
cut zero x xs = record { before = []; final = x; behind = xs; taken = refl; all = refl }
cut (suc n) x [] = record { before = []; final = x; behind = []; taken = refl; all = refl }
cut (suc n) x (y ∷ xs) =
    let c = cut n y xs in
    record {
      before = x ∷ c.before;
      final = c.final;
      behind = c.behind;
      taken = ap (λ (l : List Remain). x ∷ l) c.taken;
      all = ap (λ (l : List Remain). x ∷ l) c.all;
    }

cut_at : (n : ℕ) → 0 < n → (x : Remain) (xs : List Remain) → Cut (x ∷ xs) (take n (x ∷ xs))
cut_at zero p x xs = absurd (omega arith)
cut_at (suc n) p x xs = cut n x xs

module _ (h : List ℕ) (e : tiles_fault h ≡ Ok tt) where
  step_is : (from : ℕ) → remnant_answer h from ≡ first_of (not_below from (remnants_of (bins_data h)))
  unfolding remnant_answer
  step_is from = rw e

  steps-by : (from : ℕ) (xs : List Remain) → not_below from (remnants_of (bins_data h)) ≡ xs → Steps h from xs
  steps-by from [] p = step-done (step_is from ∙ ap first_of p)
  steps-by from (x ∷ xs) p =
      step-on (step_is from ∙ ap first_of p)
      (steps-by (x.at.0 + 1) xs (rest_of from (remnants_of (bins_data h)) (remnants-rise (bins_data h)) p))

  -- from any offset, those not below it; from 0, all
  pub steps_all : (from : ℕ) → Steps h from (not_below from (remnants_of (bins_data h)))
  steps_all from = steps-by from (not_below from (remnants_of (bins_data h))) refl

  pub steps-from-0 : Steps h 0 (remnants_of (bins_data h))
  steps-from-0 = steps-by 0 (remnants_of (bins_data h)) (all_of (remnants-rise (bins_data h)))

  rows_is : (from room : ℕ) → rows_answer h from room ≡ filled_with room (not_below from (remnants_of (bins_data h)))
  unfolding rows_answer
  rows_is from room = rw e

  out-is : (from : ℕ) (rows : List ℕ) → rows_out h from rows ≡ poured (not_below from (remnants_of (bins_data h))) rows
  unfolding rows_out
  out-is from rows = rw e

  module _ (lent : ℕ → List ℕ) (long : (call : ℕ) → 4 ≤ length (lent call)) where
    poured-is : (xs ys : List Remain) (rows : List ℕ) → fitting (length rows) xs ≡ ys → poured xs rows ≡ rows_of ys ++ drop (4 * length ys) rows
    unfolding poured
    poured-is xs ys rows p = rw p

    with-is : (x : Remain) (xs ys : List Remain) (room : ℕ) → 4 ≤ room → fitting room (x ∷ xs) ≡ ys
        → filled_with room (x ∷ xs) ≡ Ok (Some (length ys))
    with-is x xs ys room q p = rw (le-leb 4 room q) (ap (λ (l : List Remain). Ok (Some (length l))) p)

    rows-turn : (call from : ℕ) (xs : List Remain)
        → ((c f : ℕ) (ys : List Remain) → length ys < length xs → not_below f (remnants_of (bins_data h)) ≡ ys → Runs h lent c f ys)
        → not_below from (remnants_of (bins_data h)) ≡ xs → Runs h lent call from xs
    rows-turn call from [] ih p =
        run-done (rows_is from (length (lent call)) ∙ ap (filled_with (length (lent call))) p)
        (out-is from (lent call) ∙ ap (λ (l : List Remain). poured l (lent call)) p ∙ poured-none (lent call))
    rows-turn call from (x ∷ xs) ih p =
        let c = cut_at (length (lent call) / 4) (omega (arith, long call)) x xs in
        let n : length (x ∷ xs) ≡ length c.before + length (c.final ∷ c.behind) = ap length c.all ∙ length-append c.before (c.final ∷ c.behind) in
        subst (Runs h lent call from) (sym c.all)
        (run_on c.before c.final
        (rows_is from (length (lent call)) ∙ ap (filled_with (length (lent call))) p
        ∙ with-is x xs (c.before ++ (c.final ∷ [])) (length (lent call)) (long call) c.taken)
        (out-is from (lent call) ∙ ap (λ (l : List Remain). poured l (lent call)) p
        ∙ poured-is (x ∷ xs) (c.before ++ (c.final ∷ [])) (lent call) c.taken)
        (ih (call + 1) (c.final.at.0 + 1) c.behind (omega arith)
        (rest-behind from (remnants_of (bins_data h)) (remnants-rise (bins_data h)) c.before c.final c.behind (p ∙ c.all))))

    rows-by : (k call from : ℕ) (xs : List Remain) → length xs ≤ k → not_below from (remnants_of (bins_data h)) ≡ xs → Runs h lent call from xs
    rows-by zero call from xs q p = rows-turn call from xs (λ c f ys l e. absurd (omega arith)) p
    rows-by (suc k) call from xs q p = rows-turn call from xs (λ c f ys l e. rows-by k c f ys (omega arith) e) p

    -- the same of rows, whatever is lent for each call
    pub rows_all : (call from : ℕ) → Runs h lent call from (not_below from (remnants_of (bins_data h)))
    rows_all call from =
        rows-by (length (not_below from (remnants_of (bins_data h)))) call from (not_below from (remnants_of (bins_data h))) (omega arith) refl
