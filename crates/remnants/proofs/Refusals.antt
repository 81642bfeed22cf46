-- Why each call refuses, and what a refusal leaves.
use Prim.Native.Nat.{ℕ, ◌/◌, ◌≤◌}
use native.Mathlib.Omega.{arith}
use mathlib.Core.Path.{◌≡◌, refl, sym, ap, ◌∙◌}
use mathlib.Core.Bool.{Bool, true, false}
use mathlib.Core.List.{List, [], ◌∷◌, Memᴰ}
use lib.Dec.{leb}
use lib.ListN.{length}
use borrow.Author.Tests.{leb-true, leb-false}
use Rattle.fields.specs.declared.Flaw.{Flaw}
use Rattle.fields.specs.declared.Refusal.{Refusal}
use Rattle.fields.specs.declared.Fault.TheVariants.{OutputShort}
use Rattle.fields.specs.Faults.{flaw, nowhere, no_key, refusal_of, Keyless, Verdict}
use Rattle.fields.proofs.Firsts.{on, stop}
use Rattle.fields.proofs.Every.{Every, every-next}
use Rattle.base.specs.Block.{sector, bins_of, base_fault, bins_data}
use Rattle.base.proofs.Refusals.{base-refuses}
use Rattle.cells.specs.Tiling.{layout, survey_of}
use Rattle.cells.specs.Survey.{survey_answer, tested}
use Rattle.cells.proofs.Fronts.{front-base, front-good}
use Rattle.cells.proofs.Refusals.{bins-refuse}
use Rattle.remnants.specs.declared.Remain.{Remain}
use Rattle.remnants.specs.Remnants.{remnants_of, not_below, flaw_in, tiles_fault, first_of, stepped, remnant_answer, filled_with, filled_by, rows_answer, rows_out}
use Rattle.remnants.specs.Refused.{OfTiles, of-base, of-bins, OfRows, of-tiles, no_room}
use Rattle.remnants.proofs.Spots.{below-nil, below-keeps, below-skips}
use Rattle.remnants.proofs.Stores.{poured-none, poured-short}
use Rattle.cells.specs.declared.Tally.{Tally}
use Rattle.std.specs.Prelude.{Err, Ok, Result, Some}

module _ (h : List ℕ) where
  pub tiles-refuses : Every (OfTiles h) (tiles_fault h)
  unfolding tiles_fault
  tiles-refuses =
      every-next (OfTiles h) (base_fault h) (flaw_in (survey_of (layout (bins_data h) 0) 0 0 0)) (λ f e. of-base (base-refuses h f e))
      (λ s f e. of-bins (bins-refuse (bins_data h) (untiled (survey_of (layout (bins_data h) 0) 0 0 0) e)))
    where
      untiled : (s : Result Tally Flaw) {f : Flaw} → flaw_in s ≡ Err f → s ≡ Err f
      untiled (Ok t) e = absurd (let z : ◌≡◌ {A = ℕ} 0 1 = cc in omega arith)
      untiled (Err g) e = cc

  -- where the base block is refused, so is the survey
  pub base-stops : {f : Flaw} → base_fault h ≡ Err f → tiles_fault h ≡ Err f
  unfolding tiles_fault
  base-stops e = stop _ _ e

  -- with a map that is large enough the check's survey makes the same tests
  pub same_tests : (room : ℕ) → bins_of (sector h) / 64 ≤ room → tiles_fault h ≡ flaw_in (survey_answer h room)
  unfolding tiles_fault survey_answer
  same_tests room p = by (base_fault h) refl
    where
      by : (v : Verdict) → base_fault h ≡ v → tiles_fault h ≡ flaw_in (survey_answer h room)
      by (Ok tt) e = on _ _ e ∙ sym (ap (λ (v : Verdict). flaw_in (tested v (survey_of (layout (bins_data h) 0) 0 0 0))) (front-good h room e p))
      by (Err f) e = stop _ _ e ∙ sym (ap (λ (v : Verdict). flaw_in (tested v (survey_of (layout (bins_data h) 0) 0 0 0))) (front-base h room e))

  module _ {f : Flaw} (e : tiles_fault h ≡ Err f) (from : ℕ) where
    pub next-stops : remnant_answer h from ≡ Err (refusal_of no_key f)
    unfolding remnant_answer
    next-stops = rw e

    pub rows-stop : (rows : List ℕ) → (rows_answer h from (length rows) ≡ Err (refusal_of no_key f)) × (rows_out h from rows ≡ rows)
    unfolding rows_answer rows_out
    rows-stop rows = (rw e, rw e)

  -- a step is refused by the tests alone
  pub next-tests : (from : ℕ) {r : Refusal} → remnant_answer h from ≡ Err r → (f : Flaw) × (r ≡ refusal_of no_key f) × (tiles_fault h ≡ Err f)
  unfolding remnant_answer
  next-tests from {r} e = by (tiles_fault h) refl (not_below from (remnants_of (bins_data h))) e
    where
      by : (v : Verdict) → tiles_fault h ≡ v → (xs : List Remain) → stepped v (first_of xs) ≡ Err r
          → (f : Flaw) × (r ≡ refusal_of no_key f) × (tiles_fault h ≡ Err f)
      by (Ok tt) p [] q = absurd (let z : ◌≡◌ {A = ℕ} 0 1 = cc in omega arith)
      by (Ok tt) p (x ∷ xs) q = absurd (let z : ◌≡◌ {A = ℕ} 0 1 = cc in omega arith)
      by (Err f) p xs q = (f, let z : refusal_of no_key f ≡ r = cc in sym z, p)

  pub next-refuses : (from : ℕ) {r : Refusal} → remnant_answer h from ≡ Err r → Keyless (OfTiles h) r
  next-refuses from e = let x = next-tests from e in (x.0, x.1, tiles-refuses x.0 x.2)

  -- the first at or past an offset is one of all
  first-is : (from : ℕ) (xs : List Remain) {x : Remain} {ys : List Remain} → not_below from xs ≡ x ∷ ys → Memᴰ x xs × (from ≤ x.at.0)
  first-is from [] e = absurd (let q = sym (below-nil from) ∙ e in let z : ◌≡◌ {A = ℕ} 0 1 = cc in omega arith)
  first-is from (z ∷ xs) {x} {ys} e = by (λ q. first-is from xs q) (leb from z.at.0) refl
    where
      by : (not_below from xs ≡ x ∷ ys → Memᴰ x xs × (from ≤ x.at.0)) → (t : Bool) → leb from z.at.0 ≡ t
          → Memᴰ x (z ∷ xs) × (from ≤ x.at.0)
      by ih true p =
          let le = leb-true from z.at.0 p in
          let q = sym (below-keeps from z xs le) ∙ e in
          let s : z ≡ x = cc in
          let o : z.at.0 ≡ x.at.0 = ap (λ (y : Remain). y.at.0) s in
          (Memᴰ.head (sym s), omega arith)
      by ih false p = let r = ih (sym (below-skips from z xs (leb-false from z.at.0 p)) ∙ e) in (Memᴰ.tail r.0, r.1)

  -- what a step finds is one of all, in bins and cells that passed
  pub next-finds : (from : ℕ) {x : Remain} → remnant_answer h from ≡ Ok (Some x) → (tiles_fault h ≡ Ok tt) × Memᴰ x (remnants_of (bins_data h))
  unfolding remnant_answer
  next-finds from {x} e = by (tiles_fault h) refl (not_below from (remnants_of (bins_data h))) refl e
    where
      by : (v : Verdict) → tiles_fault h ≡ v → (xs : List Remain) → not_below from (remnants_of (bins_data h)) ≡ xs → stepped v (first_of xs) ≡ Ok (Some x)
          → (tiles_fault h ≡ Ok tt) × Memᴰ x (remnants_of (bins_data h))
      by (Err f) p xs s q = absurd (let z : ◌≡◌ {A = ℕ} 0 1 = cc in omega arith)
      by (Ok tt) p [] s q = absurd (let z : ◌≡◌ {A = ℕ} 0 1 = cc in omega arith)
      by (Ok tt) p (y ∷ ys) s q =
          let z : y ≡ x = cc in
          (p, (first-is from (remnants_of (bins_data h)) (s ∙ ap (λ (a : Remain). a ∷ ys) z)).0)

  pub rows-refuse : (from room : ℕ) {r : Refusal} → rows_answer h from room ≡ Err r → Keyless (OfRows h from room) r
  unfolding rows_answer
  rows-refuse from room {r} e = by (tiles_fault h) refl (not_below from (remnants_of (bins_data h))) refl (leb 4 room) refl e
    where
      by : (v : Verdict) → tiles_fault h ≡ v → (xs : List Remain) → not_below from (remnants_of (bins_data h)) ≡ xs → (t : Bool) → leb 4 room ≡ t
          → filled_by v (filled_with room xs) ≡ Err r → Keyless (OfRows h from room) r
      by (Err f) p xs s t u q = (f, let z : refusal_of no_key f ≡ r = cc in sym z, of-tiles (tiles-refuses f p))
      by (Ok tt) p [] s t u q = absurd (let z : ◌≡◌ {A = ℕ} 0 1 = cc in omega arith)
      by (Ok tt) p (x ∷ xs) s true u q = absurd (let w = rw u at q in let z : ◌≡◌ {A = ℕ} 0 1 = cc in omega arith)
      by (Ok tt) p (x ∷ xs) s false u q =
          let w = rw u at q in
          let i = first-is from (remnants_of (bins_data h)) s in
          (_, let z : refusal_of no_key (flaw OutputShort nowhere) ≡ r = cc in sym z, no_room i.0 i.1 (leb-false 4 room u))

  -- a refusal leaves the words
  pub rows_stay : (from : ℕ) (rows : List ℕ) {r : Refusal} → rows_answer h from (length rows) ≡ Err r → rows_out h from rows ≡ rows
  unfolding rows_answer rows_out
  rows_stay from rows {r} e = by (tiles_fault h) refl (not_below from (remnants_of (bins_data h))) refl (leb 4 (length rows)) refl
    where
      by : (v : Verdict) → tiles_fault h ≡ v → (xs : List Remain) → not_below from (remnants_of (bins_data h)) ≡ xs → (t : Bool) → leb 4 (length rows) ≡ t
          → rows_out h from rows ≡ rows
      by (Err f) p xs s t u = rw p
      by (Ok tt) p xs s false u = rw p (poured-short (not_below from (remnants_of (bins_data h))) rows (leb-false 4 (length rows) u))
      by (Ok tt) p [] s true u = rw (p, s) (poured-none rows)
      by (Ok tt) p (x ∷ xs) s true u = absurd (let w = rw (p, s, u) at e in let z : ◌≡◌ {A = ℕ} 0 1 = cc in omega arith)
