-- The layout's three cases, and what a turn of `tile_bins` keeps.
use Prim.Native.Nat.{ℕ, zero, suc, ◌+◌, ◌-◌, ◌%◌, ◌≤◌, ◌<◌}
use native.Mathlib.Omega.{arith}
use mathlib.Core.Path.{◌≡◌, refl, sym, ap, ◌∙◌}
use mathlib.Core.Bool.{Bool, true, false, cond}
use mathlib.Core.List.{List, [], ◌∷◌}
use lib.Dec.{eqb, leb, ltb}
use lib.ListN.{length}
use borrow.Author.Tests.{lt-ltb, le-ltb, ltb-true, ltb-false, leb-true, eqb-true, eqb-false, eq-eqb, ne_eqb}
use Rattle.fields.specs.declared.Flaw.{Flaw}
use Rattle.fields.specs.Number.{u32_at}
use Rattle.fields.specs.Bytes.{stands_at}
use Rattle.cells.specs.Tiling.{tiling, row_of, bin_size, last, bad_bin, bin, layout_n, layout, add_row, survey_of}
use Rattle.cells.specs.Map.{marks, is_bad, marks_all}
use Rattle.cells.proofs.Total.{sum, length-marks}
use Rattle.std.specs.Prelude.{Err, Ok}

-- a bin's size is a multiple of 4096 and stays inside
pub record Sized (n room : ℕ) : Type 0 where
  pub pages : n % 4096 ≡ 0
  pub inside : n ≤ room

module _ (d : List ℕ) (at : ℕ) where
  pub sized : Sized (bin_size d at) (length d - at)
  unfolding bin_size
  sized = by (stands_at d at (104 ∷ 98 ∷ 105 ∷ 110 ∷ [])) (eqb (u32_at d (at + 4)) at) (eqb (s % 4096) 0) (leb s (length d - at)) refl refl
    where
      s : ℕ
      s = u32_at d (at + 8)

      by : (p q x y : Bool) → eqb (s % 4096) 0 ≡ x → leb s (length d - at) ≡ y
          → Sized (cond p (cond q (cond x (cond y s 0) 0) 0) 0) (length d - at)
      by false q x y e f = record { pages = refl; inside = omega arith }
      by true false x y e f = record { pages = refl; inside = omega arith }
      by true true false y e f = record { pages = refl; inside = omega arith }
      by true true true false e f = record { pages = refl; inside = omega arith }
      by true true true true e f = record { pages = eqb-true _ _ e; inside = leb-true _ _ f }

-- one step, by the two tests
pub at_n : (k : ℕ) (d : List ℕ) (at : ℕ) → length d ≤ at → layout_n k d at ≡ last
unfolding layout_n
at_n zero d at le = refl
at_n (suc k) d at le = rw (le-ltb at (length d) le)

module _ (k : ℕ) (d : List ℕ) (at : ℕ) (lt : at < length d) where
  pub fault_n : bin_size d at ≡ 0 → layout_n (suc k) d at ≡ bad_bin at
  unfolding layout_n
  fault_n e = rw (lt-ltb at (length d) lt, eq-eqb (bin_size d at) 0 e)

  pub step_n_lem : (bin_size d at ≡ 0 → ⊥)
      → layout_n (suc k) d at ≡ bin at (tiling d (at + 32) (at + bin_size d at)) (layout_n k d (at + bin_size d at))
  unfolding layout_n
  step_n_lem e = rw (lt-ltb at (length d) lt, ne_eqb (bin_size d at) 0 e)

-- fuel that is enough gives the same as any other that is
enough : (k m : ℕ) (d : List ℕ) (at : ℕ) → length d - at ≤ k → length d - at ≤ m → layout_n k d at ≡ layout_n m d at
enough zero m d at p q = at_n zero d at (omega arith) ∙ sym (at_n m d at (omega arith))
enough (suc k) zero d at p q = at_n (suc k) d at (omega arith) ∙ sym (at_n zero d at (omega arith))
enough (suc k) (suc m) d at p q =
    by (λ lt ne. enough k m d (at + n) (omega arith) (omega arith)) (ltb at (length d)) (eqb n 0) refl refl
  where
    n : ℕ
    n = bin_size d at

    by : (at < length d → (n ≡ 0 → ⊥) → layout_n k d (at + n) ≡ layout_n m d (at + n))
        → (t g : Bool) → ltb at (length d) ≡ t → eqb n 0 ≡ g → layout_n (suc k) d at ≡ layout_n (suc m) d at
    by ih false g e f = at_n (suc k) d at (ltb-false at (length d) e) ∙ sym (at_n (suc m) d at (ltb-false at (length d) e))
    by ih true true e f =
        let lt = ltb-true at (length d) e in
        let z = eqb-true n 0 f in
        fault_n k d at lt z ∙ sym (fault_n m d at lt z)
    by ih true false e f =
        let lt = ltb-true at (length d) e in
        let z = eqb-false n 0 f in
        step_n_lem k d at lt z ∙ ap (bin at (tiling d (at + 32) (at + n))) (ih lt z) ∙ sym (step_n_lem m d at lt z)

module _ (d : List ℕ) (at : ℕ) where
  pub done : length d ≤ at → layout d at ≡ last
  unfolding layout
  done le = at_n (length d - at) d at le

  pub fault : at < length d → bin_size d at ≡ 0 → layout d at ≡ bad_bin at
  unfolding layout
  fault lt e =
      let k = length d - at - 1 in
      let s : length d - at ≡ suc k = omega arith in
      ap (λ (f : ℕ). layout_n f d at) s ∙ fault_n k d at lt e

  pub step : at < length d → (bin_size d at ≡ 0 → ⊥)
      → layout d at ≡ bin at (tiling d (at + 32) (at + bin_size d at)) (layout d (at + bin_size d at))
  unfolding layout
  step lt e =
      let n = bin_size d at in
      let k = length d - at - 1 in
      let s : length d - at ≡ suc k = omega arith in
      ap (λ (f : ℕ). layout_n f d at) s ∙ step_n_lem k d at lt e
      ∙ ap (bin at (tiling d (at + 32) (at + n))) (enough k (length d - (at + n)) d (at + n) (omega arith) (omega arith))

-- what the loop of `tile_bins` keeps: what is left, with the counts and the map so far, gives what the whole gives
pub record TilesLeft (d map₀ map : List ℕ) (at count used free : ℕ) : Type 0 where
  pub before-end : at ≤ length d
  pub pages : at % 4096 ≡ 0
  pub few : count ≤ at
  pub small : used + free ≤ at
  pub kept : length map ≡ length map₀
  pub counts : survey_of (layout d 0) 0 0 0 ≡ survey_of (layout d at) count used free
  pub bits : marks_all (layout d 0) map₀ ≡ marks_all (layout d at) map

module _ {d map₀ map : List ℕ} {at count used free : ℕ} (w : TilesLeft d map₀ map at count used free) (lt : at < length d) {n : ℕ}
    (is : n ≡ bin_size d at) where
  pub fits : Sized n (length d - at)
  fits = rw is (sized d at)

  steps : (n ≡ 0 → ⊥) → layout d at ≡ bin at (tiling d (at + 32) (at + n)) (layout d (at + n))
  steps ne = rw is (step d at lt (rw is at ne))

  pub walked : (n ≡ 0 → ⊥) → {u f : ℕ} → row_of (tiling d (at + 32) (at + n)) 0 0 ≡ Ok (u, f)
      → TilesLeft d map₀ (marks (tiling d (at + 32) (at + n)) map) (at + n) (count + 1) (used + u) (free + f)
  unfolding survey_of marks_all add_row is_bad
  walked ne {u} {f} e =
      let g = fits in
      let s = sum d (at + 32) (at + n) u f (omega arith) e in
      record {
        before-end = omega arith;
        pages = omega arith;
        few = omega arith;
        small = omega arith;
        kept = length-marks (tiling d (at + 32) (at + n)) map ∙ w.kept;
        counts = w.counts ∙ rw (steps ne, e);
        bits = w.bits ∙ rw (steps ne, e);
      }

  pub refused : (n ≡ 0 → ⊥) → {f : Flaw} → row_of (tiling d (at + 32) (at + n)) 0 0 ≡ Err f
      → (survey_of (layout d 0) 0 0 0 ≡ Err f) × (marks_all (layout d 0) map₀ ≡ marks (tiling d (at + 32) (at + n)) map)
  unfolding survey_of marks_all add_row is_bad
  refused ne e = (w.counts ∙ rw (steps ne, e), w.bits ∙ rw (steps ne, e))
