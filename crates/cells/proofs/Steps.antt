-- The tiling's three cases, and what a step does to the tally and to the map.
use Prim.Native.Nat.{ℕ, zero, suc, ◌+◌, ◌-◌, ◌%◌, ◌≤◌, ◌<◌}
use native.Mathlib.Omega.{arith}
use mathlib.Core.Path.{◌≡◌, refl, sym, ap, ◌∙◌}
use mathlib.Core.List.{List}
use mathlib.Core.Bool.{Bool, true, false, not}
use lib.Dec.{eqb, ltb}
use borrow.Author.Tests.{lt-ltb, le-ltb, ltb-true, ltb-false, leb-true, eqb-true, eqb-false, not-true, ne_eqb, eq-eqb, le-leb}
use Rattle.fields.specs.declared.Size.{Size}
use Rattle.fields.proofs.Bools.{and-inv}
use Rattle.fields.specs.Number.{size_at}
use Rattle.cells.specs.Tiling.{good_size, whole, bad, cell, tiling_n, tiling, row_of}
use Rattle.cells.specs.Map.{mark_at, marks}
use Rattle.cells.specs.Tiled.{Good}
use lib.ListN.{length, length-set}

pub good : (n room : ℕ) → good_size n room ≡ true → Good n room
unfolding good_size
good n room e =
    let a = and-inv (not (eqb n 0)) _ e in
    let b = and-inv (eqb (n % 8) 0) _ a.1 in
    let ne = eqb-false n 0 (not-true _ a.0) in
    let e8 = eqb-true (n % 8) 0 b.0 in
    let le = leb-true n room b.1 in
    record { some = omega arith; eights = e8; inside = le }

pub of-good : {n room : ℕ} → Good n room → good_size n room ≡ true
unfolding good_size
of-good {n} {room} g =
    let z : n ≡ 0 → ⊥ = λ e. let s = g.some in omega arith in
    rw (ne_eqb n 0 z, eq-eqb (n % 8) 0 g.eights, le-leb n room g.inside)

-- one step, by the two tests
pub at_n : (k : ℕ) (h : List ℕ) (at end : ℕ) → end ≤ at → tiling_n k h at end ≡ whole
unfolding tiling_n
at_n zero h at end le = refl
at_n (suc k) h at end le = rw (le-ltb at end le)

module _ (k : ℕ) (h : List ℕ) (at end : ℕ) (lt : at < end) where
  pub fault_n : good_size (size_at h at).bytes (end - at) ≡ false → tiling_n (suc k) h at end ≡ bad at
  unfolding tiling_n
  fault_n e = rw (lt-ltb at end lt, e)

  pub step_n_lem : good_size (size_at h at).bytes (end - at) ≡ true
      → tiling_n (suc k) h at end ≡ cell at (size_at h at) (tiling_n k h (at + (size_at h at).bytes) end)
  unfolding tiling_n
  step_n_lem e = rw (lt-ltb at end lt, e)

-- fuel that is enough gives the same as any other that is
enough : (k m : ℕ) (h : List ℕ) (at end : ℕ) → end - at ≤ k → end - at ≤ m → tiling_n k h at end ≡ tiling_n m h at end
enough zero m h at end p q = at_n zero h at end (omega arith) ∙ sym (at_n m h at end (omega arith))
enough (suc k) zero h at end p q = at_n (suc k) h at end (omega arith) ∙ sym (at_n zero h at end (omega arith))
enough (suc k) (suc m) h at end p q =
    by_cases (λ g lt. enough k m h (at + n) end (omega arith) (omega arith)) (ltb at end) (good_size n (end - at)) refl refl
  where
    n : ℕ
    n = (size_at h at).bytes

    by_cases : (Good n (end - at) → at < end → tiling_n k h (at + n) end ≡ tiling_n m h (at + n) end)
        → (t g : Bool) → ltb at end ≡ t → good_size n (end - at) ≡ g → tiling_n (suc k) h at end ≡ tiling_n (suc m) h at end
    by_cases ih false g e f = at_n (suc k) h at end (ltb-false at end e) ∙ sym (at_n (suc m) h at end (ltb-false at end e))
    by_cases ih true false e f =
        let lt = ltb-true at end e in
        fault_n k h at end lt f ∙ sym (fault_n m h at end lt f)
    by_cases ih true true e f =
        let lt = ltb-true at end e in
        step_n_lem k h at end lt f ∙ ap (cell at (size_at h at)) (ih (good n (end - at) f) lt) ∙ sym (step_n_lem m h at end lt f)

module _ (h : List ℕ) (at end : ℕ) where
  pub done : end ≤ at → tiling h at end ≡ whole
  unfolding tiling
  done le = at_n (end - at) h at end le

  pub fault : at < end → good_size (size_at h at).bytes (end - at) ≡ false → tiling h at end ≡ bad at
  unfolding tiling
  fault lt e =
      let k = end - at - 1 in
      let s : end - at ≡ suc k = omega arith in
      ap (λ (f : ℕ). tiling_n f h at end) s ∙ fault_n k h at end lt e

  pub step : at < end → good_size (size_at h at).bytes (end - at) ≡ true
      → tiling h at end ≡ cell at (size_at h at) (tiling h (at + (size_at h at).bytes) end)
  unfolding tiling
  step lt e =
      let n = (size_at h at).bytes in
      let k = end - at - 1 in
      let s : end - at ≡ suc k = omega arith in
      let g = good n (end - at) e in
      ap (λ (f : ℕ). tiling_n f h at end) s ∙ step_n_lem k h at end lt e
      ∙ ap (cell at (size_at h at)) (enough k (end - (at + n)) h (at + n) end (omega arith) (omega arith))

pub length-mark : (m : List ℕ) (at : ℕ) → length (mark_at m at) ≡ length m
unfolding mark_at
length-mark m at = length-set m _ _

-- what the loop of `tile` keeps: what is left, with the counts and the map so far, gives what the whole gives
pub record TilesLeft (h map₀ : List ℕ) (start stop : ℕ) (map : List ℕ) (at used free : ℕ) : Type 0 where
  pub before-end : at ≤ stop
  pub eights : at % 8 ≡ 0
  pub small : used + free ≤ at
  pub kept : length map ≡ length map₀
  pub counts : row_of (tiling h start stop) 0 0 ≡ row_of (tiling h at stop) used free
  pub bits : marks (tiling h start stop) map₀ ≡ marks (tiling h at stop) map

module _ {h map₀ : List ℕ} {start stop : ℕ} {map : List ℕ} {at used free : ℕ} (w : TilesLeft h map₀ start stop map at used free)
    (lt : at < stop) {z : Size} (is : z ≡ size_at h at) where
  bytes-is : z.bytes ≡ (size_at h at).bytes
  bytes-is = ap (λ (y : Size). y.bytes) is

  pub fits : good_size z.bytes (stop - at) ≡ true → Good z.bytes (stop - at)
  fits g = good z.bytes (stop - at) g

  steps : good_size z.bytes (stop - at) ≡ true → tiling h at stop ≡ cell at z (tiling h (at + z.bytes) stop)
  steps g = rw is (step h at stop lt (rw is at g))

  pub walked-used : good_size z.bytes (stop - at) ≡ true → z.used ≡ true
      → TilesLeft h map₀ start stop (mark_at map at) (at + z.bytes) (used + z.bytes) free
  unfolding row_of marks
  walked-used g u =
      let f = fits g in
      record {
        before-end = omega arith;
        eights = omega arith;
        small = omega arith;
        kept = length-mark map at ∙ w.kept;
        counts = w.counts ∙ rw (steps g, u);
        bits = w.bits ∙ rw (steps g, u);
      }

  pub walked-free : good_size z.bytes (stop - at) ≡ true → z.used ≡ false
      → TilesLeft h map₀ start stop map (at + z.bytes) used (free + z.bytes)
  unfolding row_of marks
  walked-free g u =
      let f = fits g in
      record {
        before-end = omega arith;
        eights = omega arith;
        small = omega arith;
        kept = w.kept;
        counts = w.counts ∙ rw (steps g, u);
        bits = w.bits ∙ rw (steps g, u);
      }
