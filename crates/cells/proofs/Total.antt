-- What the crates above may use of `row_of`: the bytes in use and the free bytes make up the bin; and of `marks`: the map keeps its length.
use Prim.Native.Nat.{ℕ, zero, suc, ◌+◌, ◌-◌, ◌≤◌, ◌<◌}
use native.Mathlib.Omega.{arith}
use mathlib.Core.Path.{◌≡◌, refl, ap, ◌∙◌}
use mathlib.Core.List.{List}
use mathlib.Core.Bool.{Bool, true, false, cond}
use lib.Dec.{ltb}
use lib.ListN.{length}
use borrow.Author.Tests.{ltb-true, ltb-false}
use Rattle.fields.specs.declared.Size.{Size}
use Rattle.fields.specs.Number.{size_at}
use Rattle.cells.specs.Tiling.{good_size, Tiling, whole, bad, cell, tiling_n, tiling, row_of}
use Rattle.cells.specs.Map.{marks, mark_at}
use Rattle.cells.specs.Tiled.{Good}
use Rattle.cells.proofs.Steps.{good, at_n, fault_n, step_n_lem, length-mark}
use Rattle.std.specs.Prelude.{Ok}

split : (b : Bool) (u f n : ℕ) → cond b (u + n) u + cond b f (f + n) ≡ u + f + n
split true u f n = omega arith
split false u f n = omega arith

sum_n : (k : ℕ) (h : List ℕ) (at end u f u' f' : ℕ) → end - at ≤ k → at ≤ end → row_of (tiling_n k h at end) u f ≡ Ok (u', f') → u' + f' ≡ u + f + (end - at)
unfolding row_of
sum_n zero h at end u f u' f' p q e =
    let r : Ok (u, f) ≡ Ok (u', f') = rw (at_n zero h at end (omega arith)) at e in
    let s : (u, f) ≡ (u', f') = cc in
    let a : u ≡ u' = ap (λ (x : ℕ × ℕ). x.0) s in
    let b : f ≡ f' = ap (λ (x : ℕ × ℕ). x.1) s in
    omega arith
sum_n (suc k) h at end u f u' f' p q e =
    by (ltb at end) (good_size n (end - at)) refl refl
    (λ g lt r. sum_n k h (at + n) end _ _ u' f' (omega arith) (omega arith) r)
  where
    n : ℕ
    n = (size_at h at).bytes

    z : Size
    z = size_at h at

    by : (t g : Bool) → ltb at end ≡ t → good_size n (end - at) ≡ g
        → (Good n (end - at) → at < end
        → row_of (tiling_n k h (at + n) end) (cond z.used (u + n) u) (cond z.used f (f + n)) ≡ Ok (u', f')
        → u' + f' ≡ cond z.used (u + n) u + cond z.used f (f + n) + (end - (at + n)))
        → u' + f' ≡ u + f + (end - at)
    by false g x y ih =
        let le = ltb-false at end x in
        let r : Ok (u, f) ≡ Ok (u', f') = rw (at_n (suc k) h at end le) at e in
        let s : (u, f) ≡ (u', f') = cc in
        let a : u ≡ u' = ap (λ (x : ℕ × ℕ). x.0) s in
        let b : f ≡ f' = ap (λ (x : ℕ × ℕ). x.1) s in
        omega arith
    by true false x y ih =
        let r = rw (fault_n k h at end (ltb-true at end x) y) at e in
        let w : ◌≡◌ {A = ℕ} 0 1 = cc in
        absurd (omega arith)
    by true true x y ih =
        let lt = ltb-true at end x in
        let g = good n (end - at) y in
        let r = ih g lt (rw (step_n_lem k h at end lt y) at e) in
        omega (arith, split z.used u f n)

pub sum : (h : List ℕ) (at end u f : ℕ) → at ≤ end → row_of (tiling h at end) 0 0 ≡ Ok (u, f) → u + f ≡ end - at
unfolding tiling
sum h at end u f le e = let s = sum_n (end - at) h at end 0 0 u f (omega arith) le e in omega arith

pub length-marks : (t : Tiling) (m : List ℕ) → length (marks t m) ≡ length m
unfolding marks
length-marks whole m = refl
length-marks (bad at) m = refl
length-marks (cell at z t) m = length-marks t _ ∙ one z.used
  where
    one : (b : Bool) → length (cond b (mark_at m at) m) ≡ length m
    one true = length-mark m at
    one false = refl
