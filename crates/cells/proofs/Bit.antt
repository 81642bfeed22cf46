-- The map, bit by bit: bit k is set exactly when a cell in use starts at offset 8 k.
use Prim.Native.Nat.{ℕ, zero, suc, ◌+◌, ◌-◌, ◌*◌, ◌/◌, ◌%◌, ◌^◌, ◌≤◌, ◌<◌, max}
use native.Mathlib.Nat.{max-zero, div-div-eq-div-mul}
use native.Mathlib.Omega.{arith}
use mathlib.Core.Path.{◌≡◌, refl, sym, ◌∙◌}
use mathlib.Core.List.{List}
use mathlib.Core.Bool.{Bool, true, false, ◌||◌}
use lib.Dec.{eqb}
use lib.ListN.{length, get_or}
use lib.Seq.{get_or-set_same, get_or-set_other}
use lib.Bits.{bit_or}
use borrow.Author.Tests.{ne_eqb, eqb-true, eqb-false, ltb-true}
use lib.Dec.{ltb}
use Rattle.fields.specs.Number.{size_at}
use Rattle.cells.specs.Tiling.{tiling_n, tiling, good_size}
use Rattle.cells.specs.Tiled.{Good}
use Rattle.cells.proofs.Steps.{good, length-mark}
use Rattle.cells.specs.Tiling.{Tiling, whole, bad, cell}
use Rattle.bitmap.specs.Bits.{bit}
use Rattle.bitmap.proofs.Marks.{or-bit, flag, pow-bit, eqb-cong}
use Rattle.cells.specs.Map.{mark_at, marks, starts}

-- one mark: the bit of its offset is set, and every other is as it was
mark-bit : (m : List ℕ) (at k : ℕ) → at % 8 ≡ 0 → at < length m * 64 → bit (mark_at m at) k ≡ max (bit m k) (flag (eqb at (k * 8)))
unfolding mark_at
mark-bit m at k e lt = by (eqb (at / 64) (k / 8)) refl
  where
    by : (t : Bool) → eqb (at / 64) (k / 8) ≡ t → bit (mark_at m at) k ≡ max (bit m k) (flag (eqb at (k * 8)))
    by true q =
        let j : at / 64 ≡ k / 8 = eqb-true _ _ q in
        let lt' : k / 8 < length m = omega arith in
        rw (
          j,
          get_or-set_same m (k / 8) (bit_or (get_or m (k / 8) 0) (2 ^ (at / 8 % 8))) 0 lt',
          or-bit,
          pow-bit,
          eqb-cong (at / 8 % 8) (k % 8) at (k * 8) (λ h. omega (arith, div-div-eq-div-mul at 8 8)) (λ h. omega (arith, div-div-eq-div-mul at 8 8)),
        )
    by false q =
        let n = eqb-false (at / 64) (k / 8) q in
        let o : eqb at (k * 8) ≡ false = ne_eqb at (k * 8) (λ h. n (omega arith)) in
        rw (get_or-set_other m (at / 64) (k / 8) (bit_or (get_or m (at / 64) 0) (2 ^ (at / 8 % 8))) 0 (λ h. n (sym h)), o) (sym (max-zero _))

-- each cell stands at a multiple of 8 below n
unfoldable pub placed : Tiling → ℕ → Type 0
placed whole n = Unit
placed (bad at) n = Unit
placed (cell at z t) n = (at % 8 ≡ 0) × (at < n) × placed t n

pub flag-or : (a b : Bool) → flag (a || b) ≡ max (flag a) (flag b)
flag-or true true = refl
flag-or true false = refl
flag-or false true = refl
flag-or false false = refl

pub marks-bit : (t : Tiling) (m : List ℕ) (k : ℕ) → placed t (length m * 64) → bit (marks t m) k ≡ max (bit m k) (flag (starts t (k * 8)))
unfolding marks starts placed
marks-bit whole m k p = sym (max-zero _)
marks-bit (bad at) m k p = sym (max-zero _)
marks-bit (cell at z t) m k p =
    by z.used refl (λ m' e. marks-bit t m' k (rw e p.2))
  where
    by : (u : Bool) → z.used ≡ u
        → ((m' : List ℕ) → length m' ≡ length m → bit (marks t m') k ≡ max (bit m' k) (flag (starts t (k * 8))))
        → bit (marks (cell at z t) m) k ≡ max (bit m k) (flag (starts (cell at z t) (k * 8)))
    by true u ih = rw u (ih (mark_at m at) (length-mark m at) ∙ rw (mark-bit m at k p.0 p.1, flag-or) (omega arith))
    by false u ih = rw u (ih m refl)

module _ (h : List ℕ) (end : ℕ) (e8 : end % 8 ≡ 0) where
  placed_n : (f at : ℕ) → at % 8 ≡ 0 → placed (tiling_n f h at end) end
  unfolding placed tiling_n
  placed_n zero at a8 = tt
  placed_n (suc f) at a8 = by (ltb at end) (good_size (size_at h at).bytes (end - at)) refl refl (λ g. placed_n f _ (omega arith))
    where
      by : (t g : Bool) → ltb at end ≡ t → good_size (size_at h at).bytes (end - at) ≡ g
          → (Good (size_at h at).bytes (end - at) → placed (tiling_n f h (at + (size_at h at).bytes) end) end)
          → placed (tiling_n (suc f) h at end) end
      by false g e q ih = rw e tt
      by true false e q ih = rw (e, q) tt
      by true true e q ih = rw (e, q) (a8, ltb-true at end e, ih (good _ _ q))

pub placed-more : (n o : ℕ) → n ≤ o → (t : Tiling) → placed t n → placed t o
unfolding placed
placed-more n o le whole p = tt
placed-more n o le (bad at) p = tt
placed-more n o le (cell at z t) p = let q = p.1 in (p.0, omega arith, placed-more n o le t p.2)

pub tiling-placed : (h : List ℕ) (at end : ℕ) → at % 8 ≡ 0 → end % 8 ≡ 0 → placed (tiling h at end) end
unfolding tiling
tiling-placed h at end a8 e8 = placed_n h end e8 (end - at) at a8
