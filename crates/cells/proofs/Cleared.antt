-- A refusal's map: what the walk wrote is cleared again, and the bytes beyond were never written. A second pass leaves the map as the first did.
use Prim.Native.Nat.{ℕ, zero, suc, ◌+◌, ◌-◌, ◌*◌, ◌/◌, ◌%◌, ◌≤◌}
use native.Mathlib.Omega.{arith}
use mathlib.Core.Path.{◌≡◌, refl, ap, ◌∙◌}
use mathlib.Core.Bool.{Bool, true, false, cond}
use mathlib.Core.List.{List, ◌++◌}
use lib.Dec.{ltb, eqb}
use lib.ListN.{length, drop, replicate, length-replicate, length-append, length-drop}
use lib.Seq.{drop_at}
use borrow.Author.Tests.{ltb-true, ltb-false, eqb-true, eqb-false}
use Rattle.cells.specs.Tiling.{Tiling, tiling, row_of, bin_size, Layout, last, bad_bin, bin, layout_n, layout}
use Rattle.bitmap.specs.Bits.{zeros}
use Rattle.cells.specs.Map.{marks, is_bad, marks_all, map_after}
use Rattle.cells.proofs.Bit.{tiling-placed}
use Rattle.cells.proofs.Total.{length-marks}
use Rattle.cells.proofs.Beyond.{drop-marks}
use Rattle.cells.proofs.Turns.{Sized, sized, at_n, fault_n, step_n_lem}
use Rattle.cells.specs.declared.Tally.{Tally}
use Rattle.fields.specs.declared.Flaw.{Flaw}
use Rattle.std.specs.Prelude.{Err, Ok, Result}

drop_all : (n k : ℕ) (d : List ℕ) (at : ℕ) → length d ≤ n * 64 → at % 4096 ≡ 0 → (m : List ℕ) → drop n (marks_all (layout_n k d at) m) ≡ drop n m
unfolding marks_all layout_n
drop_all n zero d at le p m = refl
drop_all n (suc k) d at le p m =
    by (ltb at (length d)) (eqb s 0) refl refl (λ q m'. drop_all n k d (at + s) le (omega arith) m')
  where
    s : ℕ
    s = bin_size d at

    t : Tiling
    t = tiling d (at + 32) (at + s)

    by : (x y : Bool) → ltb at (length d) ≡ x → eqb s 0 ≡ y
        → (Sized s (length d - at) → (m' : List ℕ) → drop n (marks_all (layout_n k d (at + s)) m') ≡ drop n m')
        → drop n (marks_all (layout_n (suc k) d at) m) ≡ drop n m
    by false y e f ih = rw (at_n (suc k) d at (ltb-false at (length d) e))
    by true true e f ih = rw (fault_n k d at (ltb-true at (length d) e) (eqb-true s 0 f))
    by true false e f ih =
        let g = sized d at in
        let lt = ltb-true at (length d) e in
        let one : drop n (marks t m) ≡ drop n m
        = drop-marks n (at + s) (omega arith) t m (tiling-placed d (at + 32) (at + s) (omega arith) (omega arith)) in
        rw (step_n_lem k d at lt (eqb-false s 0 f)) (pick one (ih g (marks t m)) (is_bad (row_of t 0 0)))
      where
        pick : drop n (marks t m) ≡ drop n m → drop n (marks_all (layout_n k d (at + s)) (marks t m)) ≡ drop n (marks t m)
            → (b : Bool) → drop n (cond b (marks t m) (marks_all (layout_n k d (at + s)) (marks t m))) ≡ drop n m
        pick one two true = one
        pick one two false = two ∙ one

-- the bytes beyond the bins data's share stay
pub beyond : (n : ℕ) (d m : List ℕ) → length d ≤ n * 64 → drop n (marks_all (layout d 0) m) ≡ drop n m
unfolding layout
beyond n d m le = drop_all n (length d - 0) d 0 le refl m

pub cleared : (n : ℕ) (d m : List ℕ) → length d ≤ n * 64 → zeros n (marks_all (layout d 0) (zeros n m)) ≡ zeros n m
unfolding zeros
cleared n d m le =
    ap (λ (x : List ℕ). replicate n 0 ++ x)
    (beyond n d (zeros n m) le ∙ drop_at (replicate n 0) (drop n m) n (length-replicate n 0))

-- the map after a pass does not depend on what its first bytes held
module _ (d : List ℕ) (s : Result Tally Flaw) where
  pub over : (a b : List ℕ) → drop (length d / 64) a ≡ drop (length d / 64) b → map_after d s a ≡ map_after d s b
  unfolding map_after zeros
  over a b e = by s
    where
      by : (r : Result Tally Flaw) → map_after d r a ≡ map_after d r b
      by (Ok t) = rw e
      by (Err f) = rw e

  module _ (m : List ℕ) (le : length d ≤ length d / 64 * 64) where
    pub after-beyond : drop (length d / 64) (map_after d s m) ≡ drop (length d / 64) m
    unfolding map_after zeros
    after-beyond = by s
      where
        zeroed : drop (length d / 64) (replicate (length d / 64) 0 ++ drop (length d / 64) m) ≡ drop (length d / 64) m
        zeroed = drop_at (replicate (length d / 64) 0) (drop (length d / 64) m) (length d / 64) (length-replicate (length d / 64) 0)

        by : (r : Result Tally Flaw) → drop (length d / 64) (map_after d r m) ≡ drop (length d / 64) m
        by (Ok t) = beyond (length d / 64) d (zeros (length d / 64) m) le ∙ zeroed
        by (Err f) = zeroed

    -- so a second pass leaves it as it is
    pub again : map_after d s (map_after d s m) ≡ map_after d s m
    again = over (map_after d s m) m after-beyond

    length-all : (l : Layout) (x : List ℕ) → length (marks_all l x) ≡ length x
    unfolding marks_all
    length-all last x = refl
    length-all (bad_bin at) x = refl
    length-all (bin at t b) x = by (length-all b (marks t x)) (is_bad (row_of t 0 0))
      where
        by : length (marks_all b (marks t x)) ≡ length (marks t x) → (y : Bool) → length (cond y (marks t x) (marks_all b (marks t x))) ≡ length x
        by e true = length-marks t x
        by e false = e ∙ length-marks t x

    pub after-length : length d / 64 ≤ length m → length (map_after d s m) ≡ length m
    unfolding map_after zeros
    after-length room = by s
      where
        zeroed : length (replicate (length d / 64) 0 ++ drop (length d / 64) m) ≡ length m
        zeroed = simp (length-append, length-replicate, length-drop) (omega arith)

        by : (r : Result Tally Flaw) → length (map_after d r m) ≡ length m
        by (Ok t) = length-all (layout d 0) (zeros (length d / 64) m) ∙ zeroed
        by (Err f) = zeroed
