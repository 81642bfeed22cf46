-- The bytes of the map past those of the bin stay.
use Prim.Native.Nat.{ℕ, ◌*◌, ◌/◌, ◌≤◌, ◌<◌}
use native.Mathlib.Omega.{arith}
use mathlib.Core.Path.{◌≡◌, refl, ◌∙◌}
use mathlib.Core.List.{List}
use mathlib.Core.Bool.{Bool, true, false, cond}
use lib.ListN.{drop}
use lib.Seq.{drop-set-lt}
use Rattle.cells.specs.Tiling.{Tiling, whole, bad, cell}
use Rattle.cells.specs.Map.{marks, mark_at}
use Rattle.cells.proofs.Bit.{placed}

drop-mark : (n : ℕ) (m : List ℕ) (at : ℕ) → at < n * 64 → drop n (mark_at m at) ≡ drop n m
unfolding mark_at
drop-mark n m at lt = drop-set-lt n m (at / 64) _ (omega arith)

pub drop-marks : (n end : ℕ) → end ≤ n * 64 → (t : Tiling) (m : List ℕ) → placed t end → drop n (marks t m) ≡ drop n m
unfolding marks placed
drop-marks n end le whole m p = refl
drop-marks n end le (bad at) m p = refl
drop-marks n end le (cell at z t) m p = drop-marks n end le t _ p.2 ∙ one z.used
  where
    one : (b : Bool) → drop n (cond b (mark_at m at) m) ≡ drop n m
    one true = let q = p.1 in drop-mark n m at (omega arith)
    one false = refl
