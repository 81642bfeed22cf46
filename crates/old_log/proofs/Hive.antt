-- The stamps, a law for each way out.
use Prim.Native.Nat.{ℕ}
use mathlib.Core.Path.{◌≡◌}
use mathlib.Core.Bool.{Bool, true, false, not, ◌&&◌, ◌||◌, false≢true}
use mathlib.Core.List.{List}
use lib.Dec.{eqb}
use Rattle.base.specs.Block.{sector, usable}
use Rattle.sectors.specs.Sector.{page}
use Rattle.old_log.specs.Tests.{stamp_of, bin_stamp, zero_agrees, stamps_agree}

-- what is asked only where a page is logged
pub of-log : (m b : Bool) → m ≡ true → (not m || b) ≡ true → b ≡ true
of-log true b p q = q
of-log false b p q = absurd (false≢true p)

module _ (h l : List ℕ) where
  pub by-base : usable (sector h) 0 ≡ true → stamps_agree h l ≡ eqb (stamp_of (sector h)) (stamp_of (sector l))
  unfolding stamps_agree
  by-base e = rw e

  pub by-bin : usable (sector h) 0 ≡ false → stamps_agree h l ≡ (eqb (bin_stamp (page h 0)) (stamp_of (sector l)) && zero_agrees l)
  unfolding stamps_agree
  by-bin e = rw e
