-- How large the numbers are that bytes make.
use Prim.Native.Nat.{ℕ, ◌+◌, ◌^◌, ◌<◌}
use native.Mathlib.Omega.{arith}
use mathlib.Core.List.{List}
use lib.ListN.{get_or}
use Rattle.fields.specs.Number.{u16_at, u32_at}

module _ (s : List ℕ) (bytes : (i : ℕ) → get_or s i 0 < 256) where
  pub u16-below : (i : ℕ) → u16_at s i < 2 ^ 16
  unfolding u16_at
  u16-below i = omega (arith, bytes i, bytes (i + 1))

  pub u32-below : (i : ℕ) → u32_at s i < 2 ^ 32
  unfolding u32_at
  u32-below i = omega (arith, u16-below i, u16-below (i + 2))
