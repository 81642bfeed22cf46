-- The checksum is a 32-bit number, and tells of the 127 words before it alone.
use Prim.Native.Nat.{ℕ, zero, suc, ◌*◌, ◌^◌, ◌<◌}
use native.Mathlib.Omega.{arith}
use mathlib.Core.Path.{◌≡◌, refl, ap, ap₂}
use mathlib.Core.List.{List}
use lib.Bits.{bit_xor, xor_lt}
use lib.Dec.{lit<}
use lib.ListN.{get_or}
use Rattle.fields.specs.Number.{u32_at}
use Rattle.fields.proofs.Numbers.{u32-below}
use Rattle.base.specs.Block.{xors, as_stored, stored_checksum}
use Rattle.base.proofs.Laws.{as_stored-lt}

module _ (s : List ℕ) (bytes : (i : ℕ) → get_or s i 0 < 256) where
  xors-below : (n : ℕ) → xors s n < 2 ^ 32
  unfolding xors
  xors-below zero = lit< tt
  xors-below (suc n) = xor_lt 32 (xors s n) (u32_at s (n * 4)) (xors-below n) (u32-below s bytes (n * 4))

  pub checksum-below : stored_checksum s < 2 ^ 32
  unfolding stored_checksum
  checksum-below = as_stored-lt (xors s 127) (xors-below 127)

module _ (s t : List ℕ) where
  xors-same : (n : ℕ) → ((k : ℕ) → k < n → u32_at s (k * 4) ≡ u32_at t (k * 4)) → xors s n ≡ xors t n
  unfolding xors
  xors-same zero e = refl
  xors-same (suc n) e = ap₂ bit_xor (xors-same n (λ k h. e k (omega arith))) (e n (omega arith))

  pub checksum-same : ((k : ℕ) → k < 127 → u32_at s (k * 4) ≡ u32_at t (k * 4)) → stored_checksum s ≡ stored_checksum t
  unfolding stored_checksum
  checksum-same e = ap as_stored (xors-same 127 e)
