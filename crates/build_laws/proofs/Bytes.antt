-- Numbers that are read where their bytes stand.
use Prim.Native.Nat.{ℕ, ◌+◌, ◌*◌, ◌/◌, ◌%◌, ◌<◌}
use native.Mathlib.Omega.{arith}
use mathlib.Core.Path.{◌≡◌, sym, ap, ◌∙◌}
use mathlib.Core.List.{List, [], ◌++◌}
use lib.ListN.{length}
use Rattle.fields.specs.Number.{u16_at, u32_at, le16, le32}
use Rattle.fields.proofs.Little.{u16-le, u32-le}

-- the bytes of a number, as `u16_at` and `u32_at` add them up
pub half : (n : ℕ) → n < 65536 → n % 256 + n / 256 % 256 * 256 ≡ n
half n h = omega arith

pub word : (n : ℕ) → n < 4294967296
    → n % 65536 % 256 + n % 65536 / 256 % 256 * 256 + (n / 65536 % 256 + n / 65536 / 256 % 256 * 256) * 65536 ≡ n
unfolding u32_at u16_at le32 le16
word n h = u32-le [] n h []

-- behind bytes of a known number
pub half-there : (p : List ℕ) (n : ℕ) (t : List ℕ) (i : ℕ) → length p ≡ i → n < 65536 → u16_at (p ++ (le16 n ++ t)) i ≡ n
half-there p n t i e h = ap (u16_at (p ++ (le16 n ++ t))) (sym e) ∙ u16-le p n h t

pub word-there : (p : List ℕ) (n : ℕ) (t : List ℕ) (i : ℕ) → length p ≡ i → n < 4294967296 → u32_at (p ++ (le32 n ++ t)) i ≡ n
word-there p n t i e h = ap (u32_at (p ++ (le32 n ++ t))) (sym e) ∙ u32-le p n h t
