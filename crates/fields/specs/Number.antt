-- "All numbers are little-endian." A byte past the end counts 0, so each of these is said for every list and every position.
use Rattle.std.specs.Prelude.{ℕ, suc, ◌+◌, ◌*◌, ◌/◌, ◌%◌, true, false, List, [], ◌∷◌, ◌++◌, ℤ, pos, negsuc, get_or}
use Rattle.std.specs.Int.{w32}
use Rattle.std.proofs.Common.{to_z}
use Rattle.fields.specs.declared.Size.{Size}

unfoldable pub u16_at : List ℕ → ℕ → ℕ
u16_at s i = get_or s i 0 + get_or s (i + 1) 0 * 256

unfoldable pub u32_at : List ℕ → ℕ → ℕ
u32_at s i = u16_at s i + u16_at s (i + 2) * 65536

unfoldable pub u64_at : List ℕ → ℕ → ℕ
u64_at s i = u32_at s i + u32_at s (i + 4) * 0x1_0000_0000

-- the bytes of a number, which `u16_at`, `u32_at` and `u64_at` read back
unfoldable pub le16 : ℕ → List ℕ
le16 n = n % 256 ∷ n / 256 % 256 ∷ []

unfoldable pub le32 : ℕ → List ℕ
le32 n = le16 (n % 65536) ++ le16 (n / 65536)

unfoldable pub le64 : ℕ → List ℕ
le64 n = le32 (n % 0x1_0000_0000) ++ le32 (n / 0x1_0000_0000)

-- "A cell starts with a signed 32-bit size, negative when in use; the absolute value is [its size]"
-- `pos n` is n, and `negsuc n` is -(n + 1)
abbrev pub size_of : ℤ → Size
size_of (pos n) = record { used = false; bytes = n }
size_of (negsuc n) = record { used = true; bytes = suc n }

unfoldable pub size_at : List ℕ → ℕ → Size
size_at s i = size_of (to_z w32 (u32_at s i))
