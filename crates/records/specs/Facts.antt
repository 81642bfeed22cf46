-- What a key record is, as plain facts of its cell's data: "Each record must fit its cell's data." Below, r is the data of a cell.
use Rattle.std.specs.Prelude.{ℕ, ◌+◌, ◌%◌, ◌≤◌, ◌≡◌, false, length, take}
use mathlib.Core.List.{List, [], ◌∷◌, Memᴰ}
use Rattle.fields.specs.Number.{u16_at}
use Rattle.names.specs.Codes.{codes}
use Rattle.records.specs.Keys.{key_narrow, key_name}

-- the two bytes of a signature
abbrev pub Signed : List ℕ → ℕ → ℕ → Type 0
Signed r a b = take 2 r ≡ a ∷ b ∷ []

-- "Key `nk`: flags at 2 (0x0020: one byte per character, else UTF-16LE), [..] name length at 72, name at 76. A name has 1 to 255 characters and no
-- backslash; UTF-16 lengths are even."
pub record KeyRecord (r : List ℕ) : Type 0 where
  pub nk : Signed r 110 107
  pub room : 76 + u16_at r 72 ≤ length r
  pub even : key_narrow r ≡ false → u16_at r 72 % 2 ≡ 0
  pub some : 1 ≤ length (codes (key_narrow r) (key_name r))
  pub few : length (codes (key_narrow r) (key_name r)) ≤ 255
  pub no-backslash : Memᴰ 92 (codes (key_narrow r) (key_name r)) → ⊥
