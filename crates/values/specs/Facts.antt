-- What a value record is, but for the data it names, as plain facts of its cell's data. Below, r is the data of a cell.
use Rattle.std.specs.Prelude.{ℕ, ◌+◌, ◌%◌, ◌≤◌, ◌≡◌, false, List, length, take, drop}
use Rattle.fields.specs.Number.{u16_at}
use Rattle.names.specs.Codes.{codes}
use Rattle.records.specs.Facts.{Signed}
use Rattle.values.specs.Records.{value_narrow}

-- "Value `vk`: name length at 2 (at most 16,383 characters, even bytes if UTF-16), [..] flags at 16 (0x0001: one byte per character), name at 20."
pub record OldValueRecord (r : List ℕ) : Type 0 where
  pub vk : Signed r 118 107
  pub room : 20 + u16_at r 2 ≤ length r
  pub even : value_narrow r ≡ false → u16_at r 2 % 2 ≡ 0
  pub few : length (codes (value_narrow r) (take (u16_at r 2) (drop 20 r))) ≤ 16383
