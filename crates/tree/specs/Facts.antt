-- What a record is, as plain facts of its cell's data: "Each record must fit its cell's data." Below, r is the data of a cell.
use Rattle.std.specs.Prelude.{◌≡◌, ℕ, ◌+◌, ◌-◌, ◌*◌, ◌<◌, ◌≤◌, List, length}
use Rattle.fields.specs.Number.{u16_at, u32_at}
use Rattle.records.specs.Facts.{Signed}
use Rattle.values.specs.Facts.{OldValueRecord}

-- "count at 2 (at least 1), elements at 4", of so many bytes each
pub record ElementsFit (r : List ℕ) (width : ℕ) : Type 0 where
  pub some : 1 ≤ u16_at r 2
  pub room : 4 + u16_at r 2 * width ≤ length r

-- "`li`: offset. `lf`: offset, 4 bytes not read. `lh`: offset, hash.", and for the check "`lf`: offset, hint"
pub data LeafRecord (r : List ℕ) : Type 0 where
  li : Signed r 108 105 → ElementsFit r 4 → LeafRecord r
  lf : Signed r 108 102 → ElementsFit r 8 → LeafRecord r
  lh : Signed r 108 104 → ElementsFit r 8 → LeafRecord r

-- "`ri`: offsets of `li`, `lf` or `lh` lists, never of `ri`."
pub data ListRecord (r : List ℕ) : Type 0 where
  leaf : LeafRecord r → ListRecord r
  ri : Signed r 114 105 → ElementsFit r 4 → ListRecord r

-- "Value `vk`: name length at 2 (at most 16,383 characters, even bytes if UTF-16), data size at 4, [..] name at 20. Top bit of the size set: length at
-- most 4, bytes lie at 8. Otherwise at most 1,048,576"
pub record ValueRecord (r : List ℕ) : Type 0 where
  pub old : OldValueRecord r
  pub inline : 2147483648 ≤ u32_at r 4 → u32_at r 4 - 2147483648 ≤ 4
  pub limit : u32_at r 4 < 2147483648 → u32_at r 4 ≤ 1048576

-- "the cell holds `db`, segment count at 2, offset of the segment list at 4": so many segments
pub record DbRecord (r : List ℕ) (segments : ℕ) : Type 0 where
  pub db : Signed r 100 98
  pub room : 8 ≤ length r
  pub count : u16_at r 2 ≡ segments
