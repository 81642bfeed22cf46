-- What the code asks of its callers and its loops keep. d is the bins data.
use Rattle.std.specs.Prelude.{ℕ, ◌+◌, ◌*◌, ◌%◌, ◌≤◌, ◌<◌, ◌≡◌, cond, ◌⊎◌, List, [], ◌∷◌, ◌++◌, leb, length, None, Some}
use Rattle.std.proofs.lemmas.List.Edits.{sets}
use Rattle.cells.specs.Terms.{Stands, free_from}
use Rattle.base.specs.Block.{bins_limit}
use Rattle.remnants.specs.declared.Kind.{Kind}
use Rattle.remnants.specs.declared.Hit.{Hit}
use Rattle.remnants.specs.declared.Cursor.{Cursor}
use Rattle.remnants.specs.declared.Remain.{Remain}
use Rattle.remnants.specs.Remnants.{kind_at, spots_in, spots_of, not_below, words_of}

-- an offset and the end of its free cell, in the bins data
pub record Free (d : List ℕ) (at end : ℕ) : Type 0 where
  pub order : at ≤ end
  pub eights : at % 8 ≡ 0
  pub ends : end % 8 ≡ 0
  pub inside : end ≤ length d
  pub small : length d ≤ bins_limit

-- a position, and what it holds
pub record Spotted (d : List ℕ) (at end : ℕ) (k : Kind) : Type 0 where
  pub free : Free d at end
  pub before : at < end
  pub is : Some k ≡ kind_at d at end

-- what a position is that holds a record
pub record There (d : List ℕ) (at end from : ℕ) (k : Kind) : Type 0 where
  pub before : at < end
  pub past : from ≤ at
  pub is : Some k ≡ kind_at d at end

-- the first multiple of 8 at or past `from`, from one on, up to an end
pub record Skipped (at end from r : ℕ) : Type 0 where
  pub low : at ≤ r
  pub high : r ≤ end
  pub eights : r % 8 ≡ 0
  pub past : r < end → from ≤ r
  pub near : (r ≡ at) ⊎ (r ≤ from + 7)

-- what is left of a free cell at an offset gives what the whole gives
pub record Going (d : List ℕ) (at end from o : ℕ) : Type 0 where
  pub low : at ≤ o
  pub free : Free d o end
  pub past : o < end → from ≤ o
  pub same : not_below from (spots_in d at end) ≡ not_below from (spots_in d o end)

-- the first record of a free cell at or past `from`, or none
pub record Hits (d : List ℕ) (at end from : ℕ) (r : Hit) : Type 0 where
  pub low : at ≤ r.at
  pub free : Free d r.at end
  pub same : not_below from (spots_in d at end) ≡ not_below from (spots_in d r.at end)
  pub found : (k : Kind) → r.kind ≡ Some k → There d r.at end from k
  pub lost : r.kind ≡ None → r.at ≡ end

-- what is left past a cell of a bin, and past a position in a free cell
abbrev pub left : List ℕ → ℕ → ℕ → List Remain
left d cell bin = spots_of d (free_from d cell bin)

abbrev pub left_at : List ℕ → ℕ → ℕ → ℕ → List Remain
left_at d at cell bin = spots_in d at cell ++ left d cell bin

-- a position of a survey
abbrev pub cursor : ℕ → ℕ → ℕ → Cursor
cursor at cell bin = record { at = at; cell = cell; bin = bin; kind = None }

pub record At (d : List ℕ) (c : Cursor) : Type 0 where
  pub order : c.at ≤ c.cell
  pub eights : c.at % 8 ≡ 0
  pub stands : Stands d c.cell c.bin

-- a position that holds the first record at or past `from`; or none is left
pub record Sought (d : List ℕ) (from : ℕ) (r : Cursor) : Type 0 where
  pub at : At d r
  pub found : (k : Kind) → r.kind ≡ Some k → There d r.at r.cell from k
  pub lost : r.kind ≡ None → not_below from (left_at d r.at r.cell r.bin) ≡ []

pub record Sees (d : List ℕ) (c : Cursor) (from : ℕ) (r : Cursor) : Type 0 where
  pub sought : Sought d from r
  pub same : not_below from (left_at d c.at c.cell c.bin) ≡ not_below from (left_at d r.at r.cell r.bin)

abbrev pub sought_left : List ℕ → ℕ → Cursor → List Remain
sought_left d from c = not_below from (left_at d c.at c.cell c.bin)

-- the rows from row n on, as a loop stores them, and how many there are then
unfoldable pub pour_from : List Remain → ℕ → List ℕ → List ℕ
pour_from [] n rows = rows
pour_from (x ∷ xs) n rows = cond (leb (4 * n + 4) (length rows)) (pour_from xs (n + 1) (sets rows (4 * n) (words_of x))) rows

unfoldable pub count_from : List Remain → ℕ → ℕ → ℕ
count_from [] n room = n
count_from (x ∷ xs) n room = cond (leb (4 * n + 4) room) (count_from xs (n + 1) room) n
