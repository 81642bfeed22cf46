-- What the code asks of its callers and its loops keep. d is the bins data, m the work map.
use Rattle.std.specs.Prelude.{ℕ, ◌+◌, ◌*◌, ◌%◌, ◌≤◌, ◌<◌, ◌≡◌, cond, ◌⊎◌, List, [], ◌∷◌, ◌++◌, ltb, length, get_or}
use Rattle.fields.specs.Number.{size_at}
use Rattle.base.specs.Block.{bins_limit}
use Rattle.fields.specs.declared.Offset.{Offset}
use Rattle.cells.specs.declared.Cell.{Cell}
use Rattle.cells.specs.declared.Gap.{Gap}
use Rattle.cells.specs.Rule.{Rule, Map, Header}
use Rattle.cells.specs.Map.{is_marked}
use Rattle.cells.specs.Named.{is_named, data_at, data_to}
use Rattle.cells.specs.Tiling.{tiling, layout}
use Rattle.cells.specs.Tiled.{CellsTile, BinsTile}
use Rattle.cells.specs.Free.{Span, free_in, free_cells}

-- a bin from one offset to another lies in the bins data
pub record Bin (d : List ℕ) (start end : ℕ) : Type 0 where
  pub order : start ≤ end
  pub eights : start % 8 ≡ 0
  pub ends : end % 8 ≡ 0
  pub inside : end ≤ length d
  pub small : length d ≤ bins_limit

-- the bins data are whole pages
pub record Pages (d : List ℕ) : Type 0 where
  pub pages : length d % 4096 ≡ 0
  pub small : length d ≤ bins_limit

-- and the map has room for them
pub record Data (d m : List ℕ) : Type 0 where
  pub whole : Pages d
  pub room : length d ≤ length m * 64

-- how long the cell is that an offset names, its size field and all, by its header and by a rule; 0 where there is none, which is no cell's length
unfoldable pub length_named : List ℕ → ℕ → ℕ
length_named d o = cond (is_named d o) (size_at d o).bytes 0

unfoldable pub length_by : Rule → List ℕ → List ℕ → ℕ → ℕ
length_by Header d m o = length_named d o
length_by Map d m o = cond (is_marked m o) (length_named d o) 0

-- a cell's data lie inside the bins data
pub record Inside (d : List ℕ) (c : Cell) : Type 0 where
  pub ends : c.at.0 + 4 + c.len ≤ length d

-- a part of a cell's data, so many bytes from a position on, lies inside them. No bytes from the start on would lie in the data of any offset, whether
-- or not it names a cell: nothing is read there, so that is no part.
pub record PartIn (d : List ℕ) (o : Offset) (at len : ℕ) : Type 0 where
  pub some : 0 < at + len
  pub ends : at + len ≤ length (data_at d o)

-- an offset from one on, up to an end: at no multiple of 8 before it would the data of a cell have a byte b at a position i
pub record Without (d : List ℕ) (at end i b r : ℕ) : Type 0 where
  pub low : at ≤ r
  pub high : r ≤ end
  pub eights : r % 8 ≡ 0
  pub none : (o : ℕ) → at ≤ o → o < r → o % 8 ≡ 0 → get_or (data_to d o end) i 0 ≡ b → ⊥

-- a cell's end and its bin's end, in bins data that are tiled
pub record Stands (d : List ℕ) (cell bin : ℕ) : Type 0 where
  pub cells : CellsTile d bin cell
  pub bins : BinsTile d bin
  pub eights : cell % 8 ≡ 0
  pub pages : bin % 4096 ≡ 0
  pub order : cell ≤ bin
  pub inside : bin ≤ length d
  pub small : length d ≤ bins_limit

-- the free cells past a cell of a bin: the rest of the bin's, and those of the bins behind it
unfoldable pub free_from : List ℕ → ℕ → ℕ → List Span
free_from d cell bin = free_in (tiling d cell bin) ++ free_cells (layout d bin)

-- the free cell from an offset to another, where there is one
unfoldable pub gap_of : ℕ → ℕ → List Span
gap_of at end = cond (ltb at end) (record { from = at; to = end } ∷ []) []

-- the next free cell past a cell of a bin, or the end
pub record NextFree (d : List ℕ) (cell bin : ℕ) (r : Gap) : Type 0 where
  pub low : cell ≤ r.at
  pub order : r.at ≤ r.end
  pub eights : r.at % 8 ≡ 0
  pub stands : Stands d r.end r.bin
  pub same : free_from d cell bin ≡ gap_of r.at r.end ++ free_from d r.end r.bin
  pub more : (cell < r.end) ⊎ (r.at ≡ length d)
