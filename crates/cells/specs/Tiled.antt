-- What it means that cells tile the bins, said without an order of tests. d is the bins data.
use Rattle.std.specs.Prelude.{ℕ, ◌+◌, ◌-◌, ◌%◌, ◌≤◌, ◌<◌, ◌≡◌, true, ◌↔◌, List, [], ◌∷◌, length}
use Rattle.fields.specs.declared.Offset.{Offset}
use Rattle.fields.specs.Number.{u32_at, size_at}
use Rattle.fields.specs.Bytes.{stands_at}
use Rattle.cells.specs.Map.{is_marked}

-- "the absolute value is a nonzero multiple of 8 and stays inside the bin"
pub record Good (n room : ℕ) : Type 0 where
  pub some : 0 < n
  pub eights : n % 8 ≡ 0
  pub inside : n ≤ room

-- "Cells tile the rest of each bin": from an offset to the bin's end
pub data CellsTile (d : List ℕ) (end : ℕ) : ℕ → Type 0 where
  cells-end : CellsTile d end end
  cell-on : {at : ℕ} → at < end → Good (size_at d at).bytes (end - at) → CellsTile d end (at + (size_at d at).bytes) → CellsTile d end at

-- "Header, 32 bytes: `hbin`, own offset at 4, size at 8 (nonzero multiple of 4096, ending inside the bins data)"
pub record Header (d : List ℕ) (at n : ℕ) : Type 0 where
  pub hbin : stands_at d at (104 ∷ 98 ∷ 105 ∷ 110 ∷ []) ≡ true
  pub own : u32_at d (at + 4) ≡ at
  pub size : u32_at d (at + 8) ≡ n
  pub some : 0 < n
  pub pages : n % 4096 ≡ 0
  pub inside : at + n ≤ length d

-- "Bins tile the bins data from offset 0": from an offset on
pub data BinsTile (d : List ℕ) : ℕ → Type 0 where
  bins-end : {at : ℕ} → at ≡ length d → BinsTile d at
  bin-on : {at : ℕ} (n : ℕ) → Header d at n → CellsTile d (at + n) (at + 32) → BinsTile d (at + n) → BinsTile d at

-- a cell in use starts at an offset o: among the cells from an offset of a bin to the bin's end, "negative when in use"
pub data InCells (d : List ℕ) (end o : ℕ) : ℕ → Type 0 where
  this-cell : o < end → Good (size_at d o).bytes (end - o) → (size_at d o).used ≡ true → InCells d end o o
  later-cell : {at : ℕ} → at < end → Good (size_at d at).bytes (end - at) → InCells d end o (at + (size_at d at).bytes) → InCells d end o at

-- and among those of the bins from an offset on
pub data InBins (d : List ℕ) (o : ℕ) : ℕ → Type 0 where
  this-bin : {at : ℕ} (n : ℕ) → Header d at n → InCells d (at + n) o (at + 32) → InBins d o at
  later-bin : {at : ℕ} (n : ℕ) → Header d at n → InBins d o (at + n) → InBins d o at

-- of all bins
abbrev pub InUse : List ℕ → Offset → Type 0
InUse d o = InBins d o.0 0

-- a cell that stands in the part from one offset to another, and is in use
pub record CellIn (d : List ℕ) (low high o : ℕ) : Type 0 where
  pub after : low ≤ o
  pub before : o + (size_at d o).bytes ≤ high
  pub some : 0 < (size_at d o).bytes
  pub whole : (size_at d o).bytes % 8 ≡ 0
  pub eights : o % 8 ≡ 0
  pub used : (size_at d o).used ≡ true

-- a cell in use lies wholly inside one bin, past its header
pub record InBin (d : List ℕ) (o : ℕ) : Type 0 where
  pub bin : ℕ
  pub size : ℕ
  pub header : Header d bin size
  pub inside : CellIn d (bin + 32) (bin + size) o

-- "bit b of byte j (lowest bit first) is set exactly when a cell in use starts at offset 64j + 8b", of every offset in the bins data
abbrev pub Mapped : List ℕ → List ℕ → Type 0
Mapped d m = (o : Offset) → o.0 < length d → (is_marked m o.0 ≡ true) ↔ InUse d o
