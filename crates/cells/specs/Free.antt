-- The free cells of the bins, one after the other. d is the bins data.
use Rattle.std.specs.Prelude.{ℕ, ◌+◌, ◌-◌, ◌<◌, ◌≡◌, false, cond, List, [], ◌∷◌, ◌++◌}
use Rattle.fields.specs.Number.{size_at}
use Rattle.cells.specs.Tiling.{Tiling, whole, bad, cell, Layout, last, bad_bin, bin}
use Rattle.cells.specs.Tiled.{Good, Header}

-- "a free cell (its start counts)": where it starts, and where it ends
pub record Span : Type 0 where
  pub from : ℕ
  pub to : ℕ

-- the free cells of a bin, and those of all bins, in order
unfoldable pub free_in : Tiling → List Span
free_in whole = []
free_in (bad at) = []
free_in (cell at z t) = cond z.used (free_in t) (record { from = at; to = at + z.bytes } ∷ free_in t)

unfoldable pub free_cells : Layout → List Span
free_cells last = []
free_cells (bad_bin at) = []
free_cells (bin at t b) = free_in t ++ free_cells b

-- a free cell starts at an offset o: among the cells from an offset of a bin to the bin's end, "negative when in use"
pub data FreeCell (d : List ℕ) (end o : ℕ) : ℕ → Type 0 where
  this-free : o < end → Good (size_at d o).bytes (end - o) → (size_at d o).used ≡ false → FreeCell d end o o
  later-free : {at : ℕ} → at < end → Good (size_at d at).bytes (end - at) → FreeCell d end o (at + (size_at d at).bytes) → FreeCell d end o at

-- and among those of the bins from an offset on
pub data FreeBin (d : List ℕ) (o : ℕ) : ℕ → Type 0 where
  in-bin : {at : ℕ} (n : ℕ) → Header d at n → FreeCell d (at + n) o (at + 32) → FreeBin d o at
  past-bin : {at : ℕ} (n : ℕ) → Header d at n → FreeBin d o (at + n) → FreeBin d o at
