-- "The check reports bins, [..] used bytes and free bytes": sums over the bins and cells of a tiling. d is the bins data.
use Rattle.std.specs.Prelude.{ℕ, ◌+◌, cond, List, [], ◌∷◌, ◌++◌}
use Rattle.fields.specs.declared.Size.{Size}
use Rattle.fields.specs.Number.{size_at}
use Rattle.cells.specs.Tiled.{CellsTile, cells-end, cell-on, BinsTile, bins-end, bin-on}

-- the cells that tile a bin, one after the other, each as its size field says; then those of all bins
unfoldable pub cells_of : {d : List ℕ} {end at : ℕ} → CellsTile d end at → List Size
cells_of {d} {end} {at} cells-end = []
cells_of {d} {end} {at} (cell-on lt g t) = size_at d at ∷ cells_of t

unfoldable pub cells_in : {d : List ℕ} {at : ℕ} → BinsTile d at → List Size
cells_in {d} {at} (bins-end e) = []
cells_in {d} {at} (bin-on n h t b) = cells_of t ++ cells_in b

-- the number of bins
unfoldable pub bin_count : {d : List ℕ} {at : ℕ} → BinsTile d at → ℕ
bin_count {d} {at} (bins-end e) = 0
bin_count {d} {at} (bin-on n h t b) = 1 + bin_count b

-- the bytes of the cells in use, and those of the free cells: whole cells, with their size fields
unfoldable pub used_bytes : List Size → ℕ
used_bytes [] = 0
used_bytes (z ∷ zs) = cond z.used z.bytes 0 + used_bytes zs

unfoldable pub free_bytes : List Size → ℕ
free_bytes [] = 0
free_bytes (z ∷ zs) = cond z.used 0 z.bytes + free_bytes zs
