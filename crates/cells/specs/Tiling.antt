-- Bins tile the bins data, and cells tile the rest of each bin. d is the bins data.
use Rattle.std.specs.Prelude.{ℕ, zero, suc, ◌+◌, ◌-◌, ◌%◌, Bool, cond, not, ◌&&◌, List, [], ◌∷◌, eqb, leb, ltb, length, Err, Ok, Result}
use Rattle.fields.specs.declared.Size.{Size}
use Rattle.fields.specs.declared.Fault.TheVariants.{BinHeader, CellSize}
use Rattle.fields.specs.Number.{u32_at, size_at}
use Rattle.fields.specs.Bytes.{stands_at}
use Rattle.fields.specs.Faults.{flaw}
use Rattle.cells.specs.declared.Tally.{Tally}
use Rattle.fields.specs.declared.Flaw.{Flaw}

-- "the absolute value is a nonzero multiple of 8 and stays inside the bin", of which room bytes are left
unfoldable pub good_size : ℕ → ℕ → Bool
good_size n room = not (eqb n 0) && (eqb (n % 8) 0 && leb n room)

-- "Cells tile the rest of each bin. A cell starts with a signed 32-bit size": what stands from an offset to the bin's end is nothing more,
-- a bad size at an offset, or a cell with its size and what stands after it
pub data Tiling : Type 0 where
  whole : Tiling
  bad : ℕ → Tiling
  cell : ℕ → Size → Tiling → Tiling

unfoldable pub tiling_n : ℕ → List ℕ → ℕ → ℕ → Tiling
tiling_n zero d at end = whole
tiling_n (suc k) d at end =
    let next = cell at (size_at d at) (tiling_n k d (at + (size_at d at).bytes) end) in
    cond (ltb at end) (cond (good_size (size_at d at).bytes (end - at)) next (bad at)) whole

-- each cell has at least a byte, so as many steps as there are bytes are enough
unfoldable pub tiling : List ℕ → ℕ → ℕ → Tiling
tiling d at end = tiling_n (end - at) d at end

-- the bytes in use and the free bytes, added to those before; or "10: cell size", at the cell
unfoldable pub row_of : Tiling → ℕ → ℕ → Result (ℕ × ℕ) Flaw
row_of whole used free = Ok (used, free)
row_of (bad at) used free = Err (flaw CellSize (record { 0 = at }))
row_of (cell at z t) used free =
    row_of t (cond z.used (used + z.bytes) used) (cond z.used free (free + z.bytes))

-- "Header, 32 bytes: `hbin`, own offset at 4, size at 8 (nonzero multiple of 4096, ending inside the bins data)": the size of a bin whose
-- header is good, else 0
unfoldable pub bin_size : List ℕ → ℕ → ℕ
bin_size d at =
    cond (stands_at d at (104 ∷ 98 ∷ 105 ∷ 110 ∷ []))
    (cond (eqb (u32_at d (at + 4)) at)
    (cond (eqb (u32_at d (at + 8) % 4096) 0) (cond (leb (u32_at d (at + 8)) (length d - at)) (u32_at d (at + 8)) 0) 0)
    0)
    0

-- "Bins tile the bins data from offset 0": what stands from an offset on is nothing more, a bad header at an offset, or a bin with the tiling of
-- its cells and what stands after it
pub data Layout : Type 0 where
  last : Layout
  bad_bin : ℕ → Layout
  bin : ℕ → Tiling → Layout → Layout

unfoldable pub layout_n : ℕ → List ℕ → ℕ → Layout
layout_n zero d at = last
layout_n (suc k) d at =
    let n = bin_size d at in
    let next = bin at (tiling d (at + 32) (at + n)) (layout_n k d (at + n)) in
    cond (ltb at (length d)) (cond (eqb n 0) (bad_bin at) next) last

unfoldable pub layout : List ℕ → ℕ → Layout
layout d at = layout_n (length d - at) d at

-- "then 9 and 10, bin by bin, header before cells": the first fault, or the counts, added to those before
unfoldable pub add_row : Result (ℕ × ℕ) Flaw → ℕ → ℕ → (ℕ → ℕ → Result Tally Flaw) → Result Tally Flaw
add_row (Err f) used free go = Err f
add_row (Ok (u, f)) used free go = go (used + u) (free + f)

unfoldable pub survey_of : Layout → ℕ → ℕ → ℕ → Result Tally Flaw
survey_of last n used free = Ok (record { bins = n; used = used; free = free })
survey_of (bad_bin at) n used free = Err (flaw BinHeader (record { 0 = at }))
survey_of (bin at t b) n used free = add_row (row_of t 0 0) used free (λ u f. survey_of b (n + 1) u f)
