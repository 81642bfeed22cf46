-- The work map: "bit b of byte j (lowest bit first) is set exactly when a cell in use starts at offset 64j + 8b; bytes beyond bins size / 64 stay".
use Rattle.std.specs.Prelude.{ℕ, ◌/◌, ◌%◌, ◌^◌, Bool, true, false, cond, ◌&&◌, ◌||◌, List, eqb, length, get_or, set, Err, Ok, Result}
use Rattle.std.specs.Int.Bits.{bit_or}
use Rattle.bitmap.specs.Bits.{zeros, is_marked as is_set}
use Rattle.cells.specs.Tiling.{Tiling, whole, bad, cell, row_of, Layout, last, bad_bin, bin, layout}
use Rattle.cells.specs.declared.Tally.{Tally}
use Rattle.fields.specs.declared.Flaw.{Flaw}

-- the map with the bit of an offset set
unfoldable pub mark_at : List ℕ → ℕ → List ℕ
mark_at m at = set m (at / 64) (bit_or (get_or m (at / 64) 0) (2 ^ (at / 8 % 8)))

-- the bits of a bin's cells in use, up to the first fault
unfoldable pub marks : Tiling → List ℕ → List ℕ
marks whole m = m
marks (bad at) m = m
marks (cell at z t) m = marks t (cond z.used (mark_at m at) m)

unfoldable pub is_bad : Result (ℕ × ℕ) Flaw → Bool
is_bad (Err f) = true
is_bad (Ok (u, f)) = false

unfoldable pub marks_all : Layout → List ℕ → List ℕ
marks_all last m = m
marks_all (bad_bin at) m = m
marks_all (bin at t b) m =
    let after = marks_all b (marks t m) in
    cond (is_bad (row_of t 0 0)) (marks t m) after

-- "9 and 10 leave its first bins size / 64 bytes zero; later ones leave it complete"
unfoldable pub map_after : List ℕ → Result Tally Flaw → List ℕ → List ℕ
map_after d (Ok t) m = marks_all (layout d 0) (zeros (length d / 64) m)
map_after d (Err f) m = zeros (length d / 64) m

-- an offset is a multiple of 8, and its bit is set
unfoldable pub is_marked : List ℕ → ℕ → Bool
is_marked m o = eqb (o % 8) 0 && is_set m (o / 8)

-- whether a cell in use starts at an offset, in a bin and in all bins
unfoldable pub starts : Tiling → ℕ → Bool
starts whole o = false
starts (bad at) o = false
starts (cell at z t) o = z.used && eqb at o || starts t o

unfoldable pub starts_in : Layout → ℕ → Bool
starts_in last o = false
starts_in (bad_bin at) o = false
starts_in (bin at t b) o = starts t o || starts_in b o
