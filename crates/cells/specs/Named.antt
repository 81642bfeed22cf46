-- The cell in use that an offset names: by the work map in the check, and by the cell's own header in lookup.
use Rattle.std.specs.Prelude.{ℕ, ◌+◌, ◌-◌, ◌%◌, Bool, cond, ◌&&◌, List, eqb, leb, length, take, drop, Err, Ok, Result}
use Rattle.fields.specs.declared.Offset.{Offset}
use Rattle.fields.specs.declared.Place.{Place}
use Rattle.fields.specs.declared.Fault.TheVariants.{NoCell}
use Rattle.fields.specs.Number.{size_at}
use Rattle.fields.specs.Faults.{flaw, Verdict}
use Rattle.fields.specs.Position.{place_of}
use Rattle.cells.specs.declared.Cell.{Cell}
use Rattle.cells.specs.Rule.{Rule, Map, Header}
use Rattle.cells.specs.Tiling.{good_size}
use Rattle.cells.specs.Map.{is_marked}
use Rattle.fields.specs.declared.Flaw.{Flaw}

-- "They have no map: here 11 means an offset below 32 or no multiple of 8, a size not negative or no nonzero multiple of 8, or a cell past the
-- bins data."
unfoldable pub is_named : List ℕ → ℕ → Bool
is_named d o =
    leb 32 o && (eqb (o % 8) 0 && (leb (o + 4) (length d) && ((size_at d o).used && good_size (size_at d o).bytes (length d - o))))

-- the cell at an offset: its data are what follows its size field
abbrev pub cell_at : List ℕ → Offset → Cell
cell_at d o = record { at = o; len = (size_at d o.0).bytes - 4 }

unfoldable pub by_header : List ℕ → Offset → Result Cell Flaw
by_header d o = cond (is_named d o.0) (Ok (cell_at d o)) (Err (flaw NoCell o))

-- "11: offset names no cell in use": in the check, where the map has no bit for it
unfoldable pub cell_of : Rule → List ℕ → List ℕ → Offset → Result Cell Flaw
cell_of Header d m o = by_header d o
cell_of Map d m o = cond (is_marked m o.0) (by_header d o) (Err (flaw NoCell o))

-- the test alone: sound where the offset names a cell
abbrev pub verdict_of : Result Cell Flaw → Verdict
verdict_of (Ok c) = Ok tt
verdict_of (Err f) = Err f

unfoldable pub cell_fault : Rule → List ℕ → List ℕ → Offset → Verdict
cell_fault r d m o = verdict_of (cell_of r d m o)

-- the bytes of a cell's data: "A cell starts with a signed 32-bit size", and what follows it are its data
unfoldable pub data_of : List ℕ → Cell → List ℕ
data_of d c = take c.len (drop (c.at.0 + 4) d)

-- the data of the cell at an offset, which upper definitions read
unfoldable pub data_at : List ℕ → Offset → List ℕ
data_at d o = data_of d (cell_at d o)

-- what would be the data of a cell that starts at an offset and ends at another
abbrev pub data_to : List ℕ → ℕ → ℕ → List ℕ
data_to d o end = take (end - (o + 4)) (drop (o + 4) d)

-- the bytes of such a part
abbrev pub part_in : List ℕ → Offset → ℕ → ℕ → List ℕ
part_in d o at len = take len (drop at (data_at d o))

-- where in the file such a part stands; what is no part, at 0
unfoldable pub part_place : Offset → ℕ → ℕ → Place
part_place o at len = cond (eqb (at + len) 0) (record { 0 = 0 }) (record { 0 = (place_of o).0 + 4 + at })
