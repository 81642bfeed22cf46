-- The data of a value: the tests of its cells, and its bytes.
use Rattle.std.specs.Prelude.{ℕ, zero, suc, ◌+◌, ◌-◌, ◌*◌, ◌/◌, Bool, cond, ◌&&◌, List, [], ◌∷◌, ◌++◌, eqb, leb, ltb, length, take, drop, Ok}
use Rattle.fields.specs.declared.Fault.TheVariants.{Record}
use Rattle.fields.specs.declared.Offset.{Offset}
use Rattle.fields.specs.Number.{u16_at}
use Rattle.fields.specs.Bytes.{stands_at}
use Rattle.fields.specs.Faults.{flaw, unless, ◌next◌, fault_over, Verdict}
use Rattle.cells.specs.Rule.{Rule}
use Rattle.cells.specs.Named.{cell_fault, data_at}
use Rattle.records.specs.Offsets.{offset_at}
use Rattle.values.specs.declared.Entries.{Entries}
use Rattle.values.specs.declared.Segment.{Segment}
use Rattle.values.specs.declared.ValueData.{ValueData}
use Rattle.values.specs.declared.ValueData.TheVariants.{Inline, OneCell, Segments}
use Rattle.values.specs.Records.{segment_size}

-- an offset names a cell with room for so many bytes: 11, or 12 at that cell
unfoldable pub room_fault : Rule → List ℕ → List ℕ → Offset → ℕ → Verdict
room_fault rule d m o n = cell_fault rule d m o next unless (leb n (length (data_at d o))) (flaw Record o)

-- "count is size / 16,344 rounded up"
unfoldable pub segments_for : ℕ → ℕ
segments_for size = (size + 16343) / segment_size

-- "the cell holds `db`, segment count at 2, offset of the segment list at 4"; r is the data of the cell
unfoldable pub is_db : List ℕ → ℕ → Bool
is_db r size = leb 8 (length r) && (stands_at r 0 (100 ∷ 98 ∷ []) && eqb (u16_at r 2) (segments_for size))

unfoldable pub db_fault : Rule → List ℕ → List ℕ → Offset → ℕ → Verdict
db_fault rule d m o size = cell_fault rule d m o next unless (is_db (data_at d o) size) (flaw Record o)

-- "each segment but the last holds 16,344 bytes": n segments from element i of a segment list on, r its data, with so many bytes to hold
unfoldable pub segment_length : ℕ → ℕ
segment_length left = cond (ltb segment_size left) segment_size left

unfoldable pub segments_from : List ℕ → ℕ → ℕ → ℕ → List Segment
segments_from r i left zero = []
segments_from r i left (suc n) =
    record { at = offset_at r (i * 4); len = segment_length left } ∷ segments_from r (suc i) (left - segment_size) n

-- the segment list of the `db` at an offset, and its segments
abbrev pub segment_list : List ℕ → Offset → Offset
segment_list d o = offset_at (data_at d o) 4

unfoldable pub segments_of : List ℕ → Offset → ℕ → List Segment
segments_of d o size = segments_from (data_at d (segment_list d o)) 0 size (segments_for size)

-- the same, by the elements of a segment list
abbrev pub segments_in : List ℕ → Entries → ℕ → List Segment
segments_in d e size = segments_from (data_at d e.cell) 0 size e.count

unfoldable pub segment_fault : Rule → List ℕ → List ℕ → Segment → Verdict
segment_fault rule d m s = room_fault rule d m s.at s.len

-- "`db` cell and record, segment list's cell and room, then the segments in order, each 11 then 12"
unfoldable pub segment_list_fault : Rule → List ℕ → List ℕ → Offset → ℕ → Verdict
segment_list_fault rule d m o size = db_fault rule d m o size next room_fault rule d m (segment_list d o) (4 * segments_for size)

unfoldable pub segments_fault : Rule → List ℕ → List ℕ → Offset → ℕ → Verdict
segments_fault rule d m o size =
    segment_list_fault rule d m o size
    next fault_over (segment_fault rule d m) (segments_of d o size)

-- "size 0 reads nothing"
unfoldable pub data_fault : Rule → List ℕ → List ℕ → ValueData → Verdict
data_fault rule d m (Inline v len) = Ok tt
data_fault rule d m (OneCell o len) = cond (eqb len 0) (Ok tt) (room_fault rule d m o len)
data_fault rule d m (Segments o len) = segments_fault rule d m o len

-- the bytes: what a segment holds, and what a value's record names; inline data "lie at 8" of the record
abbrev pub segment_bytes : List ℕ → Segment → List ℕ
segment_bytes d s = take s.len (data_at d s.at)

unfoldable pub joined_bytes : List ℕ → List Segment → List ℕ
joined_bytes d [] = []
joined_bytes d (s ∷ ss) = segment_bytes d s ++ joined_bytes d ss

unfoldable pub bytes_of : List ℕ → ValueData → List ℕ
bytes_of d (Inline v len) = take len (drop 8 (data_at d v))
bytes_of d (OneCell o len) = cond (eqb len 0) [] (take len (data_at d o))
bytes_of d (Segments o len) = joined_bytes d (segments_of d o len)

abbrev pub length_of : ValueData → ℕ
length_of (Inline v len) = len
length_of (OneCell o len) = len
length_of (Segments o len) = len
