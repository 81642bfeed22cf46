-- "Value `vk`: name length at 2 (at most 16,383 characters, even bytes if UTF-16), data size at 4, data offset at 8, type at 12, flags at 16
-- (0x0001: one byte per character), name at 20." Below, r is the data of a cell.
use Rattle.std.specs.Prelude.{ℕ, ◌+◌, ◌-◌, Bool, cond, ◌&&◌, List, [], ◌∷◌, leb, ltb, length, Err, Ok, Result}
use Rattle.fields.specs.declared.Fault.TheVariants.{Record}
use Rattle.fields.specs.declared.Offset.{Offset}
use Rattle.fields.specs.Number.{u16_at, u32_at}
use Rattle.fields.specs.Bytes.{stands_at}
use Rattle.fields.specs.Faults.{flaw, unless, ◌next◌, Verdict}
use Rattle.cells.specs.Rule.{Rule}
use Rattle.cells.specs.Named.{cell_fault, data_at}
use Rattle.names.specs.Codes.{characters_in}
use Rattle.records.specs.Keys.{is_flagged, is_whole}
use Rattle.records.specs.Offsets.{offset_at}
use Rattle.values.specs.declared.Value.{Value}
use Rattle.values.specs.declared.ValueData.{ValueData}
use Rattle.values.specs.declared.ValueData.TheVariants.{Inline, OneCell, Segments}
use Rattle.fields.specs.declared.Flaw.{Flaw}

abbrev pub value_narrow : List ℕ → Bool
value_narrow r = is_flagged (u16_at r 16) 1

-- "at most 16,383 characters, even bytes if UTF-16"
unfoldable pub is_value_name : ℕ → Bool → Bool
is_value_name len narrow = is_whole len narrow && leb (characters_in len narrow) 16383

-- the most that a segment holds, and the most that a value holds
abbrev pub segment_size : ℕ
segment_size = 16344

abbrev pub data_limit : ℕ
data_limit = 1048576

abbrev pub top_bit : ℕ
top_bit = 2147483648

-- "Top bit of the size set: length at most 4, bytes lie at 8. Otherwise at most 1,048,576"
unfoldable pub is_data_size : ℕ → Bool
is_data_size size = cond (leb top_bit size) (leb (size - top_bit) 4) (leb size data_limit)

-- "Each record must fit its cell's data": 20 bytes and the name, whatever it says of its data
unfoldable pub is_old_value : List ℕ → Bool
is_old_value r =
    leb 20 (length r)
    && (stands_at r 0 (118 ∷ 107 ∷ []) && (leb (20 + u16_at r 2) (length r) && is_value_name (u16_at r 2) (value_narrow r)))

-- the whole record: with a data size that may be
unfoldable pub is_value : List ℕ → Bool
is_value r = is_old_value r && is_data_size (u32_at r 4)

-- the value's cell, then its record: 11, or 12 at the value
unfoldable pub value_fault : Rule → List ℕ → List ℕ → Offset → Verdict
value_fault rule d m v = cell_fault rule d m v next unless (is_value (data_at d v)) (flaw Record v)

-- "Over 16,344 with minor 4 or 5: the cell holds `db` [..]. All else lies in one cell."
unfoldable pub is_segmented : ℕ → ℕ → Bool
is_segmented minor size = ltb segment_size size && leb 4 minor

-- where the data lie, by the record r of the value at an offset, in a hive of a minor version
unfoldable pub content_of : List ℕ → ℕ → Offset → ValueData
content_of r minor v =
    let size = u32_at r 4 in
    cond (leb top_bit size)
    (Inline v (size - top_bit))
    (cond (is_segmented minor size) (Segments (offset_at r 8) size) (OneCell (offset_at r 8) size))

unfoldable pub data_in : List ℕ → ℕ → Offset → ValueData
data_in d minor v = content_of (data_at d v) minor v

-- the fields of the record r of the value at an offset; its name lies in the data of that cell
unfoldable pub fields_of : List ℕ → ℕ → Offset → Value
fields_of r minor v =
    record {
      kind = u32_at r 12;
      content = content_of r minor v;
      name = record { cell = v; at = 20; len = u16_at r 2; narrow = value_narrow r };
    }

unfoldable pub value_of : List ℕ → ℕ → Offset → Value
value_of d minor v = fields_of (data_at d v) minor v

-- the value, where its tests are sound
abbrev pub valued : Verdict → Value → Result Value Flaw
valued (Ok tt) x = Ok x
valued (Err f) x = Err f
