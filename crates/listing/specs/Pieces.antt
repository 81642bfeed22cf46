-- What a key names beside its lists and its values, for a host that shows it or copies it on: its class name and its security descriptor, as pieces of the
-- file. The given key is tested as in listing: 1 to 7, then its own 11 or 12; once its record is accepted it is the key under examination. The check reads no
-- class names. h is the hive, d its bins data, k the key's offset.
use Rattle.std.specs.Prelude.{ℕ, cond, List, [], eqb, Err, None, Ok, Option, Result, Some}
use Rattle.fields.specs.declared.Offset.{Offset}
use Rattle.fields.specs.Number.{u16_at}
use Rattle.fields.specs.Faults.{no_key, refusal_of, ◌next◌, Verdict}
use Rattle.base.specs.Block.{bins_data, base_fault}
use Rattle.cells.specs.Rule.{Header}
use Rattle.cells.specs.Named.{data_at, part_place}
use Rattle.records.specs.Keys.{key_fault, security_of}
use Rattle.records.specs.Offsets.{offset_at}
use Rattle.security.specs.Items.{item_of}
use Rattle.security.specs.Descriptor.{descriptor_fault, descriptor_place}
use Rattle.values.specs.Segments.{room_fault}
use Rattle.listing.specs.declared.Piece.{Piece}
use Rattle.fields.specs.declared.Refusal.{Refusal}

-- the tests of the given key
abbrev pub given_fault : List ℕ → Offset → Verdict
given_fault h k = base_fault h next key_fault Header (bins_data h) [] k

-- "Class name offset" at 48, and "Class name length" at 74, in bytes
unfoldable pub class_cell : List ℕ → Offset → Offset
class_cell d k = offset_at (data_at d k) 48

unfoldable pub class_length : List ℕ → Offset → ℕ
class_length d k = u16_at (data_at d k) 74

-- so many bytes from the start of a cell's data on
abbrev pub class_piece : Offset → ℕ → Piece
class_piece o n = record { at = part_place o 0 n; len = n }

abbrev pub class_where : Offset → Verdict → Piece → Result (Option Piece) Refusal
class_where k (Ok tt) p = Ok (Some p)
class_where k (Err f) p = Err (refusal_of k f)

-- length 0: there is none, and the offset is not read. Else its cell is tested as a value's data cell is: 11, or 12 at that cell where it has no room
unfoldable pub class_below : List ℕ → Offset → Result (Option Piece) Refusal
class_below d k =
    cond (eqb (class_length d k) 0)
    (Ok None)
    (class_where k (room_fault Header d [] (class_cell d k) (class_length d k)) (class_piece (class_cell d k) (class_length d k)))

abbrev pub class_after : Verdict → Result (Option Piece) Refusal → Result (Option Piece) Refusal
class_after (Ok tt) a = a
class_after (Err f) a = Err (refusal_of no_key f)

-- key_class
unfoldable pub class_answer : List ℕ → Offset → Result (Option Piece) Refusal
class_answer h k = class_after (given_fault h k) (class_below (bins_data h) k)

-- the descriptor of the item at an offset
abbrev pub descriptor_piece : List ℕ → Offset → Piece
descriptor_piece d o = record { at = descriptor_place o (item_of d o); len = (item_of d o).size }

abbrev pub security_where : Offset → Verdict → Piece → Result Piece Refusal
security_where k (Ok tt) p = Ok p
security_where k (Err f) p = Err (refusal_of k f)

-- the item that the key's offset at 44 names: its cell, 11; then "sk", its 20 bytes and its descriptor's room, 12 at the item
unfoldable pub security_below : List ℕ → Offset → Result Piece Refusal
security_below d k = security_where k (descriptor_fault Header d [] (security_of d k)) (descriptor_piece d (security_of d k))

abbrev pub security_after : Verdict → Result Piece Refusal → Result Piece Refusal
security_after (Ok tt) a = a
security_after (Err f) a = Err (refusal_of no_key f)

-- key_security
unfoldable pub security_answer : List ℕ → Offset → Result Piece Refusal
security_answer h k = security_after (given_fault h k) (security_below (bins_data h) k)
