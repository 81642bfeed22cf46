-- "Key `nk`: flags at 2 (0x0020: one byte per character, else UTF-16LE), parent at 16, subkey count at 20, subkey list at 28, value count at 36,
-- value list at 40, name length at 72, name at 76." Below, r is the data of a cell.
use Rattle.std.specs.Prelude.{ℕ, ◌+◌, ◌/◌, ◌%◌, Bool, not, ◌&&◌, ◌||◌, List, [], ◌∷◌, eqb, leb, length, take, drop, Err, Ok, Result}
use Rattle.fields.specs.declared.Fault.TheVariants.{Record}
use Rattle.fields.specs.declared.Offset.{Offset}
use Rattle.fields.specs.Number.{u16_at, u32_at}
use Rattle.fields.specs.Bytes.{stands_at}
use Rattle.fields.specs.Faults.{flaw, unless, ◌next◌, Verdict}
use Rattle.cells.specs.Rule.{Rule}
use Rattle.cells.specs.Named.{cell_fault, data_at, part_in}
use Rattle.cells.specs.Terms.{PartIn}
use Rattle.names.specs.Codes.{codes, characters_in, has_code, backslash}
use Rattle.records.specs.declared.Key.{Key}
use Rattle.records.specs.declared.Name.{Name}
use Rattle.records.specs.Offsets.{offset_at}
use Rattle.fields.specs.declared.Flaw.{Flaw}

-- whether a name is stored with one byte per character, by a flag of so much
abbrev pub is_flagged : ℕ → ℕ → Bool
is_flagged flags bit = eqb (flags / bit % 2) 1

abbrev pub key_narrow : List ℕ → Bool
key_narrow r = is_flagged (u16_at r 2) 32

abbrev pub key_name : List ℕ → List ℕ
key_name r = take (u16_at r 72) (drop 76 r)

-- "UTF-16 lengths are even"
abbrev pub is_whole : ℕ → Bool → Bool
is_whole len narrow = narrow || eqb (len % 2) 0

-- "A name has 1 to 255 characters and no backslash; UTF-16 lengths are even."
unfoldable pub is_key_name : List ℕ → Bool → Bool
is_key_name s narrow =
    is_whole (length s) narrow
    && (leb 1 (characters_in (length s) narrow) && (leb (characters_in (length s) narrow) 255 && not (has_code backslash (codes narrow s))))

-- "Each record must fit its cell's data": 76 bytes and the name
unfoldable pub is_key : List ℕ → Bool
is_key r =
    leb 76 (length r)
    && (stands_at r 0 (110 ∷ 107 ∷ []) && (leb (76 + u16_at r 72) (length r) && is_key_name (key_name r) (key_narrow r)))

-- the key's cell, then its record: 11, or 12 at the key
unfoldable pub key_fault : Rule → List ℕ → List ℕ → Offset → Verdict
key_fault rule d m o = cell_fault rule d m o next unless (is_key (data_at d o)) (flaw Record o)

-- the fields of the key record r at an offset; its name lies in the data of that cell
unfoldable pub key_in : List ℕ → Offset → Key
key_in r o =
    record {
      parent = offset_at r 16;
      subkeys = u32_at r 20;
      list = offset_at r 28;
      values = u32_at r 36;
      value_list = offset_at r 40;
      name = record { cell = o; at = 76; len = u16_at r 72; narrow = key_narrow r };
    }

-- the fields of the key at an offset
unfoldable pub key_of : List ℕ → Offset → Key
key_of d o = key_in (data_at d o) o

-- "Every key's security offset (44) must name one": what the key at an offset has there
unfoldable pub security_of : List ℕ → Offset → Offset
security_of d o = offset_at (data_at d o) 44

-- the answer: the flaw, or the key
abbrev pub keyed : Verdict → Key → Result Key Flaw
keyed (Ok tt) k = Ok k
keyed (Err f) k = Err f

-- the answer that holds its name alone
abbrev pub called : Verdict → Name → Result Name Flaw
called (Ok tt) n = Ok n
called (Err f) n = Err f

-- a name lies in its cell's data: its bytes there, and their codes
abbrev pub NameIn : List ℕ → Name → Type 0
NameIn d n = PartIn d n.cell n.at n.len

abbrev pub name_bytes : List ℕ → Name → List ℕ
name_bytes d n = part_in d n.cell n.at n.len

unfoldable pub codes_of : List ℕ → Name → List ℕ
codes_of d n = codes n.narrow (name_bytes d n)
