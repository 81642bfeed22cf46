-- What the cells of a forest name when they are read: the offsets of values, of subkeys and of segments.
use Rattle.std.specs.Prelude.{ℕ, ◌+◌, ◌*◌, true, false, cond, List, [], ◌∷◌, ◌++◌, leb, length}
use Rattle.fields.specs.declared.Offset.{Offset}
use Rattle.fields.specs.Number.{le16, le32}
use Rattle.names.specs.Hashing.{hash_of}
use Rattle.records.specs.declared.Child.{Child}
use Rattle.values.specs.declared.Segment.{Segment}
use Rattle.values.specs.declared.ValueData.{ValueData}
use Rattle.values.specs.declared.ValueData.TheVariants.{Inline, OneCell, Segments}
use Rattle.values.specs.Records.{segment_size}
use Rattle.values.specs.Segments.{segments_for}
use Rattle.forest.specs.Forest.{Item, Forest, none, more, count_of}
use Rattle.layout.specs.Layout.{cell_size, value_size, stored, beside_at, elements}

-- the values of a key, by the offsets of their records
unfoldable pub items_at : List Item → ℕ → List Offset
items_at [] at = []
items_at (v ∷ vs) at = record { 0 = at } ∷ items_at vs (at + value_size v)

-- `lh` leaf: "lh", the count, and for each subkey its offset and the hash of its name; the data of its cell
abbrev pub leaf_record : Forest → ℕ → List ℕ
leaf_record f at = 108 ∷ 104 ∷ (le16 (count_of f) ++ elements f at)

-- the subkeys of a key, as its leaf lists them: for each its offset and the hash of its name
unfoldable pub children_at : Forest → ℕ → List Child
children_at none at = []
children_at (more s x vs b r) at =
    record { at = record { 0 = at }; hashed = true; hinted = false; beside = hash_of x } ∷ children_at r (beside_at x vs b at)

-- where the cell behind a value's record starts, which is the first of its data
abbrev pub next_at : Item → ℕ → ℕ
next_at v at = at + cell_size (20 + length (stored v.name))

-- data of up to 4 bytes, none too, are in the record itself; those of 5 to 16,344 bytes are one cell, and longer ones a `db` cell, the segment list and the
-- segments, from the next cell on
unfoldable pub content_at : List ℕ → ℕ → Offset → ValueData
content_at x next o =
    cond (leb (length x) 4)
    (Inline o (length x))
    (cond (leb (length x) segment_size) (OneCell (record { 0 = next }) (length x)) (Segments (record { 0 = next }) (length x)))

-- of data in segments whose cells start at an offset: where the segment list is, and where the first segment
abbrev pub segments_at : ℕ → ℕ
segments_at at = at + cell_size 8

abbrev pub first_at : List ℕ → ℕ → ℕ
first_at x at = segments_at at + cell_size (4 * segments_for (length x))

-- a `db` cell ("db", the number of segments, the offset of the next cell: 8 bytes), its data
abbrev pub db_record : List ℕ → ℕ → List ℕ
db_record x at = 100 ∷ 98 ∷ (le16 (segments_for (length x)) ++ le32 (segments_at at))

-- the segments of a value's data, cells in a row: the offset and the length of each
unfoldable pub parts_at : List (List ℕ) → ℕ → List Segment
parts_at [] at = []
parts_at (x ∷ xs) at = record { at = record { 0 = at }; len = length x } ∷ parts_at xs (at + cell_size (length x))

-- the bytes of some parts, one after the other, and how long each is
unfoldable pub joined : List (List ℕ) → List ℕ
joined [] = []
joined (x ∷ xs) = x ++ joined xs

unfoldable pub lengths : List (List ℕ) → List ℕ
lengths [] = []
lengths (x ∷ xs) = length x ∷ lengths xs
