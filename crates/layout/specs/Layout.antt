-- The layout of a hive that is made from frames (docs/LAYOUT.md): "one bin, cells in stream order and each of the least size that fits, `lh` leaves, segments
-- above 16,344 bytes, one free cell at the end if there is room, equal sequence numbers". The rest
-- is said above each definition in the words of that page. All numbers are little-endian, and every byte that is not named is 0. S is the offset of the
-- security item.
use Rattle.std.specs.Prelude.{ℕ, zero, suc, ◌+◌, ◌-◌, ◌*◌, ◌/◌, Bool, true, false, cond, ◌&&◌, List, [], ◌∷◌, ◌++◌, eqb, leb, ltb, length, take, drop}
use Rattle.fields.specs.Number.{le16, le32, le64}
use Rattle.base.specs.Block.{stored_checksum}
use Rattle.names.specs.Hashing.{hash_of}
use Rattle.values.specs.Records.{segment_size, top_bit}
use Rattle.values.specs.Segments.{segments_for}
use Rattle.stream.specs.Stream.{wide}
use Rattle.forest.specs.Forest.{Item, Forest, none, more, count_of, key_count}

-- ---- cells

-- the size of a cell that holds so many bytes: 4 more, for its size field stands before them, rounded up to a multiple of 8
unfoldable pub cell_size : ℕ → ℕ
cell_size n = (n + 11) / 8 * 8

unfoldable pub zeros : ℕ → List ℕ
zeros zero = []
zeros (suc n) = 0 ∷ zeros n

-- a cell in use with these data, and zeros to its end: its size is stored as a negative number
abbrev pub pad_of : List ℕ → List ℕ
pad_of x = zeros (cell_size (length x) - (4 + length x))

unfoldable pub cell_bytes : List ℕ → List ℕ
cell_bytes x = le32 (4294967296 - cell_size (length x)) ++ (x ++ pad_of x)

-- cells in a row, by the data of each: their bytes and their size
unfoldable pub row_bytes : List (List ℕ) → List ℕ
row_bytes [] = []
row_bytes (x ∷ xs) = cell_bytes x ++ row_bytes xs

unfoldable pub row_size : List (List ℕ) → ℕ
row_size [] = 0
row_size (x ∷ xs) = cell_size (length x) + row_size xs

-- where a list is named that is not there
abbrev pub nothing : ℕ
nothing = 4294967295

-- ---- names: stored one byte per character exactly when every code is below 256, the empty name too; else in UTF-16LE

unfoldable pub is_narrow : List ℕ → Bool
is_narrow [] = true
is_narrow (c ∷ cs) = ltb c 256 && is_narrow cs

unfoldable pub stored : List ℕ → List ℕ
stored x = cond (is_narrow x) x (wide x)

-- ---- values

-- the segments of longer data, in order: 16,344 bytes each, and the rest in the last; n of them
unfoldable pub parts_n : ℕ → List ℕ → List (List ℕ)
parts_n zero x = []
parts_n (suc n) x = take segment_size x ∷ parts_n n (drop segment_size x)

abbrev pub parts_of : List ℕ → List (List ℕ)
parts_of x = parts_n (segments_for (length x)) x

-- the offsets of cells in a row, from an offset on, as a list of offsets has them
unfoldable pub offsets_of : List (List ℕ) → ℕ → List ℕ
offsets_of [] at = []
offsets_of (x ∷ xs) at = le32 at ++ offsets_of xs (at + cell_size (length x))

-- a `db` cell ("db", the number of segments, the offset of the next cell: 8 bytes, so a cell of 16), the segment list (4 bytes for each), and the segments
unfoldable pub segmented_cells : List ℕ → ℕ → List (List ℕ)
segmented_cells x at =
    let list = at + cell_size 8 in
    let first = list + cell_size (4 * segments_for (length x)) in
    (100 ∷ 98 ∷ (le16 (segments_for (length x)) ++ le32 list)) ∷ (offsets_of (parts_of x) first ∷ parts_of x)

-- Data of 5 to 16,344 bytes are one cell.
unfoldable pub data_cells : List ℕ → ℕ → List (List ℕ)
data_cells x at = cond (leb (length x) 4) [] (cond (leb (length x) segment_size) (x ∷ []) (segmented_cells x at))

unfoldable pub data_size : ℕ → ℕ
data_size n =
    let count = segments_for n in
    let segments = (count - 1) * cell_size segment_size + cell_size (n - (count - 1) * segment_size) in
    cond (leb n 4) 0 (cond (leb n segment_size) (cell_size n) (cell_size 8 + (cell_size (4 * count) + segments)))

-- data of up to 4 bytes, none too: 0x80000000 + their length, and the bytes themselves, then zeros. Longer data: their length, and the offset of the next
-- cell
unfoldable pub data_field : List ℕ → ℕ → List ℕ
data_field x next = cond (leb (length x) 4) (le32 (top_bit + length x) ++ (x ++ zeros (4 - length x))) (le32 (length x) ++ le32 next)

unfoldable pub flag_of : Bool → ℕ → ℕ
flag_of true n = n
flag_of false n = 0

-- `vk`: the length of the name in bytes as stored at 2, data at 4 and 8, the type at 12, 1 if the name is stored one byte per character at 16, the name at 20
unfoldable pub value_size : Item → ℕ
value_size v = cell_size (20 + length (stored v.name)) + data_size (length v.bytes)

unfoldable pub value_record : Item → ℕ → List ℕ
value_record v at =
    let next = at + cell_size (20 + length (stored v.name)) in
    118 ∷ 107 ∷ (le16 (length (stored v.name)) ++ (data_field v.bytes next ++ (le32 v.kind ++ (le16 (flag_of (is_narrow v.name) 1)
    ++ (le16 0 ++ stored v.name)))))

-- for each value, in order: its `vk` cell, then the cells of its data
unfoldable pub value_cells : Item → ℕ → List (List ℕ)
value_cells v at = value_record v at ∷ data_cells v.bytes (at + cell_size (20 + length (stored v.name)))

unfoldable pub values_cells : List Item → ℕ → List (List ℕ)
values_cells [] at = []
values_cells (v ∷ vs) at = value_cells v at ++ values_cells vs (at + value_size v)

unfoldable pub values_size : List Item → ℕ
values_size [] = 0
values_size (v ∷ vs) = value_size v + values_size vs

-- value list: the offsets of the `vk` cells, where there are values
unfoldable pub value_offsets : List Item → ℕ → List ℕ
value_offsets [] at = []
value_offsets (v ∷ vs) at = le32 at ++ value_offsets vs (at + value_size v)

unfoldable pub list_cells : List Item → ℕ → List (List ℕ)
list_cells [] at = []
list_cells (v ∷ vs) at = value_offsets (v ∷ vs) at ∷ []

unfoldable pub list_size : ℕ → ℕ
list_size zero = 0
list_size (suc n) = cell_size (4 * suc n)

-- the longest name of a value in bytes of UTF-16LE, or 0; the longest data of a value in bytes
unfoldable pub larger : ℕ → ℕ → ℕ
larger a b = cond (leb a b) b a

unfoldable pub longest_name : List Item → ℕ
longest_name [] = 0
longest_name (v ∷ vs) = larger (2 * length v.name) (longest_name vs)

unfoldable pub longest_data : List Item → ℕ
longest_data [] = 0
longest_data (v ∷ vs) = larger (length v.bytes) (longest_data vs)

-- ---- keys

unfoldable pub leaf_size : ℕ → ℕ
leaf_size zero = 0
leaf_size (suc n) = cell_size (4 + 8 * suc n)

-- of a key: its cell, the sizes of its values, its value list, the sizes of its subkeys, its leaf
unfoldable pub size_of : Forest → ℕ
size_of none = 0
size_of (more s x vs b r) =
    cell_size (76 + length (stored x)) + (values_size vs + (list_size (length vs) + (size_of b + (leaf_size (count_of b) + size_of r))))

-- of the key at an offset: where its values start, its value list, its subkeys, its leaf, and where the next key beside it does
abbrev pub values_at : List ℕ → ℕ → ℕ
values_at x at = at + cell_size (76 + length (stored x))

abbrev pub list_at : List ℕ → List Item → ℕ → ℕ
list_at x vs at = values_at x at + values_size vs

abbrev pub below_at : List ℕ → List Item → ℕ → ℕ
below_at x vs at = list_at x vs at + list_size (length vs)

abbrev pub leaf_at : List ℕ → List Item → Forest → ℕ → ℕ
leaf_at x vs b at = below_at x vs at + size_of b

abbrev pub beside_at : List ℕ → List Item → Forest → ℕ → ℕ
beside_at x vs b at = leaf_at x vs b at + leaf_size (count_of b)

-- the longest name of a subkey in bytes of UTF-16LE, or 0
unfoldable pub longest_key : Forest → ℕ
longest_key none = 0
longest_key (more s x vs b r) = larger (2 * length x) (longest_key r)

-- an offset, or 0xFFFFFFFF where there is none
unfoldable pub if_any : ℕ → ℕ → ℕ
if_any zero at = nothing
if_any (suc n) at = at

-- flags: 0x0020 if the name is stored one byte per character; of the root also 0x000C
unfoldable pub key_flags : List ℕ → ℕ → ℕ
key_flags x parent = flag_of (is_narrow x) 32 + flag_of (eqb parent nothing) 12

-- `nk`: flags at 2; the frame's stamp at 4, 0 at 12; the parent's offset, of the root 0xFFFFFFFF, at 16; the number of subkeys, 0, the offset of the leaf and
-- 0xFFFFFFFF at 20 to 32; the number of values, the offset of the value list, S and 0xFFFFFFFF (no class) at 36 to 48; the longest at 52, 60 and 64; the
-- length of the name in bytes as stored at 72; the name at 76
unfoldable pub key_fixed : ℕ → ℕ → ℕ → ℕ → ℕ → ℕ → ℕ → ℕ → ℕ → ℕ → ℕ → ℕ → List ℕ
key_fixed flags stamp parent subkeys leaf values list S keys names longest len =
    110 ∷ 107 ∷ (le16 flags ++ (le64 stamp ++ (le32 0 ++ (le32 parent ++ (le32 subkeys ++ (le32 0 ++ (le32 leaf ++ (le32 nothing
    ++ (le32 values ++ (le32 list ++ (le32 S ++ (le32 nothing ++ (le32 keys ++ (le32 0 ++ (le32 names ++ (le32 longest ++ (le32 0
    ++ (le16 len ++ le16 0))))))))))))))))))

unfoldable pub key_record : ℕ → List ℕ → List Item → Forest → ℕ → ℕ → ℕ → List ℕ
key_record s x vs b at parent S =
    key_fixed (key_flags x parent) s parent (count_of b) (if_any (count_of b) (leaf_at x vs b at)) (length vs) (if_any (length vs) (list_at x vs at)) S
    (longest_key b) (longest_name vs) (longest_data vs) (length (stored x))
    ++ stored x

-- `lh` leaf: "lh", the count, and for each subkey its offset and the hash of its name, where there are subkeys
unfoldable pub elements : Forest → ℕ → List ℕ
elements none at = []
elements (more s x vs b r) at = le32 at ++ (le32 (hash_of x) ++ elements r (beside_at x vs b at))

unfoldable pub leaf_cells : Forest → ℕ → List (List ℕ)
leaf_cells none at = []
leaf_cells (more s x vs b r) at = (108 ∷ 104 ∷ (le16 (count_of (more s x vs b r)) ++ elements (more s x vs b r) at)) ∷ []

-- The cells of a key, from an offset on: its `nk` cell; for each value its `vk` cell, then the cells of its data; its value list; for each subkey, in order,
-- all cells of that subkey, by this same rule; its `lh` leaf. Then those of the keys beside it.
unfoldable pub cells_of : Forest → ℕ → ℕ → ℕ → List (List ℕ)
cells_of none at parent S = []
cells_of (more s x vs b r) at parent S =
    key_record s x vs b at parent S
    ∷ (values_cells vs (values_at x at) ++ (list_cells vs (values_at x at) ++ (cells_of b (below_at x vs at) at S ++ (leaf_cells b (below_at x vs at)
    ++ cells_of r (beside_at x vs b at) parent S))))

-- ---- the file: base block (4096) · bin header (32) · cells of the root key and all below it · security item · free cell, if any

-- the offset of the security item: behind the bin header and all cells of the keys
abbrev pub item_at : Forest → ℕ
item_at f = 32 + size_of f

-- The bins size is that and the cell of the item, whose descriptor has n bytes, rounded up to a multiple of 4096.
abbrev pub used_of : Forest → ℕ → ℕ
used_of f n = item_at f + cell_size (20 + n)

unfoldable pub bins_for : Forest → ℕ → ℕ
bins_for f n = (used_of f n + 4095) / 4096 * 4096

-- "sk"; 0 at 2; S at 4 and at 8, for it is linked to itself; the number of keys at 12; the descriptor's length at 16; the descriptor at 20
unfoldable pub item_record : Forest → List ℕ → List ℕ
item_record f sd =
    115 ∷ 107 ∷ (le16 0 ++ (le32 (item_at f) ++ (le32 (item_at f) ++ (le32 (key_count f) ++ (le32 (length sd) ++ sd)))))

-- What is left of the bin is nothing, and then there is no free cell, or one free cell, its size field positive and its other bytes 0.
unfoldable pub free_bytes : ℕ → List ℕ
free_bytes zero = []
free_bytes (suc n) = le32 (suc n) ++ zeros (suc n - 4)

-- The root's stamp is the only time that the stream holds for the whole.
abbrev pub stamp_of : Forest → ℕ
stamp_of none = 0
stamp_of (more s x vs b r) = s

-- bin header: "hbin", 0 and the bins size at 0, 4 and 8, the root key's stamp at 20
unfoldable pub bin_header : Forest → ℕ → List ℕ
bin_header f n = 104 ∷ 98 ∷ 105 ∷ 110 ∷ (le32 0 ++ (le32 (bins_for f n) ++ (le64 0 ++ (le64 (stamp_of f) ++ le32 0))))

-- base block: "regf"; sequence numbers 1 and 1; the root key's stamp at 12; 1, 5, 0 and 1 at 20 to 32; 32, the root's offset, the bins size and 1 at 36 to 44;
-- the file name, 64 zero bytes; the checksum, with request 1's exceptions, at 508
unfoldable pub block_front : Forest → ℕ → List ℕ
block_front f n =
    114 ∷ 101 ∷ 103 ∷ 102 ∷ (le32 1 ++ (le32 1 ++ (le64 (stamp_of f) ++ (le32 1 ++ (le32 5 ++ (le32 0 ++ (le32 1 ++ (le32 32
    ++ (le32 (bins_for f n) ++ (le32 1 ++ zeros 460))))))))))

unfoldable pub base_block : Forest → ℕ → List ℕ
base_block f n = block_front f n ++ (le32 (stored_checksum (block_front f n)) ++ zeros 3584)

-- the bins data, and the whole
unfoldable pub bins_of : Forest → List ℕ → List ℕ
bins_of f sd =
    bin_header f (length sd)
    ++ (row_bytes (cells_of f 32 nothing (item_at f)) ++ (cell_bytes (item_record f sd) ++ free_bytes (bins_for f (length sd) - used_of f (length sd))))

unfoldable pub built_hive : Forest → List ℕ → List ℕ
built_hive f sd = base_block f (length sd) ++ bins_of f sd
