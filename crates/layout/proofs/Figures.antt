-- The example of docs/LAYOUT.md, two keys, one value, an empty descriptor, byte by byte: what the definitions make of them is what that page prints.
use Prim.Native.Nat.{ℕ, ◌-◌}
use mathlib.Core.Path.{◌≡◌, refl}
use mathlib.Core.List.{List, [], ◌∷◌}
use lib.ListN.{take}
use Rattle.fields.specs.Number.{u16_at, u32_at, le16, le32, le64}
use Rattle.base.specs.Block.{xors, as_stored, stored_checksum}
use Rattle.names.specs.Upper_case.{upper, uppers}
use Rattle.names.specs.Hashing.{mixed, mixed_all, hash_of}
use Rattle.stream.specs.Stream.{wide}
use Rattle.values.specs.Segments.{segments_for}
use Rattle.forest.specs.Forest.{Item, Forest, none, more, count_of, key_count}
use Rattle.layout.specs.Layout.{cell_size, zeros, cell_bytes, row_bytes, is_narrow, stored, data_cells, data_size, data_field, flag_of, value_size, value_record, value_cells, values_cells, values_size, value_offsets, list_cells, list_size, larger, longest_name, longest_data, leaf_size, size_of, longest_key, if_any, key_flags, key_fixed, key_record, elements, leaf_cells, cells_of, used_of, bins_for, item_record, free_bytes, bin_header, block_front, bins_of}

-- the value `item` of type 1, the text `datum` with its zero
abbrev item : Item
item = record { kind = 1; name = 105 ∷ 116 ∷ 101 ∷ 109 ∷ []; bytes = 100 ∷ 0 ∷ 97 ∷ 0 ∷ 116 ∷ 0 ∷ 117 ∷ 0 ∷ 109 ∷ 0 ∷ 0 ∷ 0 ∷ [] }

-- `parent`, which holds `child`, one second later, which holds it
abbrev two : Forest
two = more 0x019DB1DED53E8000 (112 ∷ 97 ∷ 114 ∷ 101 ∷ 110 ∷ 116 ∷ []) [] (more 0x019DB1DED5D71680 (99 ∷ 104 ∷ 105 ∷ 108 ∷ 100 ∷ []) (item ∷ []) none none) none

abbrev two_front : List ℕ
two_front =
    114 ∷ 101 ∷ 103 ∷ 102 ∷ 1 ∷ 0 ∷ 0 ∷ 0 ∷ 1 ∷ 0 ∷ 0 ∷ 0 ∷ 0 ∷ 128 ∷ 62 ∷ 213 ∷ 222 ∷ 177 ∷ 157 ∷ 1 ∷ 1 ∷ 0 ∷ 0 ∷ 0 ∷ 5 ∷ 0 ∷ 0 ∷ 0 ∷ 0 ∷ 0 ∷ 0 ∷
    0 ∷ 1 ∷ 0 ∷ 0 ∷ 0 ∷ 32 ∷ 0 ∷ 0 ∷ 0 ∷ 0 ∷ 16 ∷ 0 ∷ 0 ∷ 1 ∷ 0 ∷ 0 ∷ 0 ∷ []

abbrev two_bins : List ℕ
two_bins =
    104 ∷ 98 ∷ 105 ∷ 110 ∷ 0 ∷ 0 ∷ 0 ∷ 0 ∷ 0 ∷ 16 ∷ 0 ∷ 0 ∷ 0 ∷ 0 ∷ 0 ∷ 0 ∷ 0 ∷ 0 ∷ 0 ∷ 0 ∷ 0 ∷ 128 ∷ 62 ∷ 213 ∷ 222 ∷ 177 ∷ 157 ∷ 1 ∷ 0 ∷ 0 ∷ 0 ∷
    0 ∷ 168 ∷ 255 ∷ 255 ∷ 255 ∷ 110 ∷ 107 ∷ 44 ∷ 0 ∷ 0 ∷ 128 ∷ 62 ∷ 213 ∷ 222 ∷ 177 ∷ 157 ∷ 1 ∷ 0 ∷ 0 ∷ 0 ∷ 0 ∷ 255 ∷ 255 ∷ 255 ∷ 255 ∷ 1 ∷ 0 ∷ 0 ∷
    0 ∷ 0 ∷ 0 ∷ 0 ∷ 0 ∷ 8 ∷ 1 ∷ 0 ∷ 0 ∷ 255 ∷ 255 ∷ 255 ∷ 255 ∷ 0 ∷ 0 ∷ 0 ∷ 0 ∷ 255 ∷ 255 ∷ 255 ∷ 255 ∷ 24 ∷ 1 ∷ 0 ∷ 0 ∷ 255 ∷ 255 ∷ 255 ∷ 255 ∷ 10 ∷
    0 ∷ 0 ∷ 0 ∷ 0 ∷ 0 ∷ 0 ∷ 0 ∷ 0 ∷ 0 ∷ 0 ∷ 0 ∷ 0 ∷ 0 ∷ 0 ∷ 0 ∷ 0 ∷ 0 ∷ 0 ∷ 0 ∷ 6 ∷ 0 ∷ 0 ∷ 0 ∷ 112 ∷ 97 ∷ 114 ∷ 101 ∷ 110 ∷ 116 ∷ 0 ∷ 0 ∷ 168 ∷
    255 ∷ 255 ∷ 255 ∷ 110 ∷ 107 ∷ 32 ∷ 0 ∷ 128 ∷ 22 ∷ 215 ∷ 213 ∷ 222 ∷ 177 ∷ 157 ∷ 1 ∷ 0 ∷ 0 ∷ 0 ∷ 0 ∷ 32 ∷ 0 ∷ 0 ∷ 0 ∷ 0 ∷ 0 ∷ 0 ∷ 0 ∷ 0 ∷ 0 ∷ 0 ∷
    0 ∷ 255 ∷ 255 ∷ 255 ∷ 255 ∷ 255 ∷ 255 ∷ 255 ∷ 255 ∷ 1 ∷ 0 ∷ 0 ∷ 0 ∷ 0 ∷ 1 ∷ 0 ∷ 0 ∷ 24 ∷ 1 ∷ 0 ∷ 0 ∷ 255 ∷ 255 ∷ 255 ∷ 255 ∷ 0 ∷ 0 ∷ 0 ∷ 0 ∷ 0 ∷
    0 ∷ 0 ∷ 0 ∷ 8 ∷ 0 ∷ 0 ∷ 0 ∷ 12 ∷ 0 ∷ 0 ∷ 0 ∷ 0 ∷ 0 ∷ 0 ∷ 0 ∷ 5 ∷ 0 ∷ 0 ∷ 0 ∷ 99 ∷ 104 ∷ 105 ∷ 108 ∷ 100 ∷ 0 ∷ 0 ∷ 0 ∷ 224 ∷ 255 ∷ 255 ∷ 255 ∷
    118 ∷ 107 ∷ 4 ∷ 0 ∷ 12 ∷ 0 ∷ 0 ∷ 0 ∷ 240 ∷ 0 ∷ 0 ∷ 0 ∷ 1 ∷ 0 ∷ 0 ∷ 0 ∷ 1 ∷ 0 ∷ 0 ∷ 0 ∷ 105 ∷ 116 ∷ 101 ∷ 109 ∷ 0 ∷ 0 ∷ 0 ∷ 0 ∷ 240 ∷ 255 ∷ 255 ∷
    255 ∷ 100 ∷ 0 ∷ 97 ∷ 0 ∷ 116 ∷ 0 ∷ 117 ∷ 0 ∷ 109 ∷ 0 ∷ 0 ∷ 0 ∷ 248 ∷ 255 ∷ 255 ∷ 255 ∷ 208 ∷ 0 ∷ 0 ∷ 0 ∷ 240 ∷ 255 ∷ 255 ∷ 255 ∷ 108 ∷ 104 ∷ 1 ∷
    0 ∷ 120 ∷ 0 ∷ 0 ∷ 0 ∷ 220 ∷ 62 ∷ 181 ∷ 7 ∷ 232 ∷ 255 ∷ 255 ∷ 255 ∷ 115 ∷ 107 ∷ 0 ∷ 0 ∷ 24 ∷ 1 ∷ 0 ∷ 0 ∷ 24 ∷ 1 ∷ 0 ∷ 0 ∷ 2 ∷ 0 ∷ 0 ∷ 0 ∷ 0 ∷ 0 ∷
    0 ∷ 0 ∷ 208 ∷ 14 ∷ 0 ∷ 0 ∷ []

front_bytes : take 48 (block_front two 0) ≡ two_front
unfolding block_front bins_for size_of cell_size values_size value_size data_size list_size leaf_size count_of stored is_narrow segments_for zeros le64 le32 le16
front_bytes = refl

front-checksum : stored_checksum (block_front two 0) ≡ 0xb2c44488
unfolding stored_checksum as_stored xors u32_at u16_at block_front bins_for size_of cell_size values_size value_size data_size list_size leaf_size count_of stored is_narrow segments_for zeros le64 le32 le16
front-checksum = refl

bins-bytes : take 308 (bins_of two []) ≡ two_bins
unfolding bins_of bin_header row_bytes cell_bytes cells_of key_record key_fixed key_flags flag_of longest_key longest_name longest_data larger if_any leaf_cells elements list_cells value_offsets values_cells value_cells value_record data_cells data_field item_record key_count free_bytes hash_of mixed_all mixed uppers upper wide bins_for size_of cell_size values_size value_size data_size list_size leaf_size count_of stored is_narrow segments_for zeros le64 le32 le16
bins-bytes = refl

-- used 272, free 3792
used-and-free : (used_of two 0 - 32) ∷ (bins_for two 0 - used_of two 0) ∷ [] ≡ 272 ∷ 3792 ∷ []
unfolding bins_for size_of cell_size values_size value_size data_size list_size leaf_size count_of stored is_narrow segments_for
used-and-free = refl
