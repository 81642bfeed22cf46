-- Figures, by computation: a key named by one byte, and lists of lists.
use Prim.Native.Nat.{ℕ}
use mathlib.Core.Path.{◌≡◌, refl}
use mathlib.Core.Bool.{true, false}
use mathlib.Core.List.{List, [], ◌∷◌, ◌++◌}
use lib.ListN.{replicate}
use Rattle.fields.specs.declared.Fault.TheVariants.{NoCell, Record}
use Rattle.fields.specs.declared.Offset.{Offset}
use Rattle.fields.specs.Number.{u16_at, u32_at, size_at}
use Rattle.fields.specs.Bytes.{same_bytes, stands_at}
use Rattle.fields.specs.Faults.{flaw, ◌next◌, fault_over}
use Rattle.cells.specs.Rule.{Header}
use Rattle.cells.specs.Tiling.{good_size}
use Rattle.cells.specs.Named.{is_named, by_header, cell_of, cell_fault, data_of, data_at}
use Rattle.names.specs.Codes.{codes, characters_in, has_code}
use Rattle.records.specs.Offsets.{offsets_at}
use Rattle.records.specs.Keys.{is_key_name, is_key, key_fault, key_in, key_of, codes_of}
use Rattle.records.specs.Lists.{has_elements, width_of, has_leaf_signature, is_leaf, child_at, children_from, leaf_children, leaves_of, children_in, leaf_fault, is_list, head_fault, list_fault}
use Rattle.std.specs.Prelude.{Err, Ok}

-- a key record with one byte of name; bit 0x0020 of the flags says how it is stored
abbrev key_record : ℕ → ℕ → List ℕ
key_record flags letter = 110 ∷ 107 ∷ flags ∷ 0 ∷ replicate 68 0 ++ (1 ∷ 0 ∷ 0 ∷ 0 ∷ letter ∷ [])

one-byte-name : is_key (key_record 32 65) ≡ true
unfolding is_key is_key_name stands_at same_bytes u16_at codes characters_in has_code
one-byte-name = refl

backslash-name : is_key (key_record 32 92) ≡ false
unfolding is_key is_key_name stands_at same_bytes u16_at codes characters_in has_code
backslash-name = refl

half-a-unit : is_key (key_record 0 65) ≡ false
unfolding is_key is_key_name stands_at same_bytes u16_at codes characters_in has_code
half-a-unit = refl

-- the same key in a cell of 88 bytes, the first of its bin
abbrev one_key : List ℕ
one_key = replicate 32 0 ++ (168 ∷ 255 ∷ 255 ∷ 255 ∷ []) ++ key_record 32 65 ++ replicate 7 0

abbrev at32 : Offset
at32 = record { 0 = 32 }

abbrev at48 : Offset
at48 = record { 0 = 48 }

key-found : key_fault Header one_key [] at32 ≡ Ok tt
unfolding key_fault cell_fault cell_of by_header is_named good_size size_at data_at data_of is_key is_key_name stands_at same_bytes u32_at u16_at codes characters_in has_code ◌next◌
key-found = refl

key-called : codes_of one_key (key_of one_key at32).name ≡ 65 ∷ []
unfolding codes_of key_of key_in data_at data_of size_at u32_at u16_at codes
key-called = refl

no-key-there : key_fault Header one_key [] at48 ≡ Err (flaw NoCell at48)
unfolding key_fault cell_fault cell_of by_header is_named good_size size_at data_at data_of is_key is_key_name stands_at same_bytes u32_at u16_at codes characters_in has_code ◌next◌
no-key-there = refl

-- an `ri` of one element in a cell of 16 bytes, and what stands in the next cell
abbrev index_over : List ℕ → List ℕ
index_over inner = replicate 32 0 ++ (240 ∷ 255 ∷ 255 ∷ 255 ∷ 114 ∷ 105 ∷ 1 ∷ 0 ∷ 48 ∷ 0 ∷ 0 ∷ 0 ∷ 0 ∷ 0 ∷ 0 ∷ 0 ∷ []) ++ inner

-- another `ri`
abbrev index_in_index : List ℕ
index_in_index = index_over (240 ∷ 255 ∷ 255 ∷ 255 ∷ 114 ∷ 105 ∷ 1 ∷ 0 ∷ 48 ∷ 0 ∷ 0 ∷ 0 ∷ 0 ∷ 0 ∷ 0 ∷ 0 ∷ [])

-- an `lh` of two elements, in a cell of 24 bytes
abbrev index_of_leaf : List ℕ
index_of_leaf =
    index_over
    (232 ∷ 255 ∷ 255 ∷ 255 ∷ 108 ∷ 104 ∷ 2 ∷ 0 ∷ 80 ∷ 0 ∷ 0 ∷ 0 ∷ 65 ∷ 0 ∷ 0 ∷ 0 ∷ 88 ∷ 0 ∷ 0 ∷ 0 ∷ 66 ∷ 0 ∷ 0 ∷ 0 ∷ [])

-- "`ri`: offsets of `li`, `lf` or `lh` lists, never of `ri`": 12 at the inner list
index-in-index : list_fault Header index_in_index [] at32 ≡ Err (flaw Record at48)
unfolding list_fault head_fault leaf_fault fault_over cell_fault cell_of by_header is_named good_size size_at data_at data_of is_list is_leaf has_leaf_signature has_elements width_of leaves_of offsets_at stands_at same_bytes u32_at u16_at ◌next◌
index-in-index = refl

index-of-leaf : list_fault Header index_of_leaf [] at32 ≡ Ok tt
unfolding list_fault head_fault leaf_fault fault_over cell_fault cell_of by_header is_named good_size size_at data_at data_of is_list is_leaf has_leaf_signature has_elements width_of leaves_of offsets_at stands_at same_bytes u32_at u16_at ◌next◌
index-of-leaf = refl

two-children : children_in index_of_leaf (leaves_of index_of_leaf at32)
    ≡ record { at = record { 0 = 80 }; hashed = true; hinted = false; beside = 65 } ∷ record { at = record { 0 = 88 }; hashed = true; hinted = false; beside = 66 } ∷ []
unfolding children_in leaf_children children_from child_at leaves_of offsets_at width_of data_at data_of size_at stands_at same_bytes u32_at u16_at
two-children = refl
