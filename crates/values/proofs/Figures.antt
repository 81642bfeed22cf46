-- Both sides of the bounds on a value's data, by computation. The figures that the paper has run are in crates/hive_runs.
use Prim.Native.Nat.{ℕ}
use mathlib.Core.Path.{◌≡◌, refl}
use mathlib.Core.Bool.{true, false}
use mathlib.Core.List.{List, [], ◌∷◌, ◌++◌}
use lib.ListN.{replicate}
use Rattle.fields.specs.declared.Offset.{Offset}
use Rattle.fields.specs.Number.{u16_at, u32_at, size_at}
use Rattle.fields.specs.Bytes.{same_bytes, stands_at}
use Rattle.fields.specs.Faults.{◌next◌}
use Rattle.cells.specs.Rule.{Header}
use Rattle.cells.specs.Tiling.{good_size}
use Rattle.cells.specs.Named.{is_named, by_header, cell_of, cell_fault, data_of, data_at}
use Rattle.names.specs.Codes.{characters_in}
use Rattle.values.specs.Records.{is_value_name, is_data_size, is_old_value, is_value, value_fault, is_segmented, content_of, data_in}
use Rattle.values.specs.Segments.{segments_for, segment_length, segments_from, bytes_of}
use Rattle.values.proofs.LawsSegments.{lengths_of}
use Rattle.std.specs.Prelude.{Ok}

-- "65 segments for 1,048,576 bytes", and "count is size / 16,344 rounded up"
pub two-segments : segments_for 16345 ≡ 2
unfolding segments_for
two-segments = refl

pub most-segments : segments_for 1048576 ≡ 65
unfolding segments_for
most-segments = refl

pub lengths-whole : lengths_of (segments_from [] 0 1048576 65) ≡ 1048576
unfolding lengths_of segments_from segment_length
lengths-whole = refl

-- "data of 16,344 and 16,345 bytes under minor 3 and 4", and under 5
pub one-cell-old : is_segmented 3 16345 ≡ false
unfolding is_segmented
one-cell-old = refl

pub one-cell-full : is_segmented 4 16344 ≡ false
unfolding is_segmented
one-cell-full = refl

pub segmented-four : is_segmented 4 16345 ≡ true
unfolding is_segmented
segmented-four = refl

pub one-cell-full-five : is_segmented 5 16344 ≡ false
unfolding is_segmented
one-cell-full-five = refl

pub segmented-five : is_segmented 5 16345 ≡ true
unfolding is_segmented
segmented-five = refl

pub one-cell-full-old : is_segmented 3 16344 ≡ false
unfolding is_segmented
one-cell-full-old = refl

-- "Top bit of the size set: length at most 4 [..]. Otherwise at most 1,048,576"
pub inline-four : is_data_size 0x80000004 ≡ true
unfolding is_data_size
inline-four = refl

pub inline-five : is_data_size 0x80000005 ≡ false
unfolding is_data_size
inline-five = refl

pub largest : is_data_size 1048576 ≡ true
unfolding is_data_size
largest = refl

pub too_large : is_data_size 1048577 ≡ false
unfolding is_data_size
too_large = refl

-- a value named "a" in a cell of 32 bytes at offset 32, with two bytes of inline data
unfoldable pub inlined : List ℕ
inlined =
    replicate 32 0
    ++ (0xe0 ∷ 0xff ∷ 0xff ∷ 0xff ∷ 118 ∷ 107 ∷ 1 ∷ 0 ∷ 2 ∷ 0 ∷ 0 ∷ 0x80 ∷ 7 ∷ 8 ∷ 0 ∷ 0 ∷ 1 ∷ 0 ∷ 0 ∷ 0 ∷ 1 ∷ 0 ∷ 0 ∷ 0 ∷ 97 ∷ replicate 7 0)

abbrev pub at32 : Offset
at32 = record { 0 = 32 }

pub inlined-sound : value_fault Header inlined [] at32 ≡ Ok tt
unfolding inlined value_fault cell_fault cell_of by_header is_named good_size data_at data_of is_old_value is_value is_value_name characters_in is_data_size stands_at same_bytes ◌next◌ size_at u32_at u16_at
inlined-sound = refl

pub inlined-bytes : bytes_of inlined (data_in inlined 5 at32) ≡ 7 ∷ 8 ∷ []
unfolding inlined data_in content_of data_at data_of bytes_of size_at u32_at u16_at
inlined-bytes = refl
