-- Where the cells of a forest stand: from the place of a key's cells, those of its record, its values, its value list, the keys below it, its leaf and the
-- keys beside it; from the place of a value's cells, those of its record and its data.
use Prim.Native.Nat.{ℕ, suc, ◌+◌, ◌*◌, ◌≤◌, ◌<◌}
use native.Mathlib.Omega.{arith}
use mathlib.Core.Path.{refl, sym, ap, ◌∙◌}
use mathlib.Core.List.{List, [], ◌∷◌, ◌++◌}
use lib.ListN.{length, take, drop}
use borrow.Author.Tests.{le-leb, lt-leb}
use Rattle.fields.specs.Number.{le16, le32}
use Rattle.values.specs.Records.{segment_size}
use Rattle.values.specs.Segments.{segments_for}
use Rattle.forest.specs.Forest.{Item, Forest, more, count_of}
use Rattle.layout.specs.Layout.{cell_size, stored, parts_n, parts_of, offsets_of, segmented_cells, data_cells, value_size, value_record, value_cells, values_cells, value_offsets, list_cells, values_at, list_at, below_at, leaf_at, beside_at, key_record, elements, leaf_cells, cells_of}
use Rattle.layout.proofs.Sizes.{parts-count, offsets-length, value-length, value-size, values-size, list-size, key-length, leaf-size, cells-size, db-length}
use Rattle.layout.proofs.Splits.{Split, Part, part_left, part_right, part-first, part-rest}

-- of a key's cells: those from its leaf on, from the keys below it on, from its value list on
abbrev leaf_on : List ℕ → List Item → Forest → Forest → ℕ → ℕ → ℕ → List (List ℕ)
leaf_on x vs b r at parent S = leaf_cells b (below_at x vs at) ++ cells_of r (beside_at x vs b at) parent S

abbrev below_on : List ℕ → List Item → Forest → Forest → ℕ → ℕ → ℕ → List (List ℕ)
below_on x vs b r at parent S = cells_of b (below_at x vs at) at S ++ leaf_on x vs b r at parent S

abbrev list_on : List ℕ → List Item → Forest → Forest → ℕ → ℕ → ℕ → List (List ℕ)
list_on x vs b r at parent S = list_cells vs (values_at x at) ++ below_on x vs b r at parent S

-- where the data of the value at an offset start, and where the segments of those do
abbrev pub data_place : Item → ℕ → ℕ
data_place v at = at + cell_size (20 + length (stored v.name))

abbrev pub segments_at : List ℕ → ℕ → ℕ
segments_at x at = at + cell_size 8 + cell_size (4 * segments_for (length x))

module _ {cs : List (List ℕ)} {from : ℕ} where
  -- the cells of a key and of those beside it
  module _ (s : ℕ) (x : List ℕ) (vs : List Item) (b r : Forest) (at parent S : ℕ) (c : Part cs from (cells_of (more s x vs b r) at parent S) at) where
    pub key-at : Split cs from at (key_record s x vs b at parent S)
    unfolding cells_of
    key-at = part-first (key_record s x vs b at parent S) (values_cells vs (values_at x at) ++ (list_on x vs b r at parent S)) c

    from-values : Part cs from (values_cells vs (values_at x at) ++ (list_on x vs b r at parent S)) (values_at x at)
    unfolding cells_of
    from-values =
        part-rest (key_record s x vs b at parent S) (values_cells vs (values_at x at) ++ (list_on x vs b r at parent S))
        (ap (λ (n : ℕ). at + cell_size n) (sym (key-length s x vs b at parent S))) c

    pub values-part : Part cs from (values_cells vs (values_at x at)) (values_at x at)
    values-part = part_left (values_cells vs (values_at x at)) (list_on x vs b r at parent S) from-values

    from_list : Part cs from (list_on x vs b r at parent S) (list_at x vs at)
    from_list =
        part_right (values_cells vs (values_at x at)) (list_on x vs b r at parent S)
        (ap (λ (n : ℕ). values_at x at + n) (sym (values-size vs (values_at x at)))) from-values

    pub list-part : Part cs from (list_cells vs (values_at x at)) (list_at x vs at)
    list-part = part_left (list_cells vs (values_at x at)) (below_on x vs b r at parent S) from_list

    from-below : Part cs from (below_on x vs b r at parent S) (below_at x vs at)
    from-below =
        part_right (list_cells vs (values_at x at)) (below_on x vs b r at parent S)
        (ap (λ (n : ℕ). list_at x vs at + n) (sym (list-size vs (values_at x at)))) from_list

    pub below-part : Part cs from (cells_of b (below_at x vs at) at S) (below_at x vs at)
    below-part = part_left (cells_of b (below_at x vs at) at S) (leaf_on x vs b r at parent S) from-below

    from-leaf : Part cs from (leaf_on x vs b r at parent S) (leaf_at x vs b at)
    from-leaf =
        part_right (cells_of b (below_at x vs at) at S) (leaf_on x vs b r at parent S)
        (ap (λ (n : ℕ). below_at x vs at + n) (sym (cells-size b (below_at x vs at) at S))) from-below

    pub leaf-part : Part cs from (leaf_cells b (below_at x vs at)) (leaf_at x vs b at)
    leaf-part = part_left (leaf_cells b (below_at x vs at)) (cells_of r (beside_at x vs b at) parent S) from-leaf

    pub beside-part : Part cs from (cells_of r (beside_at x vs b at) parent S) (beside_at x vs b at)
    beside-part =
        part_right (leaf_cells b (below_at x vs at)) (cells_of r (beside_at x vs b at) parent S)
        (ap (λ (n : ℕ). leaf_at x vs b at + n) (sym (leaf-size b (below_at x vs at)))) from-leaf

  -- a value list and a leaf are one cell, where there are any
  pub list_at_lem : (v : Item) (vs : List Item) (at : ℕ) {o : ℕ} → Part cs from (list_cells (v ∷ vs) at) o → Split cs from o (value_offsets (v ∷ vs) at)
  unfolding list_cells
  list_at_lem v vs at c = part-first (value_offsets (v ∷ vs) at) [] c

  pub leaf-at : (s : ℕ) (x : List ℕ) (vs : List Item) (b r : Forest) (at : ℕ) {o : ℕ} → Part cs from (leaf_cells (more s x vs b r) at) o
      → Split cs from o (108 ∷ 104 ∷ (le16 (count_of (more s x vs b r)) ++ elements (more s x vs b r) at))
  unfolding leaf_cells
  leaf-at s x vs b r at c = part-first (108 ∷ 104 ∷ (le16 (count_of (more s x vs b r)) ++ elements (more s x vs b r) at)) [] c

  -- the cells of some values, and of one
  module _ (v : Item) (vs : List Item) {at : ℕ} (c : Part cs from (values_cells (v ∷ vs) at) at) where
    pub value-part : Part cs from (value_cells v at) at
    unfolding values_cells
    value-part = part_left (value_cells v at) (values_cells vs (at + value_size v)) c

    pub values-rest : Part cs from (values_cells vs (at + value_size v)) (at + value_size v)
    unfolding values_cells
    values-rest =
        part_right (value_cells v at) (values_cells vs (at + value_size v)) (ap (λ (n : ℕ). at + n) (sym (value-size v at))) c

  module _ (v : Item) {at : ℕ} (c : Part cs from (value_cells v at) at) where
    pub value-at : Split cs from at (value_record v at)
    unfolding value_cells
    value-at = part-first (value_record v at) (data_cells v.bytes (data_place v at)) c

    pub data-part : Part cs from (data_cells v.bytes (data_place v at)) (data_place v at)
    unfolding value_cells
    data-part =
        part-rest (value_record v at) (data_cells v.bytes (data_place v at)) (ap (λ (n : ℕ). at + cell_size n) (sym (value-length v at))) c

  -- data in one cell, and in segments
  module _ (x : List ℕ) {at : ℕ} (c : Part cs from (data_cells x at) at) where
    pub data-at : 4 < length x → length x ≤ segment_size → Split cs from at x
    unfolding data_cells
    data-at low high = part-first x [] (rw (lt-leb (length x) 4 low, le-leb (length x) segment_size high) at c)

    pub segmented-part : segment_size < length x → Part cs from (segmented_cells x at) at
    unfolding data_cells
    segmented-part high =
        let low : 4 < length x = omega arith in
        rw (lt-leb (length x) 4 low, lt-leb (length x) segment_size high) at c

  module _ (x : List ℕ) {at : ℕ} (c : Part cs from (segmented_cells x at) at) where
    pub db-at : Split cs from at (100 ∷ 98 ∷ (le16 (segments_for (length x)) ++ le32 (at + cell_size 8)))
    unfolding segmented_cells
    db-at = part-first _ _ c

    from-segment-list : Part cs from (offsets_of (parts_of x) (segments_at x at) ∷ parts_of x) (at + cell_size 8)
    unfolding segmented_cells
    from-segment-list =
        part-rest _ _ (ap (λ (n : ℕ). at + cell_size n) (sym (db-length (segments_for (length x)) (at + cell_size 8)))) c

    pub segment-list-at : Split cs from (at + cell_size 8) (offsets_of (parts_of x) (segments_at x at))
    segment-list-at = part-first _ _ from-segment-list

    pub segments-part : Part cs from (parts_of x) (segments_at x at)
    segments-part =
        part-rest _ _
        (ap (λ (n : ℕ). at + cell_size 8 + cell_size n)
        (sym (offsets-length (parts_of x) (segments_at x at) ∙ ap (λ (n : ℕ). 4 * n) (parts-count (segments_for (length x)) x)))) from-segment-list

  module _ (n : ℕ) (x : List ℕ) {at : ℕ} (c : Part cs from (parts_n (suc n) x) at) where
    pub segment-at : Split cs from at (take segment_size x)
    unfolding parts_n
    segment-at = part-first (take segment_size x) (parts_n n (drop segment_size x)) c

    pub segments-rest : Part cs from (parts_n n (drop segment_size x)) (at + cell_size (length (take segment_size x)))
    unfolding parts_n
    segments-rest = part-rest (take segment_size x) (parts_n n (drop segment_size x)) refl c
