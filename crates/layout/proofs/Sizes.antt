-- How long the bytes are: a cell is a nonzero multiple of 8, a record as long as its table says, and the cells of a forest add up to its size.
use Prim.Native.Nat.{ℕ, zero, suc, ◌+◌, ◌-◌, ◌*◌, ◌%◌, ◌≤◌, ◌<◌}
use native.Mathlib.Omega.{arith}
use mathlib.Core.Path.{◌≡◌, refl, sym, ap, ap₂, ◌∙◌}
use mathlib.Core.Bool.{Bool, true, false, cond}
use mathlib.Core.List.{List, [], ◌∷◌, ◌++◌, append_assoc}
use lib.Dec.{leb}
use lib.ListN.{length, take, drop, length-append, length-drop}
use lib.Seq.{length-take-le, take_all}
use borrow.Author.Tests.{leb-true, leb-false}
use Rattle.fields.specs.Number.{le16, le32}
use Rattle.fields.proofs.Little.{length-le16, length-le32, length-le64}
use Rattle.values.specs.Records.{segment_size, top_bit}
use Rattle.values.specs.Segments.{segments_for}
use Rattle.forest.specs.Forest.{Item, Forest, none, more, count_of}
use Rattle.layout.specs.Layout.{cell_size, zeros, pad_of, cell_bytes, row_bytes, row_size, stored, parts_n, parts_of, offsets_of, segmented_cells, data_cells, data_size, data_field, value_size, value_record, value_cells, values_cells, values_size, value_offsets, list_cells, list_size, leaf_size, size_of, beside_at, key_fixed, key_record, elements, leaf_cells, cells_of, used_of, bins_for, item_record, free_bytes}

-- ---- cells in a row

pub cell_room : (n : ℕ) → 4 + n ≤ cell_size n
unfolding cell_size
cell_room n = omega arith

pub cell-eights : (n : ℕ) → cell_size n % 8 ≡ 0
unfolding cell_size
cell-eights n = omega arith

pub zeros-length : (n : ℕ) → length (zeros n) ≡ n
unfolding zeros
zeros-length zero = refl
zeros-length (suc n) = ap suc (zeros-length n)

-- the data and the zeros behind them fill what the size field leaves
pub cell-fills : (x : List ℕ) → 4 + length (x ++ pad_of x) ≡ cell_size (length x)
cell-fills x =
    let r = cell_room (length x) in
    let e = length-append x (pad_of x) in
    let z = zeros-length (cell_size (length x) - (4 + length x)) in
    omega arith

pub cell-length : (x : List ℕ) → length (cell_bytes x) ≡ cell_size (length x)
unfolding cell_bytes
cell-length x = rw (length-append, length-le32) (cell-fills x)

pub row-length : (xs : List (List ℕ)) → length (row_bytes xs) ≡ row_size xs
unfolding row_bytes row_size
row-length [] = refl
row-length (x ∷ xs) = length-append (cell_bytes x) (row_bytes xs) ∙ ap₂ ◌+◌ (cell-length x) (row-length xs)

pub row-eights : (xs : List (List ℕ)) → row_size xs % 8 ≡ 0
unfolding row_size
row-eights [] = refl
row-eights (x ∷ xs) = let a = cell-eights (length x) in let e = row-eights xs in omega arith

pub row-append : (xs ys : List (List ℕ)) → row_size (xs ++ ys) ≡ row_size xs + row_size ys
unfolding row_size
row-append [] ys = omega arith
row-append (x ∷ xs) ys = let e = row-append xs ys in omega arith

pub bytes-append : (xs ys : List (List ℕ)) → row_bytes (xs ++ ys) ≡ row_bytes xs ++ row_bytes ys
unfolding row_bytes
bytes-append [] ys = refl
bytes-append (x ∷ xs) ys =
    ap (λ (t : List ℕ). cell_bytes x ++ t) (bytes-append xs ys) ∙ sym (append_assoc (cell_bytes x) (row_bytes xs) (row_bytes ys))

-- ---- the data of a value

pub parts-count : (n : ℕ) (x : List ℕ) → length (parts_n n x) ≡ n
unfolding parts_n
parts-count zero x = refl
parts-count (suc n) x = ap suc (parts-count n (drop segment_size x))

pub offsets-length : (xs : List (List ℕ)) (at : ℕ) → length (offsets_of xs at) ≡ 4 * length xs
unfolding offsets_of
offsets-length [] at = refl
offsets-length (x ∷ xs) at =
    let next = at + cell_size (length x) in
    let a = length-append (le32 at) (offsets_of xs next) in
    let b = length-le32 at in
    let e = offsets-length xs next in
    omega arith

-- all segments but the last are full
pub parts-size : (k : ℕ) (x : List ℕ) → k * segment_size < length x → length x ≤ suc k * segment_size
    → row_size (parts_n (suc k) x) ≡ k * cell_size segment_size + cell_size (length x - k * segment_size)
unfolding parts_n row_size
parts-size zero x a b =
    let l : length (take segment_size x) ≡ length x - 0 * segment_size = ap length (take_all segment_size x (omega arith)) ∙ (omega arith) in
    let e = ap cell_size l in
    omega arith
parts-size (suc k) x a b =
    let m = length-drop segment_size x in
    let l = ap cell_size (length-take-le segment_size x (omega arith)) in
    let r = parts-size k (drop segment_size x) (omega arith) (omega arith) in
    let q : length (drop segment_size x) - k * segment_size ≡ length x - suc k * segment_size = omega arith in
    let e = ap cell_size q in
    omega arith

-- more than one segment, each but the last full
segments-many : (n : ℕ) → segment_size < n → (0 < segments_for n) × ((segments_for n - 1) * segment_size < n) × (n ≤ suc (segments_for n - 1) * segment_size)
unfolding segments_for
segments-many n h = (omega arith, omega arith, omega arith)

abbrev segments_size : ℕ → ℕ
segments_size n = (segments_for n - 1) * cell_size segment_size + cell_size (n - (segments_for n - 1) * segment_size)

pub segments-size : (x : List ℕ) → segment_size < length x → row_size (parts_of x) ≡ segments_size (length x)
segments-size x h =
    let m = segments-many (length x) h in
    let s : segments_for (length x) ≡ suc (segments_for (length x) - 1) = omega (arith, m.0) in
    ap (λ (c : ℕ). row_size (parts_n c x)) s ∙ parts-size (segments_for (length x) - 1) x m.1 m.2

pub db-length : (n at : ℕ) → length (100 ∷ 98 ∷ (le16 n ++ le32 at)) ≡ 8
db-length n at = simp (length-append, length-le16, length-le32)

pub segmented-size : (x : List ℕ) (at : ℕ) → segment_size < length x
    → row_size (segmented_cells x at) ≡ cell_size 8 + (cell_size (4 * segments_for (length x)) + segments_size (length x))
unfolding segmented_cells row_size
segmented-size x at h =
    let list = at + cell_size 8 in
    let first = list + cell_size (4 * segments_for (length x)) in
    let l : length (offsets_of (parts_of x) first) ≡ 4 * segments_for (length x) =
    offsets-length (parts_of x) first ∙ ap (λ (n : ℕ). 4 * n) (parts-count (segments_for (length x)) x) in
    ap₂ ◌+◌ (ap cell_size (db-length (segments_for (length x)) list)) (ap₂ ◌+◌ (ap cell_size l) (segments-size x h))

pub data-size : (x : List ℕ) (at : ℕ) → row_size (data_cells x at) ≡ data_size (length x)
unfolding data_cells data_size row_size
data-size x at = by (leb (length x) 4) (leb (length x) segment_size) refl
  where
    by : (t u : Bool) → leb (length x) segment_size ≡ u
        → row_size (cond t [] (cond u (x ∷ []) (segmented_cells x at)))
        ≡ cond t 0 (cond u (cell_size (length x)) (cell_size 8 + (cell_size (4 * segments_for (length x)) + segments_size (length x))))
    by true u e = refl
    by false true e = omega arith
    by false false e = segmented-size x at (leb-false (length x) segment_size e)

-- ---- a value

pub field-length : (x : List ℕ) (next : ℕ) → length (data_field x next) ≡ 8
unfolding data_field
field-length x next = by (leb (length x) 4) refl
  where
    by : (t : Bool) → leb (length x) 4 ≡ t
        → length (cond t (le32 (top_bit + length x) ++ (x ++ zeros (4 - length x))) (le32 (length x) ++ le32 next)) ≡ 8
    by true e =
        let h = leb-true (length x) 4 e in
        let z = zeros-length (4 - length x) in
        simp (length-append, length-le32) (omega arith)
    by false e = simp (length-append, length-le32)

pub value-length : (v : Item) (at : ℕ) → length (value_record v at) ≡ 20 + length (stored v.name)
unfolding value_record
value-length v at = simp (length-append, length-le16, length-le32, field-length) (omega arith)

pub value-size : (v : Item) (at : ℕ) → row_size (value_cells v at) ≡ value_size v
unfolding value_cells value_size row_size
value-size v at = ap₂ ◌+◌ (ap cell_size (value-length v at)) (data-size v.bytes (at + cell_size (20 + length (stored v.name))))

pub values-size : (vs : List Item) (at : ℕ) → row_size (values_cells vs at) ≡ values_size vs
unfolding values_cells values_size row_size
values-size [] at = refl
values-size (v ∷ vs) at =
    row-append (value_cells v at) (values_cells vs (at + value_size v)) ∙ ap₂ ◌+◌ (value-size v at) (values-size vs (at + value_size v))

pub value-offsets-length : (vs : List Item) (at : ℕ) → length (value_offsets vs at) ≡ 4 * length vs
unfolding value_offsets
value-offsets-length [] at = refl
value-offsets-length (v ∷ vs) at =
    let a = length-append (le32 at) (value_offsets vs (at + value_size v)) in
    let b = length-le32 at in
    let e = value-offsets-length vs (at + value_size v) in
    omega arith

pub list-size : (vs : List Item) (at : ℕ) → row_size (list_cells vs at) ≡ list_size (length vs)
unfolding list_cells list_size row_size
list-size [] at = refl
list-size (v ∷ vs) at = let e = ap cell_size (value-offsets-length (v ∷ vs) at) in omega arith

-- ---- a key

pub key-length : (s : ℕ) (x : List ℕ) (vs : List Item) (b : Forest) (at parent S : ℕ) → length (key_record s x vs b at parent S) ≡ 76 + length (stored x)
unfolding key_record key_fixed
key-length s x vs b at parent S = simp (length-append, length-le16, length-le32, length-le64) (omega arith)

pub elements-length : (f : Forest) (at : ℕ) → length (elements f at) ≡ 8 * count_of f
unfolding elements count_of
elements-length none at = refl
elements-length (more s x vs b r) at = let e = elements-length r (beside_at x vs b at) in simp (length-append, length-le32) (omega arith)

pub leaf-length : (f : Forest) (at : ℕ) → length (108 ∷ 104 ∷ (le16 (count_of f) ++ elements f at)) ≡ 4 + 8 * count_of f
leaf-length f at = let e = elements-length f at in simp (length-append, length-le16) (omega arith)

pub leaf-size : (f : Forest) (at : ℕ) → row_size (leaf_cells f at) ≡ leaf_size (count_of f)
unfolding leaf_cells leaf_size row_size count_of
leaf-size none at = refl
leaf-size (more s x vs b r) at = let e = ap cell_size (leaf-length (more s x vs b r) at) in omega arith

pub cells-size : (f : Forest) (at parent S : ℕ) → row_size (cells_of f at parent S) ≡ size_of f
unfolding cells_of size_of row_size
cells-size none at parent S = refl
cells-size (more s x vs b r) at parent S =
    ap₂ ◌+◌ (ap cell_size (key-length s x vs b at parent S))
    (row-append (values_cells vs _) _ ∙ ap₂ ◌+◌ (values-size vs _)
    (row-append (list_cells vs _) _ ∙ ap₂ ◌+◌ (list-size vs _)
    (row-append (cells_of b _ at S) _ ∙ ap₂ ◌+◌ (cells-size b _ at S)
    (row-append (leaf_cells b _) _ ∙ ap₂ ◌+◌ (leaf-size b _) (cells-size r _ parent S)))))

pub size-eights : (f : Forest) → size_of f % 8 ≡ 0
size-eights f = let e = cells-size f 0 0 0 in let g = row-eights (cells_of f 0 0 0) in omega arith

-- ---- the bins

pub item-length : (f : Forest) (sd : List ℕ) → length (item_record f sd) ≡ 20 + length sd
unfolding item_record
item-length f sd = simp (length-append, length-le16, length-le32) (omega arith)

pub used-eights : (f : Forest) (n : ℕ) → used_of f n % 8 ≡ 0
used-eights f n = let a = size-eights f in let b = cell-eights (20 + n) in omega arith

pub record Whole (used bins : ℕ) : Type 0 where
  pub some : 0 < bins
  pub pages : bins % 4096 ≡ 0
  pub inside : used ≤ bins
  pub least : bins < used + 4096

pub bins-whole : (f : Forest) (n : ℕ) → Whole (used_of f n) (bins_for f n)
unfolding bins_for
bins-whole f n = record { some = omega arith; pages = omega arith; inside = omega arith; least = omega arith }

-- what is left is a multiple of 8, and a free cell of that size
pub left-eights : (f : Forest) (n : ℕ) → (bins_for f n - used_of f n) % 8 ≡ 0
left-eights f n = let w = bins-whole f n in let u = used-eights f n in omega arith

pub free-length : (n : ℕ) → n % 8 ≡ 0 → length (free_bytes n) ≡ n
unfolding free_bytes
free-length zero e = refl
free-length (suc n) e = let z = zeros-length (suc n - 4) in simp (length-append, length-le32) (omega arith)
