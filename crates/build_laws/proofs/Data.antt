-- Data in segments, read back: the `db` record, the segment list, and the parts, which joined are the data.
use Prim.Native.Nat.{ℕ, zero, suc, ◌+◌, ◌-◌, ◌*◌, ◌<◌, ◌≤◌}
use native.Mathlib.Omega.{arith}
use mathlib.Core.Path.{◌≡◌, refl, sym, ap, ap₂, ◌∙◌}
use mathlib.Core.Bool.{Bool, true, false}
use mathlib.Core.List.{List, [], ◌∷◌, ◌++◌, append_assoc}
use lib.Dec.{ltb}
use lib.ListN.{length, take, drop, length-append, length-drop, take-append-drop, replicate}
use lib.Seq.{length-take-le, take_all}
use borrow.Author.Tests.{ltb-true, ltb-false}
use Rattle.fields.specs.declared.Offset.{Offset}
use Rattle.fields.specs.Number.{u16_at, u32_at, le16, le32}
use Rattle.fields.proofs.Little.{length-le16, length-le32}
use Rattle.records.specs.Offsets.{offset_at}
use Rattle.values.specs.declared.Segment.{Segment}
use Rattle.values.specs.Records.{segment_size}
use Rattle.values.specs.Segments.{segments_for, segment_length, segments_from}
use Rattle.values.proofs.LawsSegments.{enough-segments, most-segments}
use Rattle.tree.specs.Facts.{DbRecord}
use Rattle.layout.specs.Layout.{zeros, cell_size, parts_n, parts_of, offsets_of, row_size, segmented_cells}
use Rattle.layout.proofs.Sizes.{cell_room, zeros-length, db-length}
use Rattle.build_laws.specs.Written.{segments_at, first_at, db_record, parts_at, joined, lengths}
use Rattle.build_laws.proofs.Bytes.{half-there, word-there}

-- ---- the parts

-- a part has 16,344 bytes, or all that is left
part_length : (x : List ℕ) → length (take segment_size x) ≡ segment_length (length x)
unfolding segment_length
part_length x = by (ltb segment_size (length x)) refl
  where
    by : (t : Bool) → ltb segment_size (length x) ≡ t → length (take segment_size x) ≡ segment_length (length x)
    by true e = rw e (length-take-le segment_size x (let l = ltb-true segment_size (length x) e in omega arith))
    by false e = rw e (ap length (take_all segment_size x (ltb-false segment_size (length x) e)))

no_bytes : (x : List ℕ) → length x ≤ 0 → [] ≡ x
no_bytes [] h = refl
no_bytes (a ∷ x) h = absurd (omega arith)

parts-joined : (n : ℕ) (x : List ℕ) → length x ≤ n * segment_size → joined (parts_n n x) ≡ x
unfolding parts_n joined
parts-joined zero x h = no_bytes x (omega arith)
parts-joined (suc n) x h =
    let l = length-drop segment_size x in
    ap (λ (w : List ℕ). take segment_size x ++ w) (parts-joined n (drop segment_size x) (omega arith)) ∙ take-append-drop segment_size x

-- 16,344 bytes each, and the rest in the last
parts-lengths : (n : ℕ) (x : List ℕ) → n * segment_size ≤ length x → length x ≤ suc n * segment_size
    → lengths (parts_n (suc n) x) ≡ replicate n segment_size ++ ((length x - n * segment_size) ∷ [])
unfolding parts_n lengths
parts-lengths zero x h l =
    let e : length x - 0 * segment_size ≡ length x = omega arith in
    ap (λ (m : ℕ). m ∷ []) (ap length (take_all segment_size x (omega arith)) ∙ sym e)
parts-lengths (suc n) x h l =
    let d = length-drop segment_size x in
    let e : length (drop segment_size x) - n * segment_size ≡ length x - suc n * segment_size = omega arith in
    ap₂ (λ (m : ℕ) (ms : List ℕ). m ∷ ms) (length-take-le segment_size x (omega arith))
    (parts-lengths n (drop segment_size x) (omega arith) (omega arith) ∙ ap (λ (m : ℕ). replicate n segment_size ++ (m ∷ [])) e)

module _ (x : List ℕ) where
  pub data-joined : joined (parts_of x) ≡ x
  data-joined = parts-joined (segments_for (length x)) x (enough-segments (length x))

  pub data-lengths : 0 < length x
      → lengths (parts_of x)
      ≡ replicate (segments_for (length x) - 1) segment_size ++ ((length x - (segments_for (length x) - 1) * segment_size) ∷ [])
  unfolding segments_for
  data-lengths h = by (segments_for (length x)) refl
    where
      by : (n : ℕ) → segments_for (length x) ≡ n
          → lengths (parts_n n x) ≡ replicate (n - 1) segment_size ++ ((length x - (n - 1) * segment_size) ∷ [])
      by zero e = absurd (omega arith)
      by (suc n) e = let z : suc n - 1 ≡ n = omega arith in rw z (parts-lengths n x (omega arith) (omega arith))

-- ---- the segment list

-- behind so many bytes
segments-behind : (n : ℕ) (x : List ℕ) (at i : ℕ) (p t : List ℕ) → length p ≡ i * 4 → at + row_size (parts_n n x) ≤ 4294967296
    → segments_from (p ++ (offsets_of (parts_n n x) at ++ t)) i (length x) n ≡ parts_at (parts_n n x) at
unfolding segments_from parts_n offsets_of parts_at row_size
segments-behind zero x at i p t e h = refl
segments-behind (suc n) x at i p t e h =
    let part = take segment_size x in
    let more = drop segment_size x in
    let next = at + cell_size (length part) in
    let least = cell_room (length part) in
    let tail = offsets_of (parts_n n more) next ++ t in
    let same : p ++ ((le32 at ++ offsets_of (parts_n n more) next) ++ t) ≡ p ++ (le32 at ++ tail) =
    ap (λ (w : List ℕ). p ++ w) (append_assoc (le32 at) (offsets_of (parts_n n more) next) t) in
    let a = length-append p (le32 at) in
    let b = length-le32 at in
    let left : length x - segment_size ≡ length more = sym (length-drop segment_size x) in
    ap (λ (w : List ℕ). record { at = record { 0 = u32_at w (i * 4) }; len = segment_length (length x) } ∷ segments_from w (suc i) (length x - segment_size) n) same
    ∙ ap₂ (λ (z : Segment) (zs : List Segment). z ∷ zs)
    (ap₂ (λ (o l : ℕ). let z : Segment = record { at = record { 0 = o }; len = l } in z) (word-there p at tail (i * 4) e (omega arith)) (sym (part_length x)))
    (ap₂ (λ (w : List ℕ) (l : ℕ). segments_from w (suc i) l n) (sym (append_assoc p (le32 at) tail)) left
    ∙ segments-behind n more next (suc i) (p ++ le32 at) t (omega arith) (omega arith))

pub segments-read : (x : List ℕ) (first k : ℕ) → first + row_size (parts_of x) ≤ 4294967296
    → segments_from (offsets_of (parts_of x) first ++ zeros k) 0 (length x) (segments_for (length x)) ≡ parts_at (parts_of x) first
segments-read x first k h = segments-behind (segments_for (length x)) x first 0 [] (zeros k) refl h

-- ---- the `db` record

-- the cells of data in segments
pub segmented-cells : (x : List ℕ) (at : ℕ) → segmented_cells x at ≡ db_record x at ∷ (offsets_of (parts_of x) (first_at x at) ∷ parts_of x)
unfolding segmented_cells
segmented-cells x at = refl

module _ (x : List ℕ) (at k : ℕ) where
  abbrev Cell : List ℕ
  Cell = db_record x at ++ zeros k

  cell-length : length Cell ≡ 8 + k
  cell-length =
      let e = db-length (segments_for (length x)) (segments_at at) in
      let a = length-append (db_record x at) (zeros k) in
      let z = zeros-length k in
      omega arith

  pub db-record : length x ≤ 1048576 → DbRecord Cell (segments_for (length x))
  db-record h = record { db = refl; room = let l = cell-length in omega arith; count = count-read }
    where
      count-read : u16_at Cell 2 ≡ segments_for (length x)
      count-read =
          let m = most-segments (length x) h in
          ap (λ (w : List ℕ). u16_at (100 ∷ 98 ∷ w) 2) (append_assoc (le16 (segments_for (length x))) (le32 (segments_at at)) (zeros k))
          ∙ half-there (100 ∷ 98 ∷ []) (segments_for (length x)) (le32 (segments_at at) ++ zeros k) 2 refl (omega arith)

  pub db-list : segments_at at < 4294967296 → offset_at Cell 4 ≡ record { 0 = segments_at at }
  db-list h = ap (λ (n : ℕ). let o : Offset = record { 0 = n } in o) list_read
    where
      list_read : u32_at Cell 4 ≡ segments_at at
      list_read =
          let m = length-le16 (segments_for (length x)) in
          ap (λ (w : List ℕ). u32_at (100 ∷ 98 ∷ w) 4) (append_assoc (le16 (segments_for (length x))) (le32 (segments_at at)) (zeros k))
          ∙ word-there (100 ∷ 98 ∷ le16 (segments_for (length x))) (segments_at at) (zeros k) 4 (omega arith) h
