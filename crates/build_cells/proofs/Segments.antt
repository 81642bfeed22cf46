-- A value's data in cells of their own: one, or segments.
use Prim.Native.Nat.{ℕ, zero, suc, ◌+◌, ◌-◌, ◌*◌, ◌<◌, ◌≤◌}
use native.Mathlib.Omega.{arith}
use native.Mathlib.Numerals.{add-one}
use mathlib.Core.Path.{◌≡◌, refl, sym, ap, ap₂, ◌∙◌}
use mathlib.Core.Bool.{Bool, true, false}
use mathlib.Core.List.{List, [], ◌∷◌, ◌++◌, append_assoc, append-nil}
use lib.Dec.{leb}
use lib.ListN.{length, take, drop, length-append, length-drop}
use lib.Seq.{sets, take_all, length-take-le, drop-drop}
use borrow.Author.Tests.{leb-true, leb-false, le-leb, lt-leb}
use Rattle.fields.specs.Number.{le16, le32}
use Rattle.fields.proofs.Little.{length-le16, length-le32}
use Rattle.stream.proofs.Puts.{put_then}
use Rattle.values.specs.Segments.{segments_for}
use Rattle.layout.specs.Layout.{cell_size, cell_bytes, row_bytes, parts_n, parts_of, offsets_of, segmented_cells, data_cells, data_size}
use Rattle.layout.proofs.Sizes.{cell-length, bytes-append}
use Rattle.build_frames.proofs.Sizes.{cell-eight, cell_full, data-more}
use Rattle.build_cells.specs.Terms.{pad, db_record, offsets_n, segments_size, SegmentEnd}
use Rattle.build_cells.proofs.Laws.{join3, cell-put}

-- ---- how many, and how long

pub count-few : (n : ℕ) → n ≤ 1048576 → segments_for n ≤ 65
unfolding segments_for
count-few n p = omega arith

pub count-more : (n i : ℕ) → 16344 * i < n → i + 1 ≤ segments_for n
unfolding segments_for
count-more n i p = omega arith

pub count-end : (n i : ℕ) → n ≤ 16344 * i → segments_for n ≤ i
unfolding segments_for
count-end n i p = omega arith

-- every segment but the last is full
pub count-full : (n : ℕ) → (segments_for n - 1) * 16344 ≤ n
unfolding segments_for
count-full n = omega arith

pub segment-room : (n i m : ℕ) → 16344 * i < n → m ≤ 16344 → 16344 * i + m ≤ n → 16352 * i + cell_size m ≤ segments_size n
unfolding segments_size segments_for cell_size
segment-room n i m p q r = omega arith

-- ---- the parts

module _ (x : List ℕ) (start stop : ℕ) (e : SegmentEnd start (length x) stop) (p : start ≤ length x) where
  pub end-facts : (start ≤ stop) × (stop ≤ length x) × (stop - start ≤ 16344)
  end-facts = by (leb (length x - start) 16344) refl
    where
      by : (t : Bool) → leb (length x - start) 16344 ≡ t → (start ≤ stop) × (stop ≤ length x) × (stop - start ≤ 16344)
      by true f = let q = leb-true (length x - start) 16344 f in let r : stop ≡ length x = rw f at e in (omega arith, omega arith, omega arith)
      by false f = let q = leb-false (length x - start) 16344 f in let r : stop ≡ start + 16344 = rw f at e in (omega arith, omega arith, omega arith)

  pub part-is : take (stop - start) (drop start x) ≡ take 16344 (drop start x)
  part-is = by (leb (length x - start) 16344) refl
    where
      by : (t : Bool) → leb (length x - start) 16344 ≡ t → take (stop - start) (drop start x) ≡ take 16344 (drop start x)
      by true f =
          let q = leb-true (length x - start) 16344 f in
          let r : stop ≡ length x = rw f at e in
          let d = length-drop start x in
          take_all (stop - start) (drop start x) (omega arith) ∙ sym (take_all 16344 (drop start x) (omega arith))
      by false f =
          let q = leb-false (length x - start) 16344 f in
          let r : stop ≡ start + 16344 = rw f at e in
          let s : stop - start ≡ 16344 = omega arith in
          ap (λ (k : ℕ). take k (drop start x)) s

  pub part_length : length (take (stop - start) (drop start x)) ≡ stop - start
  part_length = let f = end-facts in let d = length-drop start x in length-take-le (stop - start) (drop start x) (omega (arith, f.0, f.1))

  pub part_room : (i : ℕ) → start ≡ 16344 * i → start < length x
      → (length (take (stop - start) (drop start x)) < 2147483648) × (16352 * i + cell_size (length (take (stop - start) (drop start x))) ≤ segments_size (length x))
  part_room i s q =
      let f = end-facts in
      let l = part_length in
      let r = segment-room (length x) i (length (take (stop - start) (drop start x))) (omega arith) (omega (arith, f.2)) (omega (arith, f.0, f.1)) in
      (omega (arith, f.2), r)

parts_more : (n : ℕ) (x : List ℕ) → parts_n (suc n) x ≡ parts_n n x ++ (take 16344 (drop (16344 * n) x) ∷ [])
unfolding parts_n
parts_more zero x = refl
parts_more (suc n) x =
    let e : 16344 + 16344 * n ≡ 16344 * suc n = omega arith in
    ap (λ (r : List (List ℕ)). take 16344 x ∷ r)
    (parts_more n (drop 16344 x)
    ∙ ap (λ (y : List ℕ). parts_n n (drop 16344 x) ++ (take 16344 y ∷ [])) (drop-drop (16344 * n) 16344 x ∙ ap (λ (k : ℕ). drop k x) e))

row_one : (x : List ℕ) → row_bytes (x ∷ []) ≡ cell_bytes x
unfolding row_bytes
row_one x = append-nil (cell_bytes x)

row-length : (n : ℕ) (x : List ℕ) → 16344 * n ≤ length x → length (row_bytes (parts_n n x)) ≡ 16352 * n
unfolding parts_n row_bytes
row-length zero x p = refl
row-length (suc n) x p =
    let t = length-take-le 16344 x (omega arith) in
    let d = length-drop 16344 x in
    let c = cell-length (take 16344 x) ∙ ap cell_size t ∙ cell_full in
    let a = length-append (cell_bytes (take 16344 x)) (row_bytes (parts_n n (drop 16344 x))) in
    let r = row-length n (drop 16344 x) (omega arith) in
    omega arith

pub segments-none : (x l : List ℕ) (at : ℕ) → l ≡ sets l at (row_bytes (parts_n 0 x))
unfolding parts_n row_bytes
segments-none x l at = refl

pub segments-next : (x l : List ℕ) (at i : ℕ) → 16344 * i < length x
    → sets (sets l at (row_bytes (parts_n i x))) (at + 16352 * i) (cell_bytes (take 16344 (drop (16344 * i) x))) ≡ sets l at (row_bytes (parts_n (i + 1) x))
segments-next x l at i p =
    let t = take 16344 (drop (16344 * i) x) in
    let r = row-length i x (omega arith) in
    sym (ap (λ (k : ℕ). sets l at (row_bytes (parts_n k x))) (add-one i)
    ∙ ap (sets l at) (ap row_bytes (parts_more i x) ∙ bytes-append (parts_n i x) (t ∷ []) ∙ ap (λ (y : List ℕ). row_bytes (parts_n i x) ++ y) (row_one t))
    ∙ put_then (row_bytes (parts_n i x)) (cell_bytes t) l at (at + 16352 * i) (omega arith))

pub segments-last : (x l : List ℕ) (at i : ℕ) → i ≤ segments_for (length x) → length x ≤ 16344 * i
    → sets l at (row_bytes (parts_n i x)) ≡ sets l at (row_bytes (parts_of x))
segments-last x l at i p q =
    let r = count-end (length x) i q in
    let e : i ≡ segments_for (length x) = omega arith in
    ap (λ (k : ℕ). sets l at (row_bytes (parts_n k x))) e

-- ---- their offsets

offsets-more : (n first : ℕ) → offsets_n (suc n) first ≡ offsets_n n first ++ le32 (first + 16352 * n)
unfolding offsets_n
offsets-more zero first = let e : first ≡ first + 0 = omega arith in append-nil (le32 first) ∙ ap le32 e
offsets-more (suc n) first =
    let e : first + 16352 + 16352 * n ≡ first + 16352 * suc n = omega arith in
    ap (λ (r : List ℕ). le32 first ++ r) (offsets-more n (first + 16352) ∙ ap (λ (k : ℕ). offsets_n n (first + 16352) ++ le32 k) e)
    ∙ sym (append_assoc (le32 first) (offsets_n n (first + 16352)) (le32 (first + 16352 * suc n)))

pub length-offsets : (n first : ℕ) → length (offsets_n n first) ≡ 4 * n
unfolding offsets_n
length-offsets zero first = refl
length-offsets (suc n) first =
    let a = length-append (le32 first) (offsets_n n (first + 16352)) in
    let b = length-le32 first in
    let r = length-offsets n (first + 16352) in
    omega arith

pub offsets-none : (l : List ℕ) (at first : ℕ) → l ≡ sets l at (offsets_n 0 first)
unfolding offsets_n
offsets-none l at first = refl

pub offsets-next : (l : List ℕ) (at first i : ℕ)
    → sets (sets l at (offsets_n i first)) (at + 4 * i) (le32 (first + 16352 * i)) ≡ sets l at (offsets_n (i + 1) first)
offsets-next l at first i =
    let r = length-offsets i first in
    sym (ap (λ (k : ℕ). sets l at (offsets_n k first)) (add-one i)
    ∙ ap (sets l at) (offsets-more i first)
    ∙ put_then (offsets_n i first) (le32 (first + 16352 * i)) l at (at + 4 * i) (omega arith))

offsets_are : (n : ℕ) (x : List ℕ) (first : ℕ) → (n - 1) * 16344 ≤ length x → offsets_of (parts_n n x) first ≡ offsets_n n first
unfolding parts_n offsets_of offsets_n
offsets_are zero x first p = refl
offsets_are (suc zero) x first p = refl
offsets_are (suc (suc n)) x first p =
    let t = length-take-le 16344 x (omega arith) in
    let d = length-drop 16344 x in
    ap (λ (k : ℕ). le32 first ++ offsets_of (parts_n (suc n) (drop 16344 x)) (first + k)) (ap cell_size t ∙ cell_full)
    ∙ ap (λ (r : List ℕ). le32 first ++ r) (offsets_are (suc n) (drop 16344 x) (first + 16352) (omega arith))

-- ---- the whole

length-db : (count list : ℕ) → length (db_record count list) ≡ 8
unfolding db_record le32 le16
length-db count list = refl

db-mark : (count list : ℕ) → le16 25188 ++ (le16 count ++ le32 list) ≡ db_record count list
unfolding db_record le16
db-mark count list = refl

pub db-put : (l : List ℕ) (at count list : ℕ)
    → sets (sets (sets (sets (sets l at (le32 (4294967296 - cell_size 8))) (at + 4) (le16 25188)) (at + 6) (le16 count)) (at + 8) (le32 list)) (at + 4 + 8) (pad 8)
    ≡ sets l at (cell_bytes (db_record count list))
db-put l at count list =
    let m = sets l at (le32 (4294967296 - cell_size 8)) in
    let a = length-le16 25188 in
    let b = length-le16 count in
    ap (λ (y : List ℕ). sets y (at + 4 + 8) (pad 8))
    (join3 (le16 25188) (le16 count) (le32 list) m (at + 4) (at + 6) (at + 8) (omega arith) (omega arith) ∙ ap (sets m (at + 4)) (db-mark count list))
    ∙ cell-put (db_record count list) l at 8 (sym (length-db count list))

pub segmented-put : (x l : List ℕ) (at offset count list : ℕ) → count ≡ segments_for (length x) → list ≡ cell_size (4 * count)
    → sets (sets (sets l at (cell_bytes (db_record count (offset + 16)))) (at + 16) (cell_bytes (offsets_n count (offset + 16 + list)))) (at + 16 + list)
    (row_bytes (parts_of x))
    ≡ sets l at (row_bytes (segmented_cells x offset))
unfolding segmented_cells row_bytes db_record
segmented-put x l at offset count list e f =
    let g : list ≡ cell_size (4 * segments_for (length x)) = f ∙ ap (λ (k : ℕ). cell_size (4 * k)) e in
    let a = cell-length (db_record count (offset + 16)) ∙ ap cell_size (length-db count (offset + 16)) ∙ cell-eight in
    let b = cell-length (offsets_n count (offset + 16 + list)) ∙ ap cell_size (length-offsets count (offset + 16 + list)) in
    join3 (cell_bytes (db_record count (offset + 16))) (cell_bytes (offsets_n count (offset + 16 + list))) (row_bytes (parts_of x)) l at (at + 16) (at + 16 + list)
    (omega arith) (omega arith)
    ∙ ap (sets l at) (ap₂ (λ (k m : ℕ). cell_bytes (db_record k (offset + 16)) ++ (cell_bytes (offsets_n k (offset + 16 + m)) ++ row_bytes (parts_of x))) e g
    ∙ ap (λ (y : List ℕ). cell_bytes (db_record (segments_for (length x)) (offset + 16)) ++ (cell_bytes y ++ row_bytes (parts_of x)))
    (sym (offsets_are (segments_for (length x)) x (offset + 16 + cell_size (4 * segments_for (length x))) (count-full (length x))))
    ∙ ap (λ (k : ℕ). cell_bytes (db_record (segments_for (length x)) (offset + k)) ++ (cell_bytes (offsets_of (parts_of x) (offset + k
    + cell_size (4 * segments_for (length x)))) ++ row_bytes (parts_of x))) (sym cell-eight))

module _ (x l : List ℕ) (at offset : ℕ) where
  pub data-none : length x ≤ 4 → l ≡ sets l at (row_bytes (data_cells x offset))
  unfolding data_cells row_bytes
  data-none p = let e = le-leb (length x) 4 p in rw e

  pub data-one : 4 < length x → length x ≤ 16344 → sets l at (cell_bytes x) ≡ sets l at (row_bytes (data_cells x offset))
  unfolding data_cells
  data-one p q = let e = lt-leb (length x) 4 p in let f = le-leb (length x) 16344 q in rw (e, f) (ap (sets l at) (sym (row_one x)))

  pub data-many : 16344 < length x → sets l at (row_bytes (segmented_cells x offset)) ≡ sets l at (row_bytes (data_cells x offset))
  unfolding data_cells
  data-many p = let e = lt-leb (length x) 4 (omega arith) in let f = lt-leb (length x) 16344 p in rw (e, f)

pub size-many : (n : ℕ) → 16344 < n → data_size n ≡ 16 + (cell_size (4 * segments_for n) + segments_size n)
unfolding segments_size
size-many n p =
    data-more n p
    ∙ ap₂ (λ (a b : ℕ). a + (cell_size (4 * segments_for n) + ((segments_for n - 1) * b + cell_size (n - (segments_for n - 1) * 16344)))) cell-eight cell_full
