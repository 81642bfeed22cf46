-- The values of a key stand in the bins data d where the row of cells, cs, has them, and are read there as they were.
use Prim.Native.Nat.{ℕ, ◌+◌, ◌*◌, ◌<◌, ◌≤◌}
use native.Mathlib.Omega.{arith}
use mathlib.Core.Path.{◌≡◌, refl, sym, ap, ◌∙◌, subst}
use mathlib.Core.Bool.{Bool, true, false}
use mathlib.Core.Logic.{⊎_elim}
use mathlib.Core.List.Memᴰ
use mathlib.Core.List.{List, [], ◌∷◌, Memᴰ}
use lib.Dec.{leb}
use lib.ListN.{length}
use borrow.Author.Tests.{leb-true, leb-false}
use Rattle.fields.specs.declared.Offset.{Offset}
use Rattle.values.specs.declared.Segment.{Segment}
use Rattle.values.specs.declared.Value.{Value}
use Rattle.values.specs.declared.ValueData.{ValueData}
use Rattle.values.specs.Records.{data_in, fields_of, value_of}
use Rattle.values.specs.Segments.{segments_for, bytes_of}
use Rattle.tree.specs.Facts.{DbRecord}
use Rattle.tree.specs.WellFormed.{Room, Segmented, DataStands}
use Rattle.forest.specs.Forest.{Item}
use Rattle.forest.specs.Allowed.{ItemAllowed}
use Rattle.layout.specs.Layout.{parts_of, offsets_of, row_size, value_record, data_cells, segmented_cells, value_cells, values_cells}
use Rattle.layout.proofs.Sizes.{parts-count, offsets-length, value-size}
use Rattle.layout.proofs.Splits.{Split, Part, part-first, part-rest, part-ends}
use Rattle.layout.proofs.Places.{value-part, values-rest, value-at, data-part, data-at, segmented-part, db-at, segment-list-at, segments-part}
use Rattle.layout.proofs.Built.{Placed, placed-room}
use Rattle.build_laws.specs.Written.{next_at, content_at, segments_at, first_at, db_record, parts_at}
use Rattle.build_laws.proofs.Sizes.{next-inside}
use Rattle.build_laws.proofs.Values.{content-inline, content-one, content-segments}
use Rattle.build_laws.proofs.Data.{db-record}
use Rattle.build_laws.proofs.Held.{value-record-in, called-in, value_in_lem, value-frame-in}
use Rattle.build_laws.proofs.Held_data.{inline-in, one_in, segment-list-in, segments-in, segmented-in}
use Rattle.build_laws.proofs.Placed.{placed-holds, part-rows}
use Rattle.build_laws.specs.Laid.{ValueLaid, ValuesLaid, no-values, value}

-- a cell has room for its data
placed-has : {d : List ℕ} {o : ℕ} {x : List ℕ} (n : ℕ) → n ≤ length x → Placed d o x → Room d (record { 0 = o }) n
placed-has n h p = let r = placed-room p in record { in_use = p.used; room = omega arith }

-- data that stand, and are read as they were
record DataLaid (d x : List ℕ) (c : ValueData) : Type 0 where
  stands : DataStands d c
  read : bytes_of d c ≡ x

module _ {d : List ℕ} {cs : List (List ℕ)} {from : ℕ} (there : (o : ℕ) (x : List ℕ) → Split cs from o x → Placed d o x)
    (small : from + row_size cs < 4294967296) where
  parts-stand : (xs : List (List ℕ)) {o : ℕ} → Part cs from xs o → (s : Segment) → Memᴰ s (parts_at xs o) → Room d s.at s.len
  unfolding parts_at
  parts-stand [] c s i = absurd (Memᴰ.not-nil i)
  parts-stand (x ∷ xs) {o} c s i =
      ⊎_elim
      (λ (e : s ≡ record { at = record { 0 = o }; len = length x }).
      subst (λ (t : Segment). Room d t.at t.len) (sym e) (placed-has (length x) (omega arith) (there o x (part-first x xs c))))
      (λ j. parts-stand xs (part-rest x xs refl c) s j)
      (Memᴰ.cases_cons i)

  -- data in segments
  module _ (x : List ℕ) {at : ℕ} (c : Part cs from (segmented_cells x at) at) (few : length x ≤ 1048576) where
    db : Placed d at (db_record x at)
    db = there at (db_record x at) (db-at x c)

    list : Placed d (segments_at at) (offsets_of (parts_of x) (first_at x at))
    list = there (segments_at at) (offsets_of (parts_of x) (first_at x at)) (segment-list-at x c)

    ends : first_at x at + row_size (parts_of x) ≤ 4294967296
    ends = let e = part-ends (parts_of x) (segments-part x c) in omega arith

    segmented-stands : Segmented d (record { 0 = at }) (length x)
    segmented-stands =
        let long : length (offsets_of (parts_of x) (first_at x at)) ≡ 4 * segments_for (length x) =
        offsets-length (parts_of x) (first_at x at) ∙ ap (λ (n : ℕ). 4 * n) (parts-count (segments_for (length x)) x) in
        record {
          in_use = db.used;
          db = subst (λ (r : List ℕ). DbRecord r (segments_for (length x))) (sym (placed-holds db).1) (db-record x at (placed-holds db).0 few);
          list =
              subst (λ (o : Offset). Room d o (4 * segments_for (length x))) (sym (segment-list-in d x at (placed-holds db) (placed-holds list) ends))
              (placed-has (4 * segments_for (length x)) (omega arith) list);
          each =
              subst (λ (ss : List Segment). (s : Segment) → Memᴰ s ss → Room d s.at s.len)
              (sym (segments-in d x at (placed-holds db) (placed-holds list) ends)) (parts-stand (parts_of x) (segments-part x c));
        }

    segmented-laid : 16344 < length x → (o : Offset) → DataLaid d x (content_at x at o)
    segmented-laid h o =
        record {
          stands = rw (content-segments x at o h) segmented-stands;
          read = segmented-in d x at (placed-holds db) (placed-holds list) ends (part-rows there (parts_of x) (segments-part x c)) h o;
        }

  -- data in cells of their own
  data-laid : (x : List ℕ) {at : ℕ} → length x ≤ 1048576 → 4 < length x → Part cs from (data_cells x at) at → (o : Offset) → DataLaid d x (content_at x at o)
  data-laid x {at} few h c o = by (leb (length x) 16344) refl
    where
      by : (t : Bool) → leb (length x) 16344 ≡ t → DataLaid d x (content_at x at o)
      by true e =
          let l = leb-true (length x) 16344 e in
          let p = there at x (data-at x c h l) in
          record { stands = rw (content-one x at o h l) (λ n. placed-has (length x) (omega arith) p); read = one_in d x at o (placed-holds p) h l }
      by false e = let l = leb-false (length x) 16344 e in segmented-laid x (segmented-part x c l) few l o

  -- a value
  module _ (v : Item) {at : ℕ} (allowed : ItemAllowed v) (c : Part cs from (value_cells v at) at) where
    here : Placed d at (value_record v at)
    here = there at (value_record v at) (value-at v c)

    next_fits : next_at v at < 4294967296
    next_fits =
        let e = part-ends (value_cells v at) c in
        let s = value-size v at in
        let n = next-inside v at in
        omega arith

    content-laid : DataLaid d v.bytes (content_at v.bytes (next_at v at) (record { 0 = at }))
    content-laid = by (leb (length v.bytes) 4) refl
      where
        by : (t : Bool) → leb (length v.bytes) 4 ≡ t → DataLaid d v.bytes (content_at v.bytes (next_at v at) (record { 0 = at }))
        by true e =
            let l = leb-true (length v.bytes) 4 e in
            record {
              stands = rw (content-inline v.bytes (next_at v at) (record { 0 = at }) l) tt;
              read = inline-in d v at (placed-holds here) l;
            }
        by false e = data-laid v.bytes allowed.data-fits (leb-false (length v.bytes) 4 e) (data-part v c) (record { 0 = at })

    pub value-laid : ValueLaid d v at
    unfolding data_in value_of fields_of
    value-laid =
        let h = placed-holds here in
        let w : data_in d 5 (record { 0 = at }) ≡ content_at v.bytes (next_at v at) (record { 0 = at }) =
        ap (λ (y : Value). y.content) (value_in_lem d v at h allowed next_fits) in
        record {
          stands = record {
            in_use = here.used;
            record-good = value-record-in d v at h allowed;
            held = subst (λ (y : ValueData). DataStands d y) (sym w) content-laid.stands;
          };
          called = called-in d v at h allowed;
          framed = value-frame-in d v at h allowed next_fits content-laid.read;
        }

  pub values-laid : (vs : List Item) {at : ℕ} → ((v : Item) → Memᴰ v vs → ItemAllowed v) → Part cs from (values_cells vs at) at → ValuesLaid d vs at
  values-laid [] f c = no-values
  values-laid (v ∷ vs) f c =
      value (value-laid v (f v (Memᴰ.head refl)) (value-part v vs c)) (values-laid vs (λ w i. f w (Memᴰ.tail i)) (values-rest v vs c))
