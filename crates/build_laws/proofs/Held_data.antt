-- The data of a value in their cells, read as they were. d is the bins data.
use Prim.Native.Nat.{ℕ, ◌+◌, ◌*◌, ◌<◌, ◌≤◌}
use native.Mathlib.Omega.{arith}
use mathlib.Core.Path.{◌≡◌, refl, ap, ap₂, ◌∙◌}
use mathlib.Core.List.{List, [], ◌∷◌, ◌++◌}
use lib.ListN.{length, take, drop}
use lib.Seq.{take_at}
use borrow.Author.Tests.{ne_eqb}
use Rattle.fields.specs.declared.Offset.{Offset}
use Rattle.cells.specs.Named.{data_at}
use Rattle.records.specs.Offsets.{offset_at}
use Rattle.values.specs.Segments.{segments_for, segments_from, segment_list, segments_of, joined_bytes, bytes_of}
use Rattle.forest.specs.Forest.{Item}
use Rattle.layout.specs.Layout.{zeros, cell_size, parts_of, offsets_of, row_size, value_record}
use Rattle.layout.proofs.Sizes.{cell_room}
use Rattle.build_laws.specs.Written.{next_at, content_at, segments_at, first_at, db_record, parts_at, joined}
use Rattle.build_laws.proofs.Values.{value-inline, content-inline, content-one, content-segments}
use Rattle.build_laws.proofs.Data.{data-joined, segments-read, db-list}
use Rattle.build_laws.proofs.Held.{Holds}

-- cells in a row, from an offset on
pub data Rows (d : List ℕ) : List (List ℕ) → ℕ → Type 0 where
  row-end : {at : ℕ} → Rows d [] at
  row_on : {x : List ℕ} {xs : List (List ℕ)} {at : ℕ} → Holds d at x → Rows d xs (at + cell_size (length x)) → Rows d (x ∷ xs) at

module _ (d : List ℕ) where
  -- data in the record, and in one cell
  pub inline-in : (v : Item) (at : ℕ) → Holds d at (value_record v at) → length v.bytes ≤ 4
      → bytes_of d (content_at v.bytes (next_at v at) (record { 0 = at })) ≡ v.bytes
  unfolding bytes_of
  inline-in v at h p =
      ap (bytes_of d) (content-inline v.bytes (next_at v at) (record { 0 = at }) p)
      ∙ ap (λ (r : List ℕ). take (length v.bytes) (drop 8 r)) h.1
      ∙ value-inline v at h.0 p

  pub one_in : (x : List ℕ) (next : ℕ) (o : Offset) → Holds d next x → 4 < length x → length x ≤ 16344 → bytes_of d (content_at x next o) ≡ x
  unfolding bytes_of
  one_in x next o h p q =
      ap (bytes_of d) (content-one x next o p q)
      ∙ rw (ne_eqb (length x) 0 (λ e. omega arith)) (ap (take (length x)) h.1 ∙ take_at x (zeros h.0) _ refl)

  -- segments
  parts-bytes : {xs : List (List ℕ)} {at : ℕ} → Rows d xs at → joined_bytes d (parts_at xs at) ≡ joined xs
  unfolding joined_bytes parts_at joined
  parts-bytes row-end = refl
  parts-bytes (row_on {x = x} h t) = ap₂ (λ (a c : List ℕ). a ++ c) (ap (take (length x)) h.1 ∙ take_at x (zeros h.0) _ refl) (parts-bytes t)

  module _ (x : List ℕ) (next : ℕ) (db : Holds d next (db_record x next)) (list : Holds d (segments_at next) (offsets_of (parts_of x) (first_at x next)))
      (ends : first_at x next + row_size (parts_of x) ≤ 4294967296) where
    pub segment-list-in : segment_list d (record { 0 = next }) ≡ record { 0 = segments_at next }
    segment-list-in =
        let c = cell_room (4 * segments_for (length x)) in
        ap (λ (r : List ℕ). offset_at r 4) db.1 ∙ db-list x next db.0 (omega arith)

    pub segments-in : segments_of d (record { 0 = next }) (length x) ≡ parts_at (parts_of x) (first_at x next)
    unfolding segments_of
    segments-in =
        ap (λ (o : Offset). segments_from (data_at d o) 0 (length x) (segments_for (length x))) segment-list-in
        ∙ ap (λ (r : List ℕ). segments_from r 0 (length x) (segments_for (length x))) list.1
        ∙ segments-read x (first_at x next) list.0 ends

    pub segmented-in : Rows d (parts_of x) (first_at x next) → 16344 < length x → (o : Offset) → bytes_of d (content_at x next o) ≡ x
    unfolding bytes_of
    segmented-in t p o =
        ap (bytes_of d) (content-segments x next o p) ∙ ap (joined_bytes d) segments-in ∙ parts-bytes t ∙ data-joined x
