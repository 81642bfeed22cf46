-- The faults of a list and of segmented data, a law for each way out.
use Prim.Native.Nat.{ℕ, ◌*◌, ◌≤◌}
use native.Mathlib.Omega.{arith}
use mathlib.Core.Path.{◌≡◌, refl, ap, ◌∙◌}
use mathlib.Core.Bool.{true, false}
use mathlib.Core.List.{List}
use lib.Dec.{leb}
use lib.ListN.{length}
use borrow.Author.Tests.{leb-true}
use Rattle.fields.specs.declared.Offset.{Offset}
use Rattle.fields.specs.declared.Flaw.{Flaw}
use Rattle.fields.specs.declared.Fault.TheVariants.{Record}
use Rattle.fields.specs.Number.{u32_at}
use Rattle.fields.specs.Faults.{flaw, fault_over, Verdict}
use Rattle.fields.proofs.Firsts.{on, stop, both}
use Rattle.fields.proofs.Bools.{and-inv}
use Rattle.cells.specs.declared.Cell.{Cell}
use Rattle.cells.specs.Rule.{Rule}
use Rattle.cells.specs.Named.{cell_of, data_of, data_at}
use Rattle.cells.proofs.Naming.{cell-data-at}
use Rattle.values.specs.declared.Entries.{Entries}
use Rattle.values.specs.Entries.{entries_at}
use Rattle.values.specs.Terms.{Room, entered}
use Rattle.values.specs.Segments.{room_fault, segments_for, is_db, db_fault, segment_list, segments_in, segments_of, segment_fault, segment_list_fault, segments_fault}
use Rattle.values.proofs.Cell_tests.{lacks, passes, refuses}
use Rattle.values.proofs.Rooms.{roomy}
use Rattle.std.specs.Prelude.{Err, Ok}

-- a list that is whole, and one that is not
pub entered-whole : (v : Verdict) (x : Entries) {e : Entries} → entered v x ≡ Ok e → (v ≡ Ok tt) × (x ≡ e)
entered-whole (Ok tt) x e = (refl, cc)
entered-whole (Err f) x e = absurd (let z : ◌≡◌ {A = ℕ} 0 1 = cc in omega arith)

pub entered-flawed : (v : Verdict) (x : Entries) {f : Flaw} → entered v x ≡ Err f → v ≡ Err f
entered-flawed (Ok tt) x e = absurd (let z : ◌≡◌ {A = ℕ} 0 1 = cc in omega arith)
entered-flawed (Err g) x e = cc

pub db-long : (r : List ℕ) (size : ℕ) → is_db r size ≡ true → 8 ≤ length r
unfolding is_db
db-long r size e = leb-true 8 (length r) (and-inv (leb 8 (length r)) _ e).0

-- the segments are those of the elements of the segment list
pub segments-listed : (d : List ℕ) (o : Offset) (size : ℕ) → segments_of d o size ≡ segments_in d (entries_at (segment_list d o) (segments_for size)) size
unfolding segments_of
segments-listed d o size = refl

module _ (rule : Rule) (d m : List ℕ) (o : Offset) (size : ℕ) where
  pub db-lacks : {f : Flaw} → cell_of rule d m o ≡ Err f → segment_list_fault rule d m o size ≡ Err f
  unfolding segment_list_fault db_fault
  db-lacks e = stop _ _ (lacks (λ r. is_db r size) rule d m o e)

  module _ {c : Cell} (e : cell_of rule d m o ≡ Ok c) (r : List ℕ) (q : r ≡ data_of d c) where
    pub db-refused : is_db r size ≡ false → segment_list_fault rule d m o size ≡ Err (flaw Record o)
    unfolding segment_list_fault db_fault
    db-refused p = stop _ _ (refuses (λ r. is_db r size) rule d m o e r q p)

    -- what is left is the segment list
    pub db-list : is_db r size ≡ true → (l n : ℕ) → l ≡ u32_at r 4 → n ≡ segments_for size
        → entered (room_fault rule d m (record { 0 = l }) (4 * n)) (entries_at (record { 0 = l }) n)
        ≡ entered (segment_list_fault rule d m o size) (entries_at (segment_list d o) (segments_for size))
    unfolding segment_list_fault db_fault
    db-list p l n at count =
        let f = on _ (room_fault rule d m (segment_list d o) (4 * segments_for size)) (passes (λ r. is_db r size) rule d m o e r q p) in
        rw (f, at, count, q ∙ cell-data-at rule d m o e)

  pub unlisted-segments : {f : Flaw} → segment_list_fault rule d m o size ≡ Err f → segments_fault rule d m o size ≡ Err f
  unfolding segments_fault
  unlisted-segments e = stop _ _ e

  module _ (s : segment_list_fault rule d m o size ≡ Ok tt) where
    pub list-roomy : 4 * segments_for size ≤ length (data_at d (segment_list d o))
    unfolding segment_list_fault
    list-roomy = roomy rule d m (segment_list d o) (4 * segments_for size) (both (db_fault rule d m o size) _ s).1

    module _ (e : Entries) (is : entries_at (segment_list d o) (segments_for size) ≡ e) where
      pub list-room : Room d e
      list-room = rw (← is) list-roomy

      pub by-segments : segments_fault rule d m o size ≡ fault_over (segment_fault rule d m) (segments_in d e size)
      unfolding segments_fault
      by-segments = on _ _ s ∙ ap (fault_over (segment_fault rule d m)) (segments-listed d o size ∙ ap (λ (x : Entries). segments_in d x size) is)

-- the ways out of the tests of a segment list and of segments
pub ruleset db_ways = (db-lacks, db-refused, db-list, db-long)

pub ruleset segments_ways = (entered-whole, entered-flawed, unlisted-segments, list-room, by-segments)
