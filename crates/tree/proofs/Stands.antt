-- Each record's tests are sound exactly when what they test stands, on bins data that are tiled, with their map.
use Rattle.std.proofs.Common.{◌≡◌, ℕ, Bool, true, false, cond, eqb, leb, List, length, refl, ne_eqb, le-leb, leb-true}
use borrow.Author.Tests.{eqb-false}
use Rattle.fields.specs.declared.Offset.{Offset}
use Rattle.fields.specs.declared.Flaw.{Flaw}
use Rattle.fields.specs.declared.Fault.TheVariants.{Record}
use Rattle.fields.specs.Faults.{flaw, unless, ◌next◌, fault_over, Verdict}
use Rattle.fields.proofs.Firsts.{both, sound, held, holds}
use Rattle.fields.proofs.Loops.{over-each, each_over}
use Rattle.cells.specs.Rule.{Rule, Map}
use Rattle.cells.specs.Named.{cell_fault, data_at}
use Rattle.cells.specs.Tiled.{BinsTile, InUse, Mapped}
use Rattle.cells.proofs.Mapped.{sound-in-use}
use Rattle.records.specs.declared.Key.{Key}
use Rattle.records.specs.Keys.{is_key, key_fault}
use Rattle.records.specs.Lists.{is_ri, is_leaf, is_list, leaves_of, leaf_fault, head_fault, list_fault, lists_fault}
use Rattle.values.specs.declared.ValueData.{ValueData}
use Rattle.values.specs.declared.ValueData.TheVariants.{Inline, OneCell, Segments}
use Rattle.values.specs.Records.{is_value, value_fault, data_in}
use Rattle.values.specs.Segments.{room_fault, is_db, db_fault, segments_of, segment_fault, segment_list_fault, segments_fault, data_fault}
use Rattle.values.specs.Lists.{values_of, value_list_fault, whole_value_fault, values_fault}
use Rattle.namesakes.specs.Namesakes.{namesake_fault}
use Rattle.namesakes.proofs.Laws.{distinct-exactly}
use Rattle.tree.specs.WellFormed.{Room, Segmented, DataStands, ValueStands, ValuesStand, LeafStands, ListStands}
use Rattle.records.proofs.Facts.{signed-exactly}
use Rattle.tree.proofs.Facts.{leaf-exactly, list-exactly, value-exactly, db-exactly}
use Rattle.std.specs.Prelude.{Ok}

-- a test that is made only where a number is not 0
unless-zero : (n : ℕ) {v : Verdict} → cond (eqb n 0) (Ok tt) v ≡ Ok tt → (n ≡ 0 → ⊥) → v ≡ Ok tt
unless-zero n e ne = rw (ne_eqb n 0 ne) at e

zero_or : (n : ℕ) {v : Verdict} → ((n ≡ 0 → ⊥) → v ≡ Ok tt) → cond (eqb n 0) (Ok tt) v ≡ Ok tt
zero_or n {v} f = by (eqb n 0) refl
  where
    by : (t : Bool) → eqb n 0 ≡ t → cond (eqb n 0) (Ok tt) v ≡ Ok tt
    by true e = rw e
    by false e = rw e (f (eqb-false n 0 e))

-- what stands passes its tests, by either rule that names the cells in use
module _ (r : Rule) (d m : List ℕ) (named : (o : Offset) → InUse d o → cell_fault r d m o ≡ Ok tt) where
  -- a cell, then a test of its data
  pub of-cell : (o : Offset) (t : Bool) (f : Flaw) → InUse d o → t ≡ true → cell_fault r d m o next unless t f ≡ Ok tt
  of-cell o t f u e = sound _ _ (named o u) (holds {t = t} f e)

  of_room : (o : Offset) (n : ℕ) → Room d o n → room_fault r d m o n ≡ Ok tt
  unfolding room_fault
  of_room o n r = of-cell o (leb n (length (data_at d o))) (flaw Record o) r.in_use (le-leb _ _ r.room)

  of-segments : (o : Offset) (n : ℕ) → Segmented d o n → segments_fault r d m o n ≡ Ok tt
  unfolding segments_fault segment_list_fault db_fault segment_fault
  of-segments o n s =
      sound _ _ (sound _ _ (of-cell o (is_db (data_at d o) n) (flaw Record o) s.in_use ((db-exactly (data_at d o) n).1 s.db)) (of_room _ _ s.list))
      (each_over (segment_fault r d m) (segments_of d o n) (λ x i. of_room x.at x.len (s.each x i)))

  pub of-data : (x : ValueData) → DataStands d x → data_fault r d m x ≡ Ok tt
  unfolding data_fault
  of-data (Inline at len) s = refl
  of-data (OneCell o len) s = zero_or len (λ ne. of_room o len (s ne))
  of-data (Segments o len) s = of-segments o len s

  module _ (minor : ℕ) where
    pub of-value : (v : Offset) → ValueStands d minor v → whole_value_fault r d m minor v ≡ Ok tt
    unfolding whole_value_fault value_fault
    of-value v s =
        sound _ _ (of-cell v (is_value (data_at d v)) (flaw Record v) s.in_use ((value-exactly (data_at d v)).1 s.record-good)) (of-data (data_in d minor v) s.held)

    pub of_values : (k : Key) → ValuesStand d minor k → values_fault r d m minor k ≡ Ok tt
    unfolding values_fault value_list_fault
    of_values k s =
        sound _ _ (zero_or k.values (λ ne. of_room _ _ (s.list ne)))
        (each_over (whole_value_fault r d m minor) (values_of d k) (λ v i. of-value v (s.each v i)))

  pub of-leaf : (o : Offset) → LeafStands d o → leaf_fault r d m o ≡ Ok tt
  unfolding leaf_fault
  of-leaf o s = of-cell o (is_leaf (data_at d o)) (flaw Record o) s.in_use ((leaf-exactly (data_at d o)).1 s.record-good)

  of-list : (o : Offset) → ListStands d o → list_fault r d m o ≡ Ok tt
  unfolding list_fault head_fault
  of-list o s =
      sound _ _ (of-cell o (is_list (data_at d o)) (flaw Record o) s.in_use ((list-exactly (data_at d o)).1 s.record-good)) (by (is_ri (data_at d o)) refl)
    where
      by : (t : Bool) → is_ri (data_at d o) ≡ t → cond (is_ri (data_at d o)) (fault_over (leaf_fault r d m) (leaves_of d o)) (Ok tt) ≡ Ok tt
      by true e = rw e (each_over (leaf_fault r d m) (leaves_of d o) (λ l i. of-leaf l (s.leaves ((signed-exactly (data_at d o) 114 105).0 e) l i)))
      by false e = rw e

  pub of-lists : (k : Key) → ((k.subkeys ≡ 0 → ⊥) → ListStands d k.list) → lists_fault r d m k ≡ Ok tt
  unfolding lists_fault
  of-lists k s = zero_or k.subkeys (λ ne. of-list k.list (s ne))

  pub of-key : (o : Offset) → InUse d o → is_key (data_at d o) ≡ true → key_fault r d m o ≡ Ok tt
  unfolding key_fault
  of-key o u e = of-cell o (is_key (data_at d o)) (flaw Record o) u e

-- what passes its tests by the map stands, on bins data that are tiled
module _ (d m : List ℕ) (tiles : BinsTile d 0) (mapped : Mapped d m) where
  -- a cell, then a test of its data: 11, or 12 there
  cell-of : (o : Offset) (t : Bool) (f : Flaw) → cell_fault Map d m o next unless t f ≡ Ok tt → InUse d o × (t ≡ true)
  cell-of o t f e = let x = both (cell_fault Map d m o) _ e in (sound-in-use d tiles m mapped o x.0, held t f x.1)

  room_of : (o : Offset) (n : ℕ) → room_fault Map d m o n ≡ Ok tt → Room d o n
  unfolding room_fault
  room_of o n e = let x = cell-of o (leb n (length (data_at d o))) (flaw Record o) e in record { in_use = x.0; room = leb-true _ _ x.1 }

  segments-of : (o : Offset) (n : ℕ) → segments_fault Map d m o n ≡ Ok tt → Segmented d o n
  unfolding segments_fault segment_list_fault db_fault segment_fault
  segments-of o n e =
      let x = both (segment_list_fault Map d m o n) _ e in
      let y = both (db_fault Map d m o n) _ x.0 in
      let z = cell-of o (is_db (data_at d o) n) (flaw Record o) y.0 in
      record {
        in_use = z.0;
        db = (db-exactly (data_at d o) n).0 z.1;
        list = room_of _ _ y.1;
        each = λ s i. room_of s.at s.len (over-each (segment_fault Map d m) (segments_of d o n) x.1 s i);
      }

  data_of : (x : ValueData) → data_fault Map d m x ≡ Ok tt → DataStands d x
  unfolding data_fault
  data_of (Inline at len) e = tt
  data_of (OneCell o len) e = λ ne. room_of o len (unless-zero len e ne)
  data_of (Segments o len) e = segments-of o len e

  module _ (minor : ℕ) where
    value_of : (v : Offset) → whole_value_fault Map d m minor v ≡ Ok tt → ValueStands d minor v
    unfolding whole_value_fault value_fault
    value_of v e =
        let x = both (value_fault Map d m v) _ e in
        let y = cell-of v (is_value (data_at d v)) (flaw Record v) x.0 in
        record { in_use = y.0; record-good = (value-exactly (data_at d v)).0 y.1; held = data_of (data_in d minor v) x.1 }

    pub values-of : (k : Key) → values_fault Map d m minor k ≡ Ok tt → namesake_fault d k ≡ Ok tt → ValuesStand d minor k
    unfolding values_fault value_list_fault
    values-of k e s =
        let x = both (value_list_fault Map d m k) _ e in
        record {
          list = λ ne. room_of _ _ (unless-zero k.values x.0 ne);
          each = λ v i. value_of v (over-each (whole_value_fault Map d m minor) (values_of d k) x.1 v i);
          distinct = (distinct-exactly d k).0 s;
        }

  leaf-of : (o : Offset) → leaf_fault Map d m o ≡ Ok tt → LeafStands d o
  unfolding leaf_fault
  leaf-of o e = let x = cell-of o (is_leaf (data_at d o)) (flaw Record o) e in record { in_use = x.0; record-good = (leaf-exactly (data_at d o)).0 x.1 }

  list_of : (o : Offset) → list_fault Map d m o ≡ Ok tt → ListStands d o
  unfolding list_fault head_fault
  list_of o e =
      let x = both (head_fault Map d m o) _ e in
      let y = cell-of o (is_list (data_at d o)) (flaw Record o) x.0 in
      record {
        in_use = y.0;
        record-good = (list-exactly (data_at d o)).0 y.1;
        leaves = λ r l i. leaf-of l (over-each (leaf_fault Map d m) (leaves_of d o) (rw ((signed-exactly (data_at d o) 114 105).1 r) at x.1) l i);
      }

  pub lists_of : (k : Key) → lists_fault Map d m k ≡ Ok tt → (k.subkeys ≡ 0 → ⊥) → ListStands d k.list
  unfolding lists_fault
  lists_of k e ne = list_of k.list (unless-zero k.subkeys e ne)

  pub key-of : (o : Offset) → key_fault Map d m o ≡ Ok tt → InUse d o × (is_key (data_at d o) ≡ true)
  unfolding key_fault
  key-of o e = cell-of o (is_key (data_at d o)) (flaw Record o) e
