-- Each test of a cell refuses it because it is not fit for what it is read as; and the tests of a key's lists, of its values and of their data refuse
-- one of the cells that they name. By either rule that names exactly the cells in use.
use Prim.Native.Nat.{ℕ, ◌*◌}
use native.Mathlib.Omega.{arith}
use mathlib.Core.Path.{◌≡◌, refl, sym, ◌∙◌}
use mathlib.Core.Bool.{Bool, true, false}
use mathlib.Core.List.Memᴰ
use mathlib.Core.List.{List, Memᴰ}
use lib.Dec.{eqb}
use borrow.Author.Tests.{eqb-false}
use Rattle.fields.specs.declared.Fault.TheVariants.{Record}
use Rattle.fields.specs.declared.Offset.{Offset}
use Rattle.fields.specs.Faults.{flaw}
use Rattle.fields.proofs.Every.{Every, every-sound, every-next, every-unless, every-cond, every-over}
use Rattle.fields.proofs.Firsts.{both, held}
use Rattle.cells.specs.Rule.{Rule}
use Rattle.cells.specs.Named.{cell_fault, data_at}
use Rattle.cells.proofs.Naming.{cell-fault-is}
use Rattle.cells.proofs.Refusals.{Ruled}
use Rattle.records.specs.Keys.{key_fault, key_of}
use Rattle.records.specs.Lists.{is_ri, leaves_of, leaf_fault, head_fault, list_fault, lists_fault}
use Rattle.values.specs.declared.ValueData.{ValueData}
use Rattle.values.specs.declared.ValueData.TheVariants.{Inline, OneCell, Segments}
use Rattle.values.specs.Records.{value_fault}
use Rattle.values.specs.Segments.{room_fault, segments_for, db_fault, segment_list, segments_of, segment_fault, segment_list_fault, segments_fault, data_fault}
use Rattle.values.specs.Lists.{values_of, value_list_fault}
use Rattle.values.specs.Refused.{Role, a_key, a-list, a-leaf, a-value, a-db, room_for, passes, Fit, Unfit, no_cell, no_record, Among, one_of, Lists, its-list, its-leaf, Values, its-values, its-value, Data, in_cell, in-db, in_list, in-segment}
use Rattle.values.proofs.Cell_tests.{test_fault}
use Rattle.std.specs.Prelude.{Err, Ok}

module _ (rule : Rule) (d m : List ℕ) (ruled : Ruled rule d m) where
  -- a cell, then a test of its data
  fit : (w : Role) (o : Offset) → test_fault (passes w) rule d m o ≡ Ok tt → Fit rule d w o
  fit w o e =
      let s = both (cell_fault rule d m o) _ e in
      record { used = ruled.sound-used o s.0; passing = held (passes w (data_at d o)) (flaw Record o) s.1 }

  unfit : (w : Role) (o : Offset) → Every (Unfit rule d w o) (test_fault (passes w) rule d m o)
  unfit w o =
      every-next (Unfit rule d w o) (cell_fault rule d m o) _
      (λ f e. rw (cell-fault-is rule d m o e) (no_cell (λ u. let z : (Ok tt) ≡ Err f = sym (ruled.used_sound o u) ∙ e in absurd (let y : ◌≡◌ {A = ℕ} 0 1 = cc in omega arith))))
      (λ s. every-unless (Unfit rule d w o) (passes w (data_at d o)) (flaw Record o) (no_record (ruled.sound-used o s)))

  -- by name
  pub key-fit : (o : Offset) → key_fault rule d m o ≡ Ok tt → Fit rule d a_key o
  unfolding key_fault
  key-fit o = fit a_key o

  pub key-unfit : (o : Offset) → Every (Unfit rule d a_key o) (key_fault rule d m o)
  unfolding key_fault
  key-unfit o = unfit a_key o

  pub list-fit : (o : Offset) → head_fault rule d m o ≡ Ok tt → Fit rule d a-list o
  unfolding head_fault
  list-fit o = fit a-list o

  pub list-unfit : (o : Offset) → Every (Unfit rule d a-list o) (head_fault rule d m o)
  unfolding head_fault
  list-unfit o = unfit a-list o

  pub leaf-unfit : (o : Offset) → Every (Unfit rule d a-leaf o) (leaf_fault rule d m o)
  unfolding leaf_fault
  leaf-unfit o = unfit a-leaf o

  pub value-fit : (o : Offset) → value_fault rule d m o ≡ Ok tt → Fit rule d a-value o
  unfolding value_fault
  value-fit o = fit a-value o

  pub value-unfit : (o : Offset) → Every (Unfit rule d a-value o) (value_fault rule d m o)
  unfolding value_fault
  value-unfit o = unfit a-value o

  room-fit : (o : Offset) (n : ℕ) → room_fault rule d m o n ≡ Ok tt → Fit rule d (room_for n) o
  unfolding room_fault
  room-fit o n = fit (room_for n) o

  room-unfit : (o : Offset) (n : ℕ) → Every (Unfit rule d (room_for n) o) (room_fault rule d m o n)
  unfolding room_fault
  room-unfit o n = unfit (room_for n) o

  -- the lists of a key
  pub lists-unfit : (k : Offset) → Every (Among rule d (Lists rule d k)) (lists_fault rule d m (key_of d k))
  unfolding lists_fault list_fault
  lists-unfit k =
      let o = (key_of d k).list in
      let P = Among rule d (Lists rule d k) in
      every-cond P (eqb (key_of d k).subkeys 0) (Ok tt) _ (λ z. every-sound P) (λ z.
      every-next P (head_fault rule d m o) _ (λ f e. one_of (its-list (eqb-false _ _ z)) (list-unfit o f e)) (λ s.
      every-cond P (is_ri (data_at d o)) _ (Ok tt)
      (λ r. every-over P (leaf_fault rule d m) (leaves_of d o) (λ l i f e. one_of (its-leaf (eqb-false _ _ z) (list-fit o s) i) (leaf-unfit l f e)))
      (λ r. every-sound P)))

  -- its value list
  pub value-list-unfit : (k : Offset) → Every (Among rule d (Values rule d k)) (value_list_fault rule d m (key_of d k))
  unfolding value_list_fault
  value-list-unfit k =
      let P = Among rule d (Values rule d k) in
      every-cond P (eqb (key_of d k).values 0) (Ok tt) _ (λ z. every-sound P)
      (λ z f e. one_of (its-values (eqb-false _ _ z)) (room-unfit (key_of d k).value_list (4 * (key_of d k).values) f e))

  pub value-named : (k v : Offset) → value_list_fault rule d m (key_of d k) ≡ Ok tt → Memᴰ v (values_of d (key_of d k)) → Values rule d k a-value v
  unfolding value_list_fault values_of
  value-named k v e i = by (eqb (key_of d k).values 0) refl
    where
      by : (t : Bool) → eqb (key_of d k).values 0 ≡ t → Values rule d k a-value v
      by true z = absurd (Memᴰ.not-nil (rw z at i))
      by false z = its-value (room-fit (key_of d k).value_list (4 * (key_of d k).values) (rw z at e)) i

  -- a value's data
  segments-unfit : (o : Offset) (n : ℕ) → Every (Among rule d (Data rule d (Segments o n))) (segments_fault rule d m o n)
  unfolding segments_fault segment_list_fault segment_fault db_fault
  segments-unfit o n =
      let P = Among rule d (Data rule d (Segments o n)) in
      every-next P (segment_list_fault rule d m o n) _
      (every-next P (db_fault rule d m o n) _ (λ f e. one_of in-db (unfit (a-db n) o f e))
      (λ s f e. one_of (in_list (fit (a-db n) o s)) (room-unfit (segment_list d o) (4 * segments_for n) f e)))
      (λ s. every-over P (segment_fault rule d m) (segments_of d o n)
      (λ x i f e. one_of (in-segment (room-fit (segment_list d o) (4 * segments_for n) (both (db_fault rule d m o n) _ s).1) i) (room-unfit x.at x.len f e)))

  pub data-unfit : (x : ValueData) → Every (Among rule d (Data rule d x)) (data_fault rule d m x)
  unfolding data_fault
  data-unfit (Inline at len) = every-sound (Among rule d (Data rule d (Inline at len)))
  data-unfit (OneCell o len) =
      let P = Among rule d (Data rule d (OneCell o len)) in
      every-cond P (eqb len 0) (Ok tt) _ (λ z. every-sound P) (λ z f e. one_of (in_cell (eqb-false _ _ z)) (room-unfit o len f e))
  data-unfit (Segments o len) = segments-unfit o len
