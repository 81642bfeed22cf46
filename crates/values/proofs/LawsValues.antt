-- What the crates above may know of a value: what its tests say, which faults they have, and that lookup, by the cells' own headers, meets no fault
-- where the check, by the map, met none.
use Prim.Native.Nat.{ℕ, ◌+◌, ◌-◌, ◌*◌, ◌<◌, ◌≤◌}
use native.Mathlib.Omega.{arith}
use mathlib.Core.Path.{◌≡◌, refl, sym, ◌∙◌}
use mathlib.Core.Bool.{Bool, true, false, cond}
use mathlib.Core.List.{List, []}
use lib.Dec.{eqb, leb, ltb}
use lib.ListN.{length}
use borrow.Author.Tests.{leb-true, leb-false, ltb-true}
use Rattle.fields.specs.declared.Offset.{Offset}
use Rattle.fields.specs.Number.{u32_at}
use Rattle.fields.proofs.Bools.{and-inv}
use Rattle.cells.specs.Rule.{Rule, Header}
use Rattle.cells.specs.Named.{data_at}
use Rattle.records.specs.Keys.{NameIn}
use Rattle.records.specs.Offsets.{offset_at}
use Rattle.values.specs.declared.ValueData.{ValueData}
use Rattle.values.specs.declared.ValueData.TheVariants.{Inline, OneCell, Segments}
use Rattle.values.specs.Records.{segment_size, data_limit, top_bit, is_data_size, is_value, value_fault, is_segmented, content_of, data_in, fields_of, value_of}
use Rattle.values.specs.Segments.{room_fault, segments_for, is_db, db_fault, segment_list, segments_of, segment_fault, segment_list_fault, segments_fault, data_fault}
use Rattle.values.specs.Terms.{Lies}
use Rattle.values.proofs.Cell_tests.{carries-next, carries_over, says, by-header}
use Rattle.values.proofs.Tests.{Kept, kept}
use Rattle.std.specs.Prelude.{Ok}

-- ---- what is known of a value that passes

value-says : (rule : Rule) (d m : List ℕ) (v : Offset) → value_fault rule d m v ≡ Ok tt → Kept (data_at d v)
unfolding value_fault
value-says rule d m v e = kept (data_at d v) (says is_value rule d m v e)

-- a data size: inline at most 4, else at most 1,048,576
pub inline-size : (size : ℕ) → is_data_size size ≡ true → top_bit ≤ size → size - top_bit ≤ 4
unfolding is_data_size
inline-size size e p = by (leb top_bit size) refl e
  where
    by : (t : Bool) → leb top_bit size ≡ t → cond t (leb (size - top_bit) 4) (leb size data_limit) ≡ true → size - top_bit ≤ 4
    by true f g = leb-true (size - top_bit) 4 g
    by false f g = absurd (let q = leb-false top_bit size f in omega arith)

pub other-size : (size : ℕ) → is_data_size size ≡ true → size < top_bit → size ≤ data_limit
unfolding is_data_size
other-size size e p = by (leb top_bit size) refl e
  where
    by : (t : Bool) → leb top_bit size ≡ t → cond t (leb (size - top_bit) 4) (leb size data_limit) ≡ true → size ≤ data_limit
    by true f g = absurd (let q = leb-true top_bit size f in omega arith)
    by false f g = leb-true size data_limit g

-- the three cases, each with its bounds, of the data of the value at an offset
pub data Cased (d : List ℕ) (minor : ℕ) (v : Offset) : Type 0 where
  inline : (n : ℕ) → n ≤ 4 → data_in d minor v ≡ Inline v n → Cased d minor v
  one_cell : (o : Offset) (n : ℕ) → n ≤ data_limit → data_in d minor v ≡ OneCell o n → Cased d minor v
  segments : (o : Offset) (n : ℕ) → segment_size < n → n ≤ data_limit → 4 ≤ minor → data_in d minor v ≡ Segments o n → Cased d minor v

module _ (rule : Rule) (d m : List ℕ) (minor : ℕ) (v : Offset) (s : value_fault rule d m v ≡ Ok tt) where
  cased : Cased d minor v
  unfolding data_in content_of is_segmented
  cased = by (leb top_bit size) refl (is_segmented minor size) refl
    where
      r : List ℕ
      r = data_at d v

      size : ℕ
      size = u32_at r 4

      is-size : is_data_size size ≡ true
      is-size = (value-says rule d m v s).size

      by : (t : Bool) → leb top_bit size ≡ t → (g : Bool) → is_segmented minor size ≡ g → Cased d minor v
      by true e g f = inline (size - top_bit) (inline-size size is-size (leb-true top_bit size e)) (rw e)
      by false e true f =
          let a = and-inv (ltb segment_size size) (leb 4 minor) f in
          segments (offset_at r 8) size (ltb-true segment_size size a.0) (other-size size is-size (leb-false top_bit size e)) (leb-true 4 minor a.1) (rw (e, f))
      by false e false f = one_cell (offset_at r 8) size (other-size size is-size (leb-false top_bit size e)) (rw (e, f))

  -- inline data lie inside the record
  inline-inside : (w : Offset) (n : ℕ) → data_in d minor v ≡ Inline w n → 8 + n ≤ length (data_at d w)
  inline-inside w n i = by cased
    where
      long : 20 ≤ length (data_at d v)
      long = (value-says rule d m v s).long

      by : Cased d minor v → 8 + n ≤ length (data_at d w)
      by (inline k p e) = let q : Inline v k ≡ Inline w n = sym e ∙ i in let a : v ≡ w = cc in let b : k ≡ n = cc in rw (← a) (omega (arith, long))
      by (one_cell o k p e) = let z : ◌≡◌ {A = ℕ} 0 1 = cc in absurd (omega arith)
      by (segments o k p q l e) = let z : ◌≡◌ {A = ℕ} 0 1 = cc in absurd (omega arith)

  -- "name at 20": the name lies in the record's cell
  pub name-inside : NameIn d (value_of d minor v).name
  unfolding value_of fields_of
  name-inside = record { some = omega arith; ends = (value-says rule d m v s).room }

-- ---- what is sound by either rule is sound by the cells' own headers, with any map

module _ (rule : Rule) (d m n : List ℕ) where
  header-room : (o : Offset) (k : ℕ) → room_fault rule d m o k ≡ Ok tt → room_fault Header d n o k ≡ Ok tt
  unfolding room_fault
  header-room o k = by-header (λ r. leb k (length r)) rule d m o n

  header-list : (o : Offset) (size : ℕ) → segment_list_fault rule d m o size ≡ Ok tt → segment_list_fault Header d n o size ≡ Ok tt
  unfolding segment_list_fault db_fault
  header-list o size =
      carries-next _ _ _ _ (by-header (λ r. is_db r size) rule d m o n) (header-room (segment_list d o) (4 * segments_for size))

  header-segments : (o : Offset) (size : ℕ) → segments_fault rule d m o size ≡ Ok tt → segments_fault Header d n o size ≡ Ok tt
  unfolding segments_fault segment_fault
  header-segments o size =
      carries-next _ _ _ _ (header-list o size)
      (carries_over (segment_fault rule d m) (segment_fault Header d n) (segments_of d o size) (λ s. header-room s.at s.len))

  header-data : (x : ValueData) → data_fault rule d m x ≡ Ok tt → data_fault Header d n x ≡ Ok tt
  unfolding data_fault
  header-data (Inline v len) e = refl
  header-data (OneCell o len) e = by (eqb len 0) e
    where
      by : (t : Bool) → cond t (Ok tt) (room_fault rule d m o len) ≡ Ok tt → cond t (Ok tt) (room_fault Header d n o len) ≡ Ok tt
      by true e = refl
      by false e = header-room o len e
  header-data (Segments o len) e = header-segments o len e

-- ---- what a copy and a view ask

pub lies : (rule : Rule) (d m : List ℕ) (minor : ℕ) (v : Offset) → value_fault rule d m v ≡ Ok tt
    → (other : Rule) (n : List ℕ) → data_fault other d n (data_in d minor v) ≡ Ok tt → Lies d (data_in d minor v)
lies rule d m minor v s other n e = record { inside = inline-inside rule d m minor v s; sound = header-data other d n [] (data_in d minor v) e }
