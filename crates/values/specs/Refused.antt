-- Why a cell is refused that a key, a list or a value names: the table's rows 11 and 12. Each cell is read as something, and what names it was read
-- before. d is the bins data; the rule says which cells are in use.
use Rattle.std.specs.Prelude.{ℕ, ◌*◌, ◌≡◌, Bool, true, false, leb, length}
use mathlib.Core.List.{List, Memᴰ}
use Rattle.fields.specs.declared.Fault.TheVariants.{NoCell, Record}
use Rattle.fields.specs.declared.Flaw.{Flaw}
use Rattle.fields.specs.declared.Offset.{Offset}
use Rattle.fields.specs.Faults.{flaw}
use Rattle.cells.specs.Rule.{Rule}
use Rattle.cells.specs.Named.{data_at}
use Rattle.cells.specs.Refused.{UsedBy}
use Rattle.records.specs.declared.Child.{Child}
use Rattle.records.specs.Keys.{is_key, key_of}
use Rattle.records.specs.Lists.{is_list, is_leaf, leaves_of, children}
use Rattle.values.specs.declared.Segment.{Segment}
use Rattle.values.specs.declared.ValueData.{ValueData}
use Rattle.values.specs.declared.ValueData.TheVariants.{OneCell, Segments}
use Rattle.values.specs.Records.{is_value}
use Rattle.values.specs.Segments.{segments_for, is_db, segment_list, segments_of}
use Rattle.values.specs.Lists.{values_of}

-- what a cell is read as: a `db` of data of so many bytes, or so many bytes of a value list, a segment list, a segment or data
pub data Role : Type 0 where
  a_key : Role
  a-list : Role
  a-leaf : Role
  a-value : Role
  a-db : ℕ → Role
  room_for : ℕ → Role

-- the test of the data r of a cell that is read so
abbrev pub passes : Role → List ℕ → Bool
passes a_key r = is_key r
passes a-list r = is_list r
passes a-leaf r = is_leaf r
passes a-value r = is_value r
passes (a-db size) r = is_db r size
passes (room_for n) r = leb n (length r)

pub record Fit (rule : Rule) (d : List ℕ) (w : Role) (o : Offset) : Type 0 where
  pub used : UsedBy rule d o
  pub passing : passes w (data_at d o) ≡ true

pub data Unfit (rule : Rule) (d : List ℕ) (w : Role) (o : Offset) : Flaw → Type 0 where
  -- 11: "offset names no cell in use", at that offset
  no_cell : (UsedBy rule d o → ⊥) → Unfit rule d w o (flaw NoCell o)
  -- 12: "wrong signature, length, count or name", at the "cell at fault or too short"
  no_record : UsedBy rule d o → passes w (data_at d o) ≡ false → Unfit rule d w o (flaw Record o)

-- one of the cells that are named, each as something, is not fit for that
pub data Among (rule : Rule) (d : List ℕ) (named : Role → Offset → Type 0) : Flaw → Type 0 where
  one_of : {w : Role} {o : Offset} {f : Flaw} → named w o → Unfit rule d w o f → Among rule d named f

-- what the key at k names as its subkeys: its list, the leaves of that list, the keys in them
pub data Lists (rule : Rule) (d : List ℕ) (k : Offset) : Role → Offset → Type 0 where
  its-list : ((key_of d k).subkeys ≡ 0 → ⊥) → Lists rule d k a-list (key_of d k).list
  its-leaf : {l : Offset} → ((key_of d k).subkeys ≡ 0 → ⊥) → Fit rule d a-list (key_of d k).list → Memᴰ l (leaves_of d (key_of d k).list)
      → Lists rule d k a-leaf l
  its-child : {c : Child} → Memᴰ c (children d k) → Lists rule d k a_key c.at

-- what it names as its values: the value list, the values in it
pub data Values (rule : Rule) (d : List ℕ) (k : Offset) : Role → Offset → Type 0 where
  its-values : ((key_of d k).values ≡ 0 → ⊥) → Values rule d k (room_for (4 * (key_of d k).values)) (key_of d k).value_list
  its-value : {v : Offset} → Fit rule d (room_for (4 * (key_of d k).values)) (key_of d k).value_list → Memᴰ v (values_of d (key_of d k))
      → Values rule d k a-value v

-- what a value's record names as its data: nothing that is inline, one cell, or a `db`, its segment list and the segments in that
pub data Data (rule : Rule) (d : List ℕ) : ValueData → Role → Offset → Type 0 where
  in_cell : {o : Offset} {n : ℕ} → (n ≡ 0 → ⊥) → Data rule d (OneCell o n) (room_for n) o
  in-db : {o : Offset} {n : ℕ} → Data rule d (Segments o n) (a-db n) o
  in_list : {o : Offset} {n : ℕ} → Fit rule d (a-db n) o → Data rule d (Segments o n) (room_for (4 * segments_for n)) (segment_list d o)
  in-segment : {o : Offset} {n : ℕ} {s : Segment} → Fit rule d (room_for (4 * segments_for n)) (segment_list d o) → Memᴰ s (segments_of d o n)
      → Data rule d (Segments o n) (room_for s.len) s.at
