-- What a well formed hive is, said without the order of tests and without the walk: "cells tile the bins, and the keys reached from the root form a
-- sorted tree", and the security items. d is the bins data.
use Rattle.std.specs.Prelude.{◌≡◌, ℕ, suc, ◌+◌, ◌*◌, ◌≤◌, true, List, [], ◌∷◌, length, ◌≢◌}
use mathlib.Core.List.{Memᴰ}
use Rattle.fields.specs.declared.Offset.{Offset}
use Rattle.base.specs.Block.{sector, bins_of, clean, bins_data}
use Rattle.cells.specs.Named.{data_at}
use Rattle.cells.specs.Tiled.{BinsTile, InUse}
use Rattle.names.specs.Comparison.{compare}
use Rattle.names.specs.Hashing.{hash_of}
use Rattle.names.specs.Hints.{fits_hint}
use Rattle.records.specs.declared.Child.{Child}
use Rattle.records.specs.declared.Key.{Key}
use Rattle.records.specs.Keys.{key_of}
use Rattle.records.specs.Lists.{leaves_of, children}
use Rattle.values.specs.declared.Segment.{Segment}
use Rattle.values.specs.declared.ValueData.{ValueData}
use Rattle.values.specs.declared.ValueData.TheVariants.{Inline, OneCell, Segments}
use Rattle.values.specs.Records.{data_in}
use Rattle.values.specs.Segments.{segments_for, segment_list, segments_of}
use Rattle.values.specs.Lists.{values_of}
use Rattle.namesakes.specs.Namesakes.{Distinct}
use Rattle.security.specs.Stands.{SecurityStands}
use Rattle.tree.specs.declared.Hive.{Hive}
use Rattle.records.specs.Facts.{Signed, KeyRecord}
use Rattle.tree.specs.Facts.{LeafRecord, ListRecord, ValueRecord, DbRecord}
use Rattle.tree.specs.Tree.{name_at, levels, hive_of, keys_of}
use Rattle.std.specs.declared.cmp.Ordering.TheVariants.{Less}

-- an offset names a cell in use with room for so many bytes
pub record Room (d : List ℕ) (o : Offset) (n : ℕ) : Type 0 where
  pub in_use : InUse d o
  pub room : n ≤ length (data_at d o)

-- "Over 16,344 with minor 4 or 5: the cell holds `db`, segment count at 2, offset of the segment list at 4; count is size / 16,344 rounded up, each
-- segment but the last holds 16,344 bytes."
pub record Segmented (d : List ℕ) (o : Offset) (size : ℕ) : Type 0 where
  pub in_use : InUse d o
  pub db : DbRecord (data_at d o) (segments_for size)
  pub list : Room d (segment_list d o) (4 * segments_for size)
  pub each : (s : Segment) → Memᴰ s (segments_of d o size) → Room d s.at s.len

-- "size 0 reads nothing"
abbrev pub DataStands : List ℕ → ValueData → Type 0
DataStands d (Inline at len) = Unit
DataStands d (OneCell o len) = (len ≢ 0) → Room d o len
DataStands d (Segments o len) = Segmented d o len

pub record ValueStands (d : List ℕ) (minor : ℕ) (v : Offset) : Type 0 where
  pub in_use : InUse d v
  pub record-good : ValueRecord (data_at d v)
  pub held : DataStands d (data_in d minor v)

-- the values of a key, of which "no two values of a key have the same name"
pub record ValuesStand (d : List ℕ) (minor : ℕ) (k : Key) : Type 0 where
  pub list : (k.values ≢ 0) → Room d k.value_list (4 * k.values)
  pub each : (v : Offset) → Memᴰ v (values_of d k) → ValueStands d minor v
  pub distinct : Distinct d k

pub record LeafStands (d : List ℕ) (o : Offset) : Type 0 where
  pub in_use : InUse d o
  pub record-good : LeafRecord (data_at d o)

-- the list of a key: a leaf, or an `ri` of leaves
pub record ListStands (d : List ℕ) (o : Offset) : Type 0 where
  pub in_use : InUse d o
  pub record-good : ListRecord (data_at d o)
  pub leaves : Signed (data_at d o) 114 105 → (l : Offset) → Memᴰ l (leaves_of d o) → LeafStands d l

-- a key by itself: its record, its values with their data, its lists and the total
pub record KeyStands (d : List ℕ) (minor : ℕ) (o : Offset) : Type 0 where
  pub in_use : InUse d o
  pub record-good : KeyRecord (data_at d o)
  pub values : ValuesStand d minor (key_of d o)
  pub lists : ((key_of d o).subkeys ≢ 0) → ListStands d (key_of d o).list
  pub total : length (children d o) ≡ (key_of d o).subkeys

-- "a subkey's parent field names the key that lists it, and no subkey is the root"; its hash in an `lh` is that of its name,
-- and its hint in an `lf`
pub record ChildStands (d : List ℕ) (root key : Offset) (c : Child) : Type 0 where
  pub parent : (key_of d c.at).parent.0 ≡ key.0
  pub other : c.at.0 ≡ root.0 → ⊥
  pub hash : c.hashed ≡ true → c.beside ≡ hash_of (name_at d c.at)
  pub hint : c.hinted ≡ true → fits_hint c.beside (name_at d c.at) ≡ true

-- "those of subkeys ascend strictly over all leaves of a key": each name before all later ones
pub data Ascends (d : List ℕ) : List Child → Type 0 where
  none : Ascends d []
  more : {c : Child} {cs : List Child} → ((e : Child) → Memᴰ e cs → compare (name_at d c.at) (name_at d e.at) ≡ Less)
      → Ascends d cs → Ascends d (c ∷ cs)

-- the keys reached from a key form a sorted tree of at most n levels, its own among them
pub data TreeStands (d : List ℕ) (hive : Hive) : ℕ → Offset → Type 0 where
  key : {n : ℕ} {at : Offset} → KeyStands d hive.minor at → Ascends d (children d at)
      → ((c : Child) → Memᴰ c (children d at) → ChildStands d hive.root at c)
      → ((c : Child) → Memᴰ c (children d at) → TreeStands d hive n c.at)
      → TreeStands d hive (suc n) at

-- the whole
pub record WellFormed (h : List ℕ) : Type 0 where
  pub tiled : BinsTile (bins_data h) 0
  pub tree : TreeStands (bins_data h) (hive_of h) levels (hive_of h).root
  -- ""Well formed" in demand 2 includes this from now on"
  pub security : SecurityStands (bins_data h) (hive_of h).root (keys_of h)

-- "a hive is accepted exactly when it is clean and well formed by the published regf description": clean, with its bins inside the file
pub record CleanAndWellFormed (h : List ℕ) : Type 0 where
  pub is-clean : clean (sector h) ≡ true
  pub inside : 4096 + bins_of (sector h) ≤ length h
  pub formed : WellFormed h
