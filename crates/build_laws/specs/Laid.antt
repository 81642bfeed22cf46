-- A forest that stands in the bins data d, cell by cell: each key and each value is read there as the forest has it. S is the offset of the security item.
use Rattle.std.specs.Prelude.{ℕ, suc, ◌+◌, ◌*◌, ◌<◌, ◌≡◌, List, [], ◌∷◌, length}
use Rattle.cells.specs.Named.{data_at}
use Rattle.cells.specs.Tiled.{InUse}
use Rattle.records.specs.Facts.{KeyRecord}
use Rattle.records.specs.Keys.{key_of, security_of}
use Rattle.records.specs.Lists.{children}
use Rattle.values.specs.Lists.{values_of}
use Rattle.namesakes.specs.Namesakes.{called_at}
use Rattle.tree.specs.Tree.{name_at}
use Rattle.tree.specs.WellFormed.{Room, ValueStands, ListStands}
use Rattle.stream.specs.Stream.{open_frame, value_frame}
use Rattle.forest.specs.Forest.{Item, Forest, none, more, count_of, key_frame, item_frame}
use Rattle.forest.specs.Allowed.{KeyAllowed}
use Rattle.layout.specs.Layout.{value_size, values_at, below_at, beside_at}
use Rattle.build_laws.specs.Written.{items_at, children_at}

-- a value, with its data
pub record ValueLaid (d : List ℕ) (v : Item) (at : ℕ) : Type 0 where
  pub stands : ValueStands d 5 (record { 0 = at })
  pub called : called_at d (record { 0 = at }) ≡ v.name
  pub framed : value_frame d 5 (record { 0 = at }) ≡ item_frame v

pub data ValuesLaid (d : List ℕ) : List Item → ℕ → Type 0 where
  no-values : {at : ℕ} → ValuesLaid d [] at
  value : {v : Item} {vs : List Item} {at : ℕ} → ValueLaid d v at → ValuesLaid d vs (at + value_size v) → ValuesLaid d (v ∷ vs) at

-- a key by itself: its record, its values and its lists
pub record KeyLaid (d : List ℕ) (S s : ℕ) (x : List ℕ) (vs : List Item) (b : Forest) (at parent : ℕ) : Type 0 where
  pub allowed : KeyAllowed s x vs b
  pub in_use : InUse d (record { 0 = at })
  pub record-good : KeyRecord (data_at d (record { 0 = at }))
  pub names_parent : (key_of d (record { 0 = at })).parent.0 ≡ parent
  pub values-many : (key_of d (record { 0 = at })).values ≡ length vs
  pub subkeys-many : (key_of d (record { 0 = at })).subkeys ≡ count_of b
  pub named : name_at d (record { 0 = at }) ≡ x
  pub secured : security_of d (record { 0 = at }) ≡ record { 0 = S }
  pub opens : open_frame d (record { 0 = at }) ≡ key_frame s x
  pub values-are : values_of d (key_of d (record { 0 = at })) ≡ items_at vs (values_at x at)
  pub list : 0 < length vs → Room d (key_of d (record { 0 = at })).value_list (4 * length vs)
  pub each : ValuesLaid d vs (values_at x at)
  pub children-are : children d (record { 0 = at }) ≡ children_at b (below_at x vs at)
  pub leaf : 0 < count_of b → ListStands d (key_of d (record { 0 = at })).list

-- the keys side by side from an offset on, with all that is below them, of at most so many levels; the parent of each is the key at another offset
pub data Laid (d : List ℕ) (S : ℕ) : ℕ → Forest → ℕ → ℕ → Type 0 where
  no_keys : {n at parent : ℕ} → Laid d S n none at parent
  key : {n s : ℕ} {x : List ℕ} {vs : List Item} {b r : Forest} {at parent : ℕ} → KeyLaid d S s x vs b at parent → Laid d S n b (below_at x vs at) at
      → Laid d S (suc n) r (beside_at x vs b at) parent → Laid d S (suc n) (more s x vs b r) at parent
