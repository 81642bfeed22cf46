-- Why a hive's security items are refused, 28, and why the descriptor of one is, 11 and 12. d is the bins data and ks the keys of the tree.
use Rattle.std.specs.Prelude.{ℕ, ◌≤◌, ◌≡◌, length}
use mathlib.Core.List.{List, Memᴰ}
use Rattle.fields.specs.declared.Fault.TheVariants.{NoCell, Record, Security}
use Rattle.fields.specs.declared.Flaw.{Flaw}
use Rattle.fields.specs.declared.Offset.{Offset}
use Rattle.fields.specs.Faults.{flaw}
use Rattle.cells.specs.Rule.{Rule}
use Rattle.cells.specs.Named.{data_at}
use Rattle.cells.specs.Refused.{UsedBy}
use Rattle.records.specs.Facts.{Signed}
use Rattle.records.specs.Keys.{security_of}
use Rattle.security.specs.Items.{item_of}
use Rattle.security.specs.Stands.{IsItem, Roomy, Counted}

-- an item's forward link: "naming an item whose backward link names it back"
pub record LinkStands (d : List ℕ) (o : Offset) : Type 0 where
  pub item : IsItem d (item_of d o).forward
  pub back : (item_of d (item_of d o).forward).backward ≡ o

-- the items that the ring comes to, from the first on along such links
pub data OnRing (d : List ℕ) (first : Offset) : Offset → Type 0 where
  the-first : IsItem d first → OnRing d first first
  the-next : {o : Offset} → OnRing d first o → LinkStands d o → OnRing d first (item_of d o).forward

-- the key under examination, and the flaw
pub data OfSecurity (d : List ℕ) (root : Offset) (ks : List Offset) : Offset → Flaw → Type 0 where
  -- "first the root's own offset (place: root)"
  no_item : (IsItem d (security_of d root) → ⊥) → OfSecurity d root ks root (flaw Security root)
  -- "then items in ring order, each for its descriptor's room, forward link and count (place: that item)", with the root as the key
  no_room : {o : Offset} → OnRing d (security_of d root) o → (Roomy d o → ⊥) → OfSecurity d root ks root (flaw Security o)
  no-link : {o : Offset} → OnRing d (security_of d root) o → (LinkStands d o → ⊥) → OfSecurity d root ks root (flaw Security o)
  other-count : {o : Offset} → OnRing d (security_of d root) o → (Counted d ks o → ⊥) → OfSecurity d root ks root (flaw Security o)
  -- "then keys in walk order whose offset is off the ring (place: key)", with that key
  off-ring : {k : Offset} → Memᴰ k ks → (OnRing d (security_of d root) (security_of d k) → ⊥) → OfSecurity d root ks k (flaw Security k)

-- what the descriptor of an item asks of the cell's data alone: "sk", all 20 bytes before the descriptor, and its room
pub record HasDescriptor (d : List ℕ) (o : Offset) : Type 0 where
  pub sk : Signed (data_at d o) 115 107
  pub fields_fit : 20 ≤ length (data_at d o)
  pub room : Roomy d o

-- the item at an offset, to a call's rule
pub data OfDescriptor (rule : Rule) (d : List ℕ) (o : Offset) : Flaw → Type 0 where
  -- 11: "offset names no cell in use", at that offset
  no_cell : (UsedBy rule d o → ⊥) → OfDescriptor rule d o (flaw NoCell o)
  -- 12, at the item
  no-descriptor : UsedBy rule d o → (HasDescriptor d o → ⊥) → OfDescriptor rule d o (flaw Record o)
