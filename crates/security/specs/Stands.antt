-- What a sound list of security items is, said without an order of tests: "From the root's item the forward links must come back to it, each naming an
-- item whose backward link names it back, every key's item must lie on that ring, and each count must equal the number of reached keys that name the
-- item." d is the bins data and ks the keys of the tree.
use Rattle.std.specs.Prelude.{ℕ, ◌+◌, ◌≤◌, ◌≡◌, length}
use mathlib.Core.List.{List, [], ◌∷◌, Memᴰ}
use Rattle.fields.specs.declared.Offset.{Offset}
use Rattle.cells.specs.Named.{data_at}
use Rattle.cells.specs.Tiled.{InUse}
use Rattle.records.specs.Facts.{Signed}
use Rattle.records.specs.Keys.{security_of}
use Rattle.records.specs.Listed.{Once}
use Rattle.security.specs.Items.{item_of, named_by}

-- "a cell in use with "sk" and all 20 bytes before the descriptor"
pub record IsItem (d : List ℕ) (o : Offset) : Type 0 where
  pub in_use : InUse d o
  pub sk : Signed (data_at d o) 115 107
  pub fields_fit : 20 ≤ length (data_at d o)

-- "its descriptor's room"
abbrev pub Roomy : List ℕ → Offset → Type 0
Roomy d o = 20 + (item_of d o).size ≤ length (data_at d o)

-- "each count must equal the number of reached keys that name the item"
abbrev pub Counted : List ℕ → List Offset → Offset → Type 0
Counted d ks o = (item_of d o).count ≡ named_by d ks o

-- an item with room and the right count
pub record ItemStands (d : List ℕ) (ks : List Offset) (o : Offset) : Type 0 where
  pub item : IsItem d o
  pub room : Roomy d o
  pub count : Counted d ks o

-- one item's forward link names another, whose backward link names it back
pub record Link (d : List ℕ) (o p : Offset) : Type 0 where
  pub forward : (item_of d o).forward ≡ p
  pub backward : (item_of d p).backward ≡ o

-- each item's forward link names the next one, and the last one's the first
pub data Ring (d : List ℕ) (first : Offset) : List Offset → Type 0 where
  closes : {o : Offset} → Link d o first → Ring d first (o ∷ [])
  goes_on : {o p : Offset} {os : List Offset} → Link d o p → Ring d first (p ∷ os) → Ring d first (o ∷ p ∷ os)

-- the whole: the items of the root's ring, none of them twice
pub record SecurityStands (d : List ℕ) (root : Offset) (ks : List Offset) : Type 0 where
  pub items : List Offset
  pub others : List Offset
  pub begins : items ≡ security_of d root ∷ others
  pub once : Once items
  pub each : (o : Offset) → Memᴰ o items → ItemStands d ks o
  pub ring : Ring d (security_of d root) items
  pub all : (k : Offset) → Memᴰ k ks → Memᴰ (security_of d k) items
