-- The keys of a tree, in the order in which they are met.
use Rattle.std.specs.Prelude.{ℕ, zero, suc}
use mathlib.Core.List.{List, [], ◌∷◌, ◌++◌, Memᴰ}
use Rattle.fields.specs.declared.Offset.{Offset}
use Rattle.records.specs.declared.Child.{Child}
use Rattle.records.specs.Lists.{children}

-- "in an accepted hive a pre-order listing gives every key the tree holds, each cell exactly once": a key, and then its children's listings, joined in list
-- order. Of a tree with so many levels.
unfoldable pub joined : (Offset → List Offset) → List Child → List Offset
joined f [] = []
joined f (c ∷ cs) = f c.at ++ joined f cs

unfoldable pub keys_in : List ℕ → ℕ → Offset → List Offset
keys_in d zero at = []
keys_in d (suc n) at = at ∷ joined (keys_in d n) (children d at)

-- a list that holds no key twice
pub data Once : List Offset → Type 0 where
  nil : Once []
  cons : {c : Offset} {cs : List Offset} → (Memᴰ c cs → ⊥) → Once cs → Once (c ∷ cs)
