-- How often the keys of a tree name each item of a table, and the first of them whose item is none of those marked. d is the bins data and m a map.
use Rattle.std.specs.Prelude.{◌≡◌, ℕ, zero, suc, ◌+◌, ◌%◌, ◌≤◌, Bool, cond, not, ◌&&◌, List, [], ◌∷◌, length, nat_lt, slice_index, slice_set, None, Ok, Option, Some}
use mathlib.Core.List.{Memᴰ}
use Rattle.fields.specs.declared.Offset.{Offset}
use Rattle.cells.specs.Rule.{Map}
use Rattle.cells.specs.Map.{is_marked}
use Rattle.cells.specs.Named.{data_at}
use Rattle.records.specs.declared.Child.{Child}
use Rattle.records.specs.Keys.{key_of, security_of}
use Rattle.records.specs.Lists.{leaf_children, children, leaf_fault, lists_fault}
use Rattle.chains.specs.Chains.{find_in, Chained}
use Rattle.security_pass.specs.declared.Pass.{Pass}

-- what a pass over a tree of at most so many levels may read: each key's record has room, its lists were found sound by some map, and so below
pub data Legible (d : List ℕ) : ℕ → Offset → Type 0 where
  key : {n : ℕ} {at : Offset} (m : List ℕ) → 76 ≤ length (data_at d at) → lists_fault Map d m (key_of d at) ≡ Ok tt
      → ((c : Child) → Memᴰ c (children d at) → Legible d n c.at) → Legible d (suc n) at

-- a leaf of such a tree
pub record LegibleLeaf (d : List ℕ) (n : ℕ) (o : Offset) : Type 0 where
  pub map : List ℕ
  pub sound : leaf_fault Map d map o ≡ Ok tt
  pub below : (c : Child) → Memᴰ c (leaf_children (data_at d o)) → Legible d n c.at

-- a table that is ready, with a count for each of its numbers
pub record Ready (table older heads counts : List ℕ) (n : ℕ) : Type 0 where
  pub chained : Chained table older heads n
  pub room : n ≤ length counts

-- the counts with one more at a place; place 0 is none
unfoldable pub bump : List ℕ → ℕ → List ℕ
bump cs zero = cs
bump cs (suc i) = slice_set cs i ((slice_index cs i + 1) % 4294967296)

-- one key more: a pass that seeks counts nothing
unfoldable pub visited : List ℕ → List ℕ → Pass → List ℕ → Offset → List ℕ
visited d table w cs k = cond w.seek cs (bump cs (find_in table (security_of d k).0 w.items))

unfoldable pub counted_all : List ℕ → List ℕ → Pass → List ℕ → List Offset → List ℕ
counted_all d table w cs [] = cs
counted_all d table w cs (k ∷ ks) = counted_all d table w (visited d table w cs k) ks

-- an offset that names no item of the ring: not below the bins size, or its bit is not set
unfoldable pub is_off : List ℕ → List ℕ → Offset → Bool
is_off d m o = not (nat_lt o.0 (length d) && is_marked m o.0)

-- whether a pass ends at a key: a pass that counts ends at none
unfoldable pub ends : List ℕ → List ℕ → Pass → Offset → Bool
ends d m w k = w.seek && is_off d m (security_of d k)

unfoldable pub sought_in : List ℕ → List ℕ → Pass → List Offset → Option Offset
sought_in d m w [] = None
sought_in d m w (k ∷ ks) = cond (ends d m w k) (Some k) (sought_in d m w ks)
