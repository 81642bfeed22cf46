-- The walk along the ring as the code makes it: a batch of items at a time, taken into a table. d is the bins data and m the work map.
use Rattle.std.specs.Prelude.{ℕ, zero, suc, ◌+◌, ◌≤◌, ◌<◌, ◌≡◌, cond, List, [], ◌∷◌, length, get_or}
use Rattle.fields.specs.declared.Offset.{Offset}
use Rattle.chains.specs.Chains.{Chained}
use Rattle.security.specs.declared.Batch.{Batch}
use Rattle.security.specs.declared.Batch.TheVariants.{Closed, Broken, More}
use Rattle.security.specs.Items.{item_of, is_joined, closes_at}

-- so many items along the forward links, from one on
unfoldable pub along : List ℕ → ℕ → Offset → List Offset
along d zero o = []
along d (suc n) o = o ∷ along d n (item_of d o).forward

-- where so many steps lead
unfoldable pub onward : List ℕ → ℕ → Offset → Offset
onward d zero o = o
onward d (suc n) o = onward d n (item_of d o).forward

-- from an item on, with room for so many, and n in the table: until the ring closes, an item's room or link is at fault, or the table is full
unfoldable pub gathered : List ℕ → List ℕ → Offset → ℕ → ℕ → Offset → Batch
gathered d m first zero n o = More n o
gathered d m first (suc room) n o =
    cond (is_joined d m o) (cond (closes_at d first o) (Closed (suc n)) (gathered d m first room (suc n) (item_of d o).forward)) (Broken n o)

-- how many of them stand in the table
abbrev pub taken : Batch → ℕ
taken (Closed n) = n
taken (Broken n o) = n
taken (More n o) = n

-- the first n numbers of a table are the offsets of the items from one on
abbrev pub HoldsFrom : List ℕ → List ℕ → ℕ → Offset → Type 0
HoldsFrom d ks n o = (i : ℕ) → i < n → get_or ks i 0 ≡ (onward d i o).0

-- a table with nothing in it yet, and room for links and places
pub record Empty (ks older heads : List ℕ) : Type 0 where
  pub table : Chained ks older heads 0
  pub links : length ks ≤ length older
  pub few : length ks + 1 < 4294967296
