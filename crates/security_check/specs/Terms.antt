-- The examination of the security items as the code makes it: batches of items, each counted by a pass over the keys; then the sum; then, where it is too
-- small, a pass that seeks. d is the bins data, m the work map and ks the keys of the tree.
use Rattle.std.specs.Prelude.{◌≡◌, ℕ, zero, suc, ◌+◌, ◌/◌, ◌%◌, ◌^◌, ◌<◌, ◌≤◌, true, List, [], ◌∷◌, length, ◌==◌, slice_index, Err, None, Ok, Option, Result, Some}
use Rattle.fields.specs.declared.Fault.TheVariants.{Security}
use Rattle.fields.specs.declared.Offset.{Offset}
use Rattle.fields.specs.Faults.{flaw, unless, ◌next◌, fault_over, refusal_of, Verdict}
use Rattle.fields.specs.Charges.{Charge, Free, Of}
use Rattle.bitmap.specs.Bits.{with_bit}
use Rattle.cells.specs.Map.{map_after}
use Rattle.cells.specs.Named.{data_at}
use Rattle.cells.specs.Terms.{Data}
use Rattle.cells.specs.Tiling.{layout, survey_of}
use Rattle.records.specs.Listed.{keys_in, Once}
use Rattle.security_pass.specs.Counting.{Legible}
use Rattle.security_pass.specs.declared.Pass.{Pass}
use Rattle.security.specs.declared.Batch.{Batch}
use Rattle.security.specs.declared.Batch.TheVariants.{Closed, Broken, More}
use Rattle.security.specs.Items.{is_item, item_of, named_by, count_fault, ring_fault, ring_steps}
use Rattle.security.specs.Terms.{along, gathered, taken}
use Rattle.security_check.specs.declared.Turn.TheVariants as turn
use Rattle.fields.specs.declared.Flaw.{Flaw}
use Rattle.fields.specs.declared.Refusal.{Refusal}
use Rattle.security_check.specs.declared.Turn.{Turn}

-- "The root is level 0; level 512 is the last"
abbrev pub tree_keys : List ℕ → Offset → List Offset
tree_keys d root = keys_in d 513 root

-- what stands in a table, as an offset
abbrev pub row_of : List ℕ → ℕ → Offset
row_of table i = record { 0 = slice_index table i }

-- the counts of n items of a table from one on, compared with what the items say: the first that differs
unfoldable pub unequal : List ℕ → List ℕ → List ℕ → ℕ → ℕ → Verdict
unequal d table counts i zero = Ok tt
unequal d table counts i (suc n) =
    unless ((item_of d (row_of table i)).count == slice_index counts i) (flaw Security (row_of table i))
    next unequal d table counts (suc i) n

-- and added
unfoldable pub added_from : List ℕ → ℕ → ℕ → ℕ
added_from counts i zero = 0
added_from counts i (suc n) = slice_index counts i + added_from counts (suc i) n

-- a fault, or a sum as 64 bits hold it
abbrev pub summed : Verdict → ℕ → Result ℕ Flaw
summed (Ok tt) n = Ok (n % 2 ^ 64)
summed (Err f) n = Err f

-- how often the keys name one of some items, one item after the other
unfoldable pub sum_over : List ℕ → List Offset → List Offset → ℕ
sum_over d ks [] = 0
sum_over d ks (o ∷ os) = named_by d ks o + sum_over d ks os

-- a batch's counts in order, then a fault that the gathering met, else the next batch
abbrev pub turn_by : Result ℕ Flaw → Batch → Result Turn Flaw
turn_by (Err f) b = Err f
turn_by (Ok n) (Closed k) = Ok (turn.Ended n)
turn_by (Ok n) (Broken k o) = Err (flaw Security o)
turn_by (Ok n) (More k o) = Ok (turn.Next n o)

-- one batch from an item on, with a table of so much room
unfoldable pub turned : List ℕ → List ℕ → List Offset → Offset → ℕ → Offset → Result Turn Flaw
turned d m ks first room from =
    let b = gathered d m first room 0 from in
    let os = along d (taken b) from in
    turn_by (summed (fault_over (count_fault d ks) os) (sum_over d ks os)) b

-- the keys can be walked, and counted in 32 bits
pub record Walkable (d : List ℕ) (root : Offset) : Type 0 where
  pub legible : Legible d 513 root
  pub few : length (tree_keys d root) < 4294967296

-- what a batch asks: it starts at an item, and none of its items is there twice
pub record Turning (d m : List ℕ) (root first : Offset) (room : ℕ) (from : Offset) : Type 0 where
  pub item : is_item d m from ≡ true
  pub once : Once (along d (taken (gathered d m first room 0 from)) from)
  pub walk : Walkable d root

-- rows of a table that name items
pub record Rows (d table counts : List ℕ) (n : ℕ) : Type 0 where
  pub numbers : n ≤ length table
  pub counters : n ≤ length counts
  pub fit : (i : ℕ) → i < n → 20 ≤ length (data_at d (row_of table i))

-- a ring whose items were all found sound, by some map and for some keys
pub record Rung (d : List ℕ) (first : Offset) : Type 0 where
  pub map : List ℕ
  pub keys : List Offset
  pub item : is_item d map first ≡ true
  pub sound : ring_fault d map keys first (ring_steps d) first ≡ Ok tt

-- the bits of some items set
unfoldable pub marked : List Offset → List ℕ → List ℕ
marked [] m = m
marked (o ∷ os) m = marked os (with_bit m (o.0 / 8) true)

-- the work map of the bins data is complete: surveyed again it is the same
abbrev pub Complete : List ℕ → List ℕ → Type 0
Complete d m = map_after d (survey_of (layout d 0) 0 0 0) m ≡ m

-- what the examination asks of a hive whose tree was accepted with so many keys
pub record Asked (d m : List ℕ) (root : Offset) (keys : ℕ) : Type 0 where
  pub legible : Legible d 513 root
  pub room : Data d m
  pub complete : Complete d m
  pub total : keys ≡ length (tree_keys d root)
  pub few : keys < 4294967296

-- "All these faults are the new refusal 28": at a place, with the key under examination
abbrev pub refused_at : Offset → Offset → Result (Unit {0}) Refusal
refused_at key place = Err (refusal_of key (flaw Security place))

-- the answer: a refusal, or none
abbrev pub answer_of : Charge → Result (Unit {0}) Refusal
answer_of Free = Ok tt
answer_of (Of r) = Err r

-- the pass that seeks has no table
abbrev pub seeking : Pass
seeking = record { seek = true; items = 0 }

-- the first key that a pass sought, as a refusal
abbrev pub sought_charge : Option Offset → Charge
sought_charge None = Free
sought_charge (Some k) = Of (refusal_of k (flaw Security k))
