-- What the walk's functions ask of each other.
use Rattle.std.specs.Prelude.{◌≡◌, ℕ, ◌-◌, ◌≤◌, false, cond, List, [], ◌∷◌, length, ◌==◌, ◌≢◌, slice_index_or, Ok, Result}
use Rattle.fields.specs.declared.Offset.{Offset}
use Rattle.fields.specs.Faults.{◌next◌, Verdict}
use Rattle.fields.specs.Charges.{Free}
use Rattle.cells.specs.Rule.{Map}
use Rattle.base.specs.Block.{bins_data, base_fault}
use Rattle.cells.specs.declared.Tally.{Tally}
use Rattle.cells.specs.Named.{data_at}
use Rattle.cells.specs.Tiling.{layout, survey_of}
use Rattle.cells.specs.Map.{map_after}
use Rattle.cells.specs.Terms.{Data}
use Rattle.cells.specs.Tiled.{BinsTile, Mapped}
use Rattle.records.specs.declared.Child.{Child}
use Rattle.records.specs.declared.Key.{Key}
use Rattle.records.specs.declared.Leaf.{Leaf}
use Rattle.records.specs.Keys.{key_of, NameIn}
use Rattle.records.specs.Terms.{elements_of, ElementsLie, no_child}
use Rattle.records.specs.Lists.{leaf_children, lists_fault}
use Rattle.namesakes.specs.Namesakes.{namesake_fault}
use Rattle.tree.specs.declared.Arrival.{Arrival}
use Rattle.tree.specs.declared.Arrival.TheVariants.{Start, First, After}
use Rattle.tree.specs.Tree.{total_fault, keys_of, report_of, keys_charge, answer}
use Rattle.fields.specs.declared.Refusal.{Refusal}
use Rattle.tree.specs.declared.Report.{Report}

-- a key's name lies in its cell
abbrev pub NameLies : List ℕ → Key → Type 0
NameLies d k = NameIn d k.name

-- a key that was tested: its record has room, and its name lies in its cell
pub record Fits (d : List ℕ) (o : Offset) : Type 0 where
  pub room : 76 ≤ length (data_at d o)
  pub name : NameLies d (key_of d o)

-- the sibling before a key was tested
abbrev pub ArrivalFits : List ℕ → Arrival → Type 0
ArrivalFits d Start = Unit
ArrivalFits d (First p) = Unit
ArrivalFits d (After p b) = Fits d b

-- "all its lists and the total"
unfoldable pub subkeys_fault : List ℕ → List ℕ → Key → Offset → Verdict
subkeys_fault d m k at = lists_fault Map d m k next total_fault d k at

-- the names of its values before them
unfoldable pub listed_fault : List ℕ → List ℕ → Key → Offset → Verdict
listed_fault d m k at = namesake_fault d k next subkeys_fault d m k at

-- the last key of a leaf
unfoldable pub last_of : List ℕ → Offset → Offset
last_of d o = (slice_index_or (leaf_children (data_at d o)) (length (leaf_children (data_at d o)) - 1) no_child).at

-- The keys that one turn of the walk goes over: those of a leaf, by its elements; or the root alone, at the start, by a row whose elements have no width
-- and which is at the root's own offset.
abbrev pub alone : Offset → Child
alone o = record { at = o; hashed = false; hinted = false; beside = 0 }

unfoldable pub row_children : List ℕ → Leaf → List Child
row_children d l = cond (l.width == 0) (alone l.cell ∷ []) (elements_of d l)

pub record RowLies (d : List ℕ) (l : Leaf) : Type 0 where
  pub one : l.width ≡ 0 → l.count ≡ 1
  pub lies : (l.width ≢ 0) → ElementsLie d l

-- a hive whose bins and cells were surveyed, with its map
pub record Ready (h m : List ℕ) : Type 0 where
  pub base : base_fault h ≡ Ok tt
  pub tiles : BinsTile (bins_data h) 0
  pub mapped : Mapped (bins_data h) m

-- the walk from the root, and the report where there is no charge
unfoldable pub keys_answer : List ℕ → List ℕ → Tally → Result Report Refusal
keys_answer h m t = answer (keys_charge h m) (report_of h t)

-- and one whose tree was walked without a charge: its map is whole, and the keys were counted
pub record KeysChecked (h m : List ℕ) (keys : ℕ) : Type 0 where
  pub ready : Ready h m
  pub room : Data (bins_data h) m
  pub complete : map_after (bins_data h) (survey_of (layout (bins_data h) 0) 0 0 0) m ≡ m
  pub clear : keys_charge h m ≡ Free
  pub counted : keys ≡ length (keys_of h)
