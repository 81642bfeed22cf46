-- The check, in the order of its tests: "then from the root: the key's cell and record; parent or root listed (neither at the start); order and hash;
-- level; values in order with their data; all its lists and the total; then each child, wholly, before the next." After the walk, the security items.
-- d is the bins data and m the work map; a hive's minor version and root come along.
use Rattle.std.specs.Prelude.{ℕ, zero, suc, ◌+◌, ◌%◌, ◌^◌, Bool, true, false, not, ◌||◌, List, [], ◌∷◌, length, ◌==◌, Err, Ok, Result}
use Rattle.fields.specs.declared.Offset.{Offset}
use Rattle.fields.specs.declared.Fault.TheVariants.{Order, Parent, Level}
use Rattle.fields.specs.Faults.{flaw, unless, ◌next◌, no_key, refusal_of, Verdict}
use Rattle.fields.specs.Charges.{Charge, Free, Of, charge_of, ◌after◌}
use Rattle.base.specs.Block.{sector, minor_of, root_of, bins_data}
use Rattle.cells.specs.Rule.{Map}
use Rattle.cells.specs.declared.Tally.{Tally}
use Rattle.cells.specs.Survey.{survey_answer, map_left}
use Rattle.names.specs.Comparison.{compare}
use Rattle.names.specs.Hashing.{hash_of}
use Rattle.names.specs.Hints.{fits_hint}
use Rattle.records.specs.declared.Child.{Child}
use Rattle.records.specs.declared.Key.{Key}
use Rattle.records.specs.Keys.{key_fault, key_of, codes_of}
use Rattle.records.specs.Lists.{children_below, children, lists_fault}
use Rattle.records.specs.Listed.{joined, keys_in}
use Rattle.values.specs.Lists.{values_fault}
use Rattle.namesakes.specs.Namesakes.{namesake_fault}
use Rattle.security.specs.Items.{security_charge}
use Rattle.tree.specs.declared.Count.{Count}
use Rattle.tree.specs.declared.Hive.{Hive}
use Rattle.tree.specs.declared.Arrival.{Arrival}
use Rattle.tree.specs.declared.Arrival.TheVariants.{Start, First, After}
use Rattle.tree.specs.declared.Report.{Report}
use Rattle.fields.specs.declared.Flaw.{Flaw}
use Rattle.fields.specs.declared.Refusal.{Refusal}
use Rattle.std.specs.declared.cmp.Ordering.{Ordering}
use Rattle.std.specs.declared.cmp.Ordering.TheVariants.{Equal, Greater, Less}

-- the codes of the name of the key at an offset
abbrev pub name_at : List ℕ → Offset → List ℕ
name_at d o = codes_of d (key_of d o).name

-- "a subkey's parent field names the key that lists it, and no subkey is the root"
unfoldable pub parent_fault : Offset → Key → Offset → Offset → Verdict
parent_fault root k at parent =
    unless (k.parent.0 == parent.0) (flaw Parent at)
    next unless (not (at.0 == root.0)) (flaw Parent at)

abbrev pub is_before : Ordering → Bool
is_before Less = true
is_before Equal = false
is_before Greater = false

-- "those of subkeys ascend strictly over all leaves of a key"
unfoldable pub order_fault : List ℕ → Offset → Key → Offset → Verdict
order_fault d sibling k at = unless (is_before (compare (name_at d sibling) (codes_of d k.name))) (flaw Order at)

-- where the key was listed: "parent or root listed (neither at the start); order"
unfoldable pub place_fault : List ℕ → Offset → Key → Offset → Arrival → Verdict
place_fault d root k at Start = Ok tt
place_fault d root k at (First p) = parent_fault root k at p
place_fault d root k at (After p b) = parent_fault root k at p next order_fault d b k at

-- what stands beside the offset: the hash of an `lh` element is that of the name, and the hint of an `lf` element too
unfoldable pub hash_fault : List ℕ → Key → Child → Verdict
hash_fault d k c = unless (not c.hashed || c.beside == hash_of (codes_of d k.name)) (flaw Order c.at)

unfoldable pub hint_fault : List ℕ → Key → Child → Verdict
hint_fault d k c = unless (not c.hinted || fits_hint c.beside (codes_of d k.name)) (flaw Order c.at)

unfoldable pub beside_fault : List ℕ → Key → Child → Verdict
beside_fault d k c = hash_fault d k c next hint_fault d k c

-- "The root is level 0; level 512 is the last": with no level left, the key is too deep
unfoldable pub level_fault : ℕ → Offset → Verdict
level_fault zero at = Err (flaw Level at)
level_fault (suc n) at = Ok tt

-- "The key's count is the total over its leaves."
unfoldable pub total_fault : List ℕ → Key → Offset → Verdict
total_fault d k at = unless (length (children_below d k) == k.subkeys) (flaw Parent at)

-- "level; values in order with their data; all its lists and the total", with so many levels left. Their names are "tested after that key's values have
-- passed and before its lists".
unfoldable pub rest_fault : List ℕ → List ℕ → ℕ → ℕ → Key → Offset → Verdict
rest_fault d m minor n k at =
    level_fault n at
    next values_fault Map d m minor k
    next namesake_fault d k
    next lists_fault Map d m k
    next total_fault d k at

-- all of a key's tests but that of its record
unfoldable pub own_fault : List ℕ → List ℕ → Hive → ℕ → Key → Child → Arrival → Verdict
own_fault d m hive n k c l =
    place_fault d hive.root k c.at l
    next beside_fault d k c
    next rest_fault d m hive.minor n k c.at

-- the key that lists a key: at the start there is none
abbrev pub holder : Arrival → Offset
holder Start = no_key
holder (First p) = p
holder (After p b) = p

-- each key's tests are charged in two groups: its own cell and record to the key that lists it, for it is no key yet, and the rest to itself
unfoldable pub key_charge : List ℕ → List ℕ → Hive → ℕ → Child → Arrival → Charge
key_charge d m hive n c l =
    charge_of (holder l) (key_fault Map d m c.at) after charge_of c.at (own_fault d m hive n (key_of d c.at) c l)

-- "A key is checked by way of its lists, and a list by way of its keys."
unfoldable pub list_charge : (Child → Arrival → Charge) → Offset → Arrival → List Child → Charge
list_charge each key l [] = Free
list_charge each key l (c ∷ cs) = each c l after list_charge each key (After key c.at) cs

unfoldable pub tree_charge : List ℕ → List ℕ → Hive → ℕ → Child → Arrival → Charge
tree_charge d m hive zero c l = key_charge d m hive zero c l
tree_charge d m hive (suc n) c l =
    key_charge d m hive (suc n) c l after list_charge (tree_charge d m hive n) c.at (First c.at) (children d c.at)

-- "values (one for each value list element of those keys)"
unfoldable pub values_in : List ℕ → List Offset → ℕ
values_in d [] = 0
values_in d (k ∷ ks) = (key_of d k).values + values_in d ks

-- the root is level 0, and 512 the last
abbrev pub levels : ℕ
levels = 513

abbrev pub hive_of : List ℕ → Hive
hive_of h = record { minor = minor_of (sector h); root = root_of (sector h) }

abbrev pub root_child : Hive → Child
root_child hive = record { at = hive.root; hashed = false; hinted = false; beside = 0 }

-- the keys reached from the root
abbrev pub keys_of : List ℕ → List Offset
keys_of h = keys_in (bins_data h) levels (hive_of h).root

abbrev pub report_of : List ℕ → Tally → Report
report_of h t =
    record {
      bins = t.bins;
      keys = length (keys_of h);
      values = values_in (bins_data h) (keys_of h);
      used = t.used;
      free = t.free;
    }

-- the walk from the root, with its map, and what is "given after the tree walk"
abbrev pub keys_charge : List ℕ → List ℕ → Charge
keys_charge h m = tree_charge (bins_data h) m (hive_of h) levels (root_child (hive_of h)) Start

abbrev pub ring_charge : List ℕ → List ℕ → Charge
ring_charge h m = security_charge (bins_data h) m (hive_of h).root (keys_of h)

abbrev pub answer : Charge → Report → Result Report Refusal
answer Free r = Ok r
answer (Of f) r = Err f

abbrev pub on_tiled : List ℕ → List ℕ → Result Tally Flaw → Result Report Refusal
on_tiled h m (Err f) = Err (refusal_of no_key f)
on_tiled h m (Ok t) = answer (keys_charge h (map_left h m) after ring_charge h (map_left h m)) (report_of h t)

-- the check's answer for a hive and a work map; the map afterwards is `map_left h m`
unfoldable pub check_answer : List ℕ → List ℕ → Result Report Refusal
check_answer h m = on_tiled h m (survey_answer h (length m))

-- The walk as the code makes it, adding in 64 bits.
unfoldable pub tally : Count → Key → Count
tally t k = record { keys = (t.keys + 1) % 2 ^ 64; values = (t.values + k.values) % 2 ^ 64 }

unfoldable pub tallied : List ℕ → Count → List Offset → Count
tallied d t [] = t
tallied d t (k ∷ ks) = tallied d (tally t (key_of d k)) ks

abbrev pub walked : Charge → Count → Result Count Refusal
walked Free t = Ok t
walked (Of f) t = Err f

unfoldable pub key_answer : List ℕ → List ℕ → Hive → ℕ → Child → Arrival → Count → Result Count Refusal
key_answer d m hive n c l t = walked (tree_charge d m hive n c l) (tallied d t (keys_in d n c.at))

unfoldable pub list_answer : List ℕ → List ℕ → Hive → ℕ → Offset → Arrival → List Child → Count → Result Count Refusal
list_answer d m hive n key l cs t = walked (list_charge (tree_charge d m hive n) key l cs) (tallied d t (joined (keys_in d n) cs))
