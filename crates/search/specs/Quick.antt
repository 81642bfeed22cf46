-- "Add a lookup that halves the sorted leaves": "its answer has a definition of its own". It tests the list's head, each leaf and each key record that it
-- touches, wholly, by their own headers (11, 12); not order, hash, parent, total, nor anything that it does not touch. d is the bins data and x the name.
use Rattle.std.specs.Prelude.{ℕ, zero, suc, ◌+◌, ◌-◌, ◌/◌, Bool, true, false, cond, List, [], eqb, ltb, length, get_or, Err, None, Ok, Option, Result, Some}
use Rattle.fields.specs.declared.Offset.{Offset}
use Rattle.fields.specs.Faults.{nowhere, Verdict}
use Rattle.cells.specs.Rule.{Header}
use Rattle.cells.specs.Named.{data_at}
use Rattle.names.specs.Comparison.{compare}
use Rattle.records.specs.declared.Child.{Child}
use Rattle.records.specs.declared.Key.{Key}
use Rattle.records.specs.Keys.{key_fault}
use Rattle.records.specs.Lists.{leaf_fault, head_fault, leaf_children, leaves_of}
use Rattle.records.specs.Terms.{no_child}
use Rattle.tree.specs.Tree.{name_at, is_before}
use Rattle.search.specs.declared.How.{How}
use Rattle.search.specs.declared.How.TheVariants.{InTurn, Halving}
use Rattle.search.specs.declared.Turn.{Turn}
use Rattle.search.specs.declared.Turn.TheVariants.{Left, Right, Stop}
use Rattle.search.specs.Search.{on_sound, search_below}
use Rattle.fields.specs.declared.Flaw.{Flaw}
use Rattle.std.specs.declared.cmp.Ordering.{Ordering}
use Rattle.std.specs.declared.cmp.Ordering.TheVariants.{Equal, Greater, Less}

-- one turn of a halving: on with what stands before, with what stands behind, or an answer
abbrev pub turned_by : Turn → Result (Option Offset) Flaw → Result (Option Offset) Flaw → Result (Option Offset) Flaw
turned_by Left before behind = before
turned_by Right before behind = behind
turned_by (Stop a) before behind = a

abbrev pub middle : ℕ → ℕ → ℕ
middle lo hi = lo + (hi - lo) / 2

-- from lo on, before hi, in at most so many turns
unfoldable pub halve : ℕ → (ℕ → Turn) → ℕ → ℕ → Result (Option Offset) Flaw
halve zero ask lo hi = Ok None
halve (suc n) ask lo hi =
    cond (ltb lo hi) (turned_by (ask (middle lo hi)) (halve n ask lo (middle lo hi)) (halve n ask (suc (middle lo hi)) hi)) (Ok None)

-- 16 turns are enough, because counts are below 2^16 (65,535 halves to 0 in 16): the definition itself shows the bound
unfoldable pub halving : {A : Type 0} → (A → Turn) → A → List A → Result (Option Offset) Flaw
halving ask none xs = halve 16 (λ i. ask (get_or xs i none)) 0 (length xs)

-- a key before the name leads behind it, one of that name is found, and one after it leads before it
abbrev pub toward : Ordering → Offset → Turn
toward Less o = Right
toward Equal o = Stop (Ok (Some o))
toward Greater o = Left

-- a test, then what follows it
abbrev pub on_sound_turn : Verdict → Turn → Turn
on_sound_turn (Ok tt) t = t
on_sound_turn (Err f) t = Stop (Err f)

-- one key
unfoldable pub ask_key : List ℕ → List ℕ → Child → Turn
ask_key d x c = on_sound_turn (key_fault Header d [] c.at) (toward (compare (name_at d c.at) x) c.at)

unfoldable pub quick_keys : List ℕ → List ℕ → List Child → Result (Option Offset) Flaw
quick_keys d x cs = halving (ask_key d x) no_child cs

abbrev pub first_child : List Child → Child
first_child cs = get_or cs 0 no_child

abbrev pub last_child : List Child → Child
last_child cs = get_or cs (length cs - 1) no_child

abbrev pub is_after : Ordering → Bool
is_after Less = false
is_after Equal = false
is_after Greater = true

-- a leaf is asked by its first and its last key: one probe more than by its first alone, but leaves and keys then obey one law
unfoldable pub ask_keys : List ℕ → List ℕ → List Child → Turn
ask_keys d x cs =
    on_sound_turn (key_fault Header d [] (first_child cs).at)
    (cond (is_after (compare (name_at d (first_child cs).at) x)) Left
    (on_sound_turn (key_fault Header d [] (last_child cs).at)
    (cond (is_before (compare (name_at d (last_child cs).at) x)) Right (Stop (quick_keys d x cs)))))

-- one leaf
unfoldable pub ask_leaf : List ℕ → List ℕ → Offset → Turn
ask_leaf d x l = on_sound_turn (leaf_fault Header d [] l) (ask_keys d x (leaf_children (data_at d l)))

-- below a key: a list that is a leaf is one leaf
unfoldable pub quick_below : List ℕ → List ℕ → Key → Result (Option Offset) Flaw
quick_below d x k =
    cond (eqb k.subkeys 0) (Ok None) (on_sound (head_fault Header d [] k.list) (halving (ask_leaf d x) nowhere (leaves_of d k.list)))

-- either search
unfoldable pub below_by : How → List ℕ → List ℕ → Key → Result (Option Offset) Flaw
below_by InTurn d x k = search_below d x k
below_by Halving d x k = quick_below d x k
