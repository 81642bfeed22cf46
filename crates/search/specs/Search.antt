-- "then the records in list order up to the first match, each only for 11 and 12 (not order, hash, parent or total)". d is the bins data; there is no
-- map, and a cell is named by its own header.
use Rattle.std.specs.Prelude.{ℕ, cond, List, [], ◌∷◌, eqb, Err, None, Ok, Option, Result, Some}
use Rattle.fields.specs.declared.Offset.{Offset}
use Rattle.cells.specs.Rule.{Header}
use Rattle.cells.specs.Named.{data_at}
use Rattle.names.specs.Comparison.{same_name}
use Rattle.records.specs.declared.Child.{Child}
use Rattle.records.specs.declared.Key.{Key}
use Rattle.records.specs.Keys.{key_fault}
use Rattle.records.specs.Lists.{leaf_fault, head_fault, leaf_children, leaves_of}
use Rattle.tree.specs.Tree.{name_at}
use Rattle.fields.specs.Faults.{Verdict}
use Rattle.fields.specs.declared.Flaw.{Flaw}

-- a test, then what follows it
abbrev pub on_sound : Verdict → Result (Option Offset) Flaw → Result (Option Offset) Flaw
on_sound (Ok tt) a = a
on_sound (Err f) a = Err f

-- what is found, or else what follows
unfoldable pub or_else : Result (Option Offset) Flaw → Result (Option Offset) Flaw → Result (Option Offset) Flaw
or_else (Ok None) a = a
or_else (Ok (Some o)) a = Ok (Some o)
or_else (Err f) a = Err f

-- the first of some things that answers, one after the other
unfoldable pub first_of : {A : Type 0} → (A → Result (Option Offset) Flaw) → List A → Result (Option Offset) Flaw
first_of each [] = Ok None
first_of each (x ∷ xs) = or_else (each x) (first_of each xs)

-- the first of some keys that has the name: each record is tested when it is reached
unfoldable pub key_named : List ℕ → List ℕ → Child → Result (Option Offset) Flaw
key_named d x c = on_sound (key_fault Header d [] c.at) (cond (same_name (name_at d c.at) x) (Ok (Some c.at)) (Ok None))

abbrev pub search_keys : List ℕ → List ℕ → List Child → Result (Option Offset) Flaw
search_keys d x cs = first_of (key_named d x) cs

-- "One leaf of an `ri` at a time: leaf 1, its keys, leaf 2, its keys."
unfoldable pub search_leaf : List ℕ → List ℕ → Offset → Result (Option Offset) Flaw
search_leaf d x l = on_sound (leaf_fault Header d [] l) (search_keys d x (leaf_children (data_at d l)))

abbrev pub search_leaves : List ℕ → List ℕ → List Offset → Result (Option Offset) Flaw
search_leaves d x ls = first_of (search_leaf d x) ls

-- below a key: "The subkey count is only asked whether it is 0; all elements of the lists are searched."
unfoldable pub search_below : List ℕ → List ℕ → Key → Result (Option Offset) Flaw
search_below d x k =
    cond (eqb k.subkeys 0) (Ok None) (on_sound (head_fault Header d [] k.list) (search_leaves d x (leaves_of d k.list)))
