-- "The check shall refuse a key that has two values with equal upper-cased names: new refusal 29, place: the first value with an earlier namesake, tested
-- after that key's values have passed and before its lists." And of the scope, for the check: no two values of a key have the same name. Below, d is the
-- bins data.
use Rattle.std.specs.Prelude.{ℕ, ◌<◌, ◌≡◌, Bool, true, false, not, ◌||◌, List, [], ◌∷◌, length, get_or, Ok}
use Rattle.fields.specs.declared.Fault.TheVariants.{Namesake}
use Rattle.fields.specs.declared.Offset.{Offset}
use Rattle.fields.specs.Number.{u16_at}
use Rattle.fields.specs.Faults.{nowhere, flaw, unless, ◌next◌, Verdict}
use Rattle.cells.specs.Named.{data_at}
use Rattle.names.specs.Comparison.{same_name}
use Rattle.records.specs.declared.Key.{Key}
use Rattle.records.specs.declared.Name.{Name}
use Rattle.records.specs.Keys.{codes_of}
use Rattle.values.specs.Records.{value_narrow}
use Rattle.values.specs.Lists.{values_of}

-- "name length at 2 [..], flags at 16 (0x0001: one byte per character), name at 20": a name needs no minor version
abbrev pub value_name : List ℕ → Offset → Name
value_name d v = record { cell = v; at = 20; len = u16_at (data_at d v) 2; narrow = value_narrow (data_at d v) }

unfoldable pub called_at : List ℕ → Offset → List ℕ
called_at d v = codes_of d (value_name d v)

-- "two values with equal upper-cased names", however each is stored
unfoldable pub are_namesakes : List ℕ → Offset → Offset → Bool
are_namesakes d v w = same_name (called_at d v) (called_at d w)

-- whether a value has a namesake among those that were passed
unfoldable pub is_repeat : List ℕ → List Offset → Offset → Bool
is_repeat d [] v = false
is_repeat d (p ∷ passed) v = are_namesakes d p v || is_repeat d passed v

-- "place: the first value with an earlier namesake"
unfoldable pub repeat_fault : List ℕ → List Offset → List Offset → Verdict
repeat_fault d passed [] = Ok tt
repeat_fault d passed (v ∷ vs) = unless (not (is_repeat d passed v)) (flaw Namesake v) next repeat_fault d (v ∷ passed) vs

unfoldable pub namesake_fault : List ℕ → Key → Verdict
namesake_fault d k = repeat_fault d [] (values_of d k)

-- the values at two positions of a list have one name
unfoldable pub twins : List ℕ → List Offset → ℕ → ℕ → Bool
twins d vs i j = are_namesakes d (get_or vs i nowhere) (get_or vs j nowhere)

-- no two values of a key have the same name
pub record Distinct (d : List ℕ) (k : Key) : Type 0 where
  pub differ : (i j : ℕ) → i < j → j < length (values_of d k) → twins d (values_of d k) i j ≡ false

-- the value at a position has a namesake at an earlier one
pub record Earlier (d : List ℕ) (vs : List Offset) (j : ℕ) : Type 0 where
  pub at : ℕ
  pub before : at < j
  pub same : twins d vs at j ≡ true

-- the first value with an earlier namesake: that at the lowest position that has one. Positions count, not cells: one may stand at both.
pub record Repeats (d : List ℕ) (k : Key) (v : Offset) : Type 0 where
  pub at : ℕ
  pub inside : at < length (values_of d k)
  pub here : v ≡ get_or (values_of d k) at nowhere
  pub earlier : Earlier d (values_of d k) at
  pub lowest : (i j : ℕ) → i < j → j < at → twins d (values_of d k) i j ≡ false
