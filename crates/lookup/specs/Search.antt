-- Below a key: "then the records in list order up to the first match, each only for 11 and 12 (not order, hash, parent or total)". d is the bins data;
-- there is no map, and a cell is named by its own header.
use Rattle.std.specs.Prelude.{ℕ, cond, List, [], None, Ok, Option, Result, Some}
use Rattle.fields.specs.declared.Offset.{Offset}
use Rattle.cells.specs.Rule.{Header}
use Rattle.names.specs.Comparison.{same_name}
use Rattle.records.specs.declared.Key.{Key}
use Rattle.records.specs.Keys.{codes_of}
use Rattle.values.specs.Records.{value_fault, value_of}
use Rattle.values.specs.Lists.{values_of, value_list_fault}
use Rattle.search.specs.Search.{on_sound, first_of}
use Rattle.fields.specs.declared.Flaw.{Flaw}

-- the first value of a key that has the name, as names of keys are compared: "Value names may repeat; lookup takes the first."
unfoldable pub value_named : List ℕ → ℕ → List ℕ → Offset → Result (Option Offset) Flaw
value_named d minor x v =
    on_sound (value_fault Header d [] v) (cond (same_name (codes_of d (value_of d minor v).name) x) (Ok (Some v)) (Ok None))

abbrev pub search_values : List ℕ → ℕ → List ℕ → List Offset → Result (Option Offset) Flaw
search_values d minor x vs = first_of (value_named d minor x) vs

-- "18 comes after the value list's 11 and 12 and those of all its values. Value count 0 gives 18 and reads nothing."
unfoldable pub lookup_value : List ℕ → ℕ → List ℕ → Key → Result (Option Offset) Flaw
lookup_value d minor x k = on_sound (value_list_fault Header d [] k) (search_values d minor x (values_of d k))
