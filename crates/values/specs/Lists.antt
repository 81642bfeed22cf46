-- "Value list: offsets." The values of a key, in order, with their data.
use Rattle.std.specs.Prelude.{ℕ, ◌*◌, cond, List, [], eqb, Ok}
use Rattle.fields.specs.declared.Offset.{Offset}
use Rattle.fields.specs.Faults.{nowhere, ◌next◌, fault_over, Verdict}
use Rattle.cells.specs.Rule.{Rule}
use Rattle.cells.specs.Named.{data_at}
use Rattle.records.specs.declared.Key.{Key}
use Rattle.records.specs.Offsets.{offsets_at}
use Rattle.values.specs.declared.Entries.{Entries}
use Rattle.values.specs.Entries.{entries_at}
use Rattle.values.specs.Records.{value_fault, data_in}
use Rattle.values.specs.Segments.{room_fault, data_fault}

-- the values of a key; value count 0 reads nothing
unfoldable pub values_of : List ℕ → Key → List Offset
values_of d k = cond (eqb k.values 0) [] (offsets_at (data_at d k.value_list) 0 k.values)

-- the list's cell, and its room for all elements: 12 at the list's cell
unfoldable pub value_list_fault : Rule → List ℕ → List ℕ → Key → Verdict
value_list_fault rule d m k = cond (eqb k.values 0) (Ok tt) (room_fault rule d m k.value_list (4 * k.values))

-- where the elements of a value list stand; value count 0 has none
unfoldable pub value_entries : Key → Entries
value_entries k = cond (eqb k.values 0) (entries_at nowhere 0) (entries_at k.value_list k.values)

-- "A value's record, then its data, then the next value."
unfoldable pub whole_value_fault : Rule → List ℕ → List ℕ → ℕ → Offset → Verdict
whole_value_fault rule d m minor v = value_fault rule d m v next data_fault rule d m (data_in d minor v)

-- "values in order with their data"
unfoldable pub values_fault : Rule → List ℕ → List ℕ → ℕ → Key → Verdict
values_fault rule d m minor k = value_list_fault rule d m k next fault_over (whole_value_fault rule d m minor) (values_of d k)
