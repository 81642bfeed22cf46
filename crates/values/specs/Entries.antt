-- Offsets that stand one after the other in the data of a cell: the elements of a value list and of a segment list.
use Rattle.std.specs.Prelude.{ℕ, List}
use Rattle.fields.specs.declared.Offset.{Offset}
use Rattle.cells.specs.Named.{data_at}
use Rattle.records.specs.Offsets.{offsets_at}
use Rattle.values.specs.declared.Entries.{Entries}

-- n elements from the start of a cell's data on
abbrev pub entries_at : Offset → ℕ → Entries
entries_at o n = record { cell = o; count = n }

unfoldable pub entries_of : List ℕ → Entries → List Offset
entries_of d e = offsets_at (data_at d e.cell) 0 e.count
