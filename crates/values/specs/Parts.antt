-- Where the bytes of a value lie, for a view and for a copy.
use Rattle.std.specs.Prelude.{ℕ, List}
use Rattle.cells.specs.Named.{part_in}
use Rattle.values.specs.declared.Part.{Part}
use Rattle.values.specs.declared.ValueData.{ValueData}
use Rattle.values.specs.declared.ValueData.TheVariants.{Inline, OneCell, Segments}

-- "bytes lie at 8" of the value's record where they are inline, else at the start of their cell; segmented data have their `db` there
unfoldable pub part_of : ValueData → Part
part_of (Inline v len) = record { cell = v; at = 8; len = len }
part_of (OneCell o len) = record { cell = o; at = 0; len = len }
part_of (Segments o len) = record { cell = o; at = 0; len = len }

abbrev pub part_bytes : List ℕ → Part → List ℕ
part_bytes d p = part_in d p.cell p.at p.len
