-- The tests 1 to 10 of a hive, and the work map after them.
use Rattle.std.specs.Prelude.{ℕ, ◌/◌, List, leb, length, Err, Ok, Result}
use Rattle.fields.specs.declared.Fault.TheVariants.{MapSmall}
use Rattle.fields.specs.Faults.{flaw, nowhere, unless, ◌next◌, Verdict}
use Rattle.base.specs.Block.{sector, bins_of, base_fault, bins_data}
use Rattle.cells.specs.Tiling.{layout, survey_of}
use Rattle.cells.specs.Map.{map_after}
use Rattle.cells.specs.declared.Tally.{Tally}
use Rattle.fields.specs.declared.Flaw.{Flaw}

-- 1 to 8: "The caller lends a work map of at least bins size / 64 bytes."
unfoldable pub front_fault : List ℕ → ℕ → Verdict
front_fault h room = base_fault h next unless (leb (bins_of (sector h) / 64) room) (flaw MapSmall nowhere)

abbrev pub tested : Verdict → Result Tally Flaw → Result Tally Flaw
tested (Ok tt) s = s
tested (Err f) s = Err f

-- the answer, for a map of so many bytes
unfoldable pub survey_answer : List ℕ → ℕ → Result Tally Flaw
survey_answer h room = tested (front_fault h room) (survey_of (layout (bins_data h) 0) 0 0 0)

-- "Refusals 1 to 8 leave the map untouched"
abbrev pub untouched : Verdict → List ℕ → List ℕ → List ℕ
untouched (Ok tt) after m = after
untouched (Err f) after m = m

unfoldable pub map_left : List ℕ → List ℕ → List ℕ
map_left h m =
    untouched (front_fault h (length m)) (map_after (bins_data h) (survey_of (layout (bins_data h) 0) 0 0 0) m) m
