-- Why a survey of what was left is refused: "1 to 7, 9 and 10 apply". h is the hive.
use Rattle.std.specs.Prelude.{ℕ, ◌≤◌, ◌<◌}
use mathlib.Core.List.{List, Memᴰ}
use Rattle.fields.specs.declared.Fault.TheVariants.{OutputShort}
use Rattle.fields.specs.declared.Flaw.{Flaw}
use Rattle.fields.specs.Faults.{flaw, nowhere}
use Rattle.base.specs.Block.{bins_data}
use Rattle.base.specs.Refused.{OfBase}
use Rattle.cells.specs.Refused.{OfBins}
use Rattle.remnants.specs.declared.Remain.{Remain}
use Rattle.remnants.specs.Remnants.{remnants_of}

pub data OfTiles (h : List ℕ) : Flaw → Type 0 where
  of-base : {f : Flaw} → OfBase h f → OfTiles h f
  of-bins : {f : Flaw} → OfBins (bins_data h) f → OfTiles h f

-- in bulk, from an offset on, with so many words
pub data OfRows (h : List ℕ) (from room : ℕ) : Flaw → Type 0 where
  of-tiles : {f : Flaw} → OfTiles h f → OfRows h from room f
  -- 20: "output too short": one is left, and there is no room for its four words
  no_room : {x : Remain} → Memᴰ x (remnants_of (bins_data h)) → from ≤ x.at.0 → room < 4 → OfRows h from room (flaw OutputShort nowhere)
