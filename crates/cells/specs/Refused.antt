-- Why the survey refuses a hive, and what "a cell in use" means to each call. h is the hive and d its bins data.
use Rattle.std.specs.Prelude.{ℕ, ◌+◌, ◌-◌, ◌/◌, ◌<◌, ◌≡◌, true, List, length}
use Rattle.fields.specs.declared.Fault.TheVariants.{MapSmall, BinHeader, CellSize}
use Rattle.fields.specs.declared.Flaw.{Flaw}
use Rattle.fields.specs.declared.Offset.{Offset}
use Rattle.fields.specs.Number.{size_at}
use Rattle.fields.specs.Faults.{flaw, nowhere}
use Rattle.base.specs.Block.{sector, bins_of, bins_data}
use Rattle.base.specs.Refused.{OfBase}
use Rattle.cells.specs.Rule.{Rule}
use Rattle.cells.specs.Rule as rule
use Rattle.cells.specs.Named.{is_named}
use Rattle.cells.specs.Tiled.{Good, CellsTile, Header, InUse}

-- whole bins up to an offset, where the next one starts
pub data BinsTo (d : List ℕ) : ℕ → Type 0 where
  first-bin : BinsTo d 0
  next-bin : {at : ℕ} (n : ℕ) → BinsTo d at → Header d at n → CellsTile d (at + n) (at + 32) → BinsTo d (at + n)

-- good cells of a bin from its header's end up to an offset, where the next one starts
pub data CellsTo (d : List ℕ) (start end : ℕ) : ℕ → Type 0 where
  first_cell : CellsTo d start end start
  next-cell : {at : ℕ} → CellsTo d start end at → at < end → Good (size_at d at).bytes (end - at) → CellsTo d start end (at + (size_at d at).bytes)

pub data OfBins (d : List ℕ) : Flaw → Type 0 where
  -- 9: "bin header", at the bin: one starts there, and no header stands there
  no_header : {at : ℕ} → BinsTo d at → at < length d → ((n : ℕ) → Header d at n → ⊥) → OfBins d (flaw BinHeader (record { 0 = at }))
  -- 10: "cell size", at the cell: one starts there in its bin, and its size is not good
  no_size : {bin n at : ℕ} → BinsTo d bin → Header d bin n → CellsTo d (bin + 32) (bin + n) at → at < bin + n
      → (Good (size_at d at).bytes (bin + n - at) → ⊥) → OfBins d (flaw CellSize (record { 0 = at }))

-- 1 to 10, for a map of so many bytes
pub data OfSurvey (h : List ℕ) (room : ℕ) : Flaw → Type 0 where
  of-base : {f : Flaw} → OfBase h f → OfSurvey h room f
  -- 8: "work map too small"
  map-small : room < bins_of (sector h) / 64 → OfSurvey h room (flaw MapSmall nowhere)
  of-bins : {f : Flaw} → OfBins (bins_data h) f → OfSurvey h room f

-- "offset names no cell in use", by a call's rule: to the check a cell in use starts there; to lookup and listing, which have no map, the offset's own
-- header is that of one
abbrev pub UsedBy : Rule → List ℕ → Offset → Type 0
UsedBy rule.Map d o = InUse d o
UsedBy rule.Header d o = is_named d o.0 ≡ true
