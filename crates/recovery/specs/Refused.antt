-- What a refusal of the repair calls says: the table's rows 1, 8 and 21 to 27, with place 0 and no key, each with its reason. h is the hive and l the log. What
-- a refusal by the log's own tests says, 21 to 23, is `OfHead` (next_mark) and `OfLog` (next_page, log_facts) of logs/specs/Refused.antt.
use Rattle.std.specs.Prelude.{ℕ, ◌+◌, ◌/◌, ◌<◌, ◌≡◌, false, List, length}
use Rattle.fields.specs.declared.Fault.TheVariants.{HiveShort, MapSmall, HiveCut, Stamps, NotDirty, NotIn}
use Rattle.fields.specs.declared.Flaw.{Flaw}
use Rattle.fields.specs.Faults.{flaw, nowhere}
use Rattle.logs.specs.Logs.{log_bins, page_count, is_logged, applies, all_in}
use Rattle.logs.specs.Refused.{OfLog}

-- start, all_pages
pub data OfStart (h l : List ℕ) : Flaw → Type 0 where
  -- 1: "hive under 4096 bytes"
  hive-short : length h < 4096 → OfStart h l (flaw HiveShort nowhere)
  of-log : {f : Flaw} → OfLog l f → OfStart h l f
  -- 24: "hive shorter than 4096 + the log's bins size"
  hive-cut : length h < 4096 + log_bins l → OfStart h l (flaw HiveCut nowhere)
  -- 25: "stamps differ"
  stamps-differ : applies h l ≡ false → OfStart h l (flaw Stamps nowhere)

-- page
pub data OfPage (h l : List ℕ) (p : ℕ) : Flaw → Type 0 where
  page-start : {f : Flaw} → OfStart h l f → OfPage h l p f
  -- 26: "page not marked dirty, or past the bitmap"
  not-dirty : is_logged l p ≡ false → OfPage h l p (flaw NotDirty nowhere)

-- close
pub data OfClose (h l : List ℕ) : Flaw → Type 0 where
  close-start : {f : Flaw} → OfStart h l f → OfClose h l f
  -- 27: "closing, but a logged page is not in yet"
  not_in : all_in h l ≡ false → OfClose h l (flaw NotIn nowhere)

-- mark_pages, with a map of `room` bytes
pub data OfMarked (l : List ℕ) (room : ℕ) : Flaw → Type 0 where
  marked-log : {f : Flaw} → OfLog l f → OfMarked l room f
  -- 8, here of the map that is lent for the logged pages
  map-small : room < page_count l / 8 → OfMarked l room (flaw MapSmall nowhere)
