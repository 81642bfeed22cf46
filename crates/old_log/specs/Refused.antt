-- What a refusal of an old log by itself says: the table's rows 21 to 23, each with its reason.
use Rattle.std.specs.Prelude.{ℕ, ◌+◌, ◌*◌, ◌<◌, ◌≡◌, false, List, length}
use Rattle.fields.specs.declared.Fault.TheVariants.{LogBase, LogShort, NoDirt}
use Rattle.fields.specs.declared.Flaw.{Flaw}
use Rattle.fields.specs.Bytes.{stands_at}
use Rattle.fields.specs.Faults.{flaw, nowhere}
use Rattle.base.specs.Block.{sector}
use Rattle.old_log.specs.Layout.{dirt, map_size, logged_count, pages_at}
use Rattle.old_log.specs.Tests.{is_log_base}

-- head_flaw
pub data OfHead (l : List ℕ) : Flaw → Type 0 where
  -- 21: "log under 512 bytes, its base block not usable (type 1 or 2), or its sequence numbers differ"
  log-short : length l < 512 → OfHead l (flaw LogBase nowhere)
  no-log-base : is_log_base (sector l) ≡ false → OfHead l (flaw LogBase nowhere)
  -- 22: "log too short for bitmap or pages", here the bitmap
  bitmap-cut : length l < 516 + map_size l → OfHead l (flaw LogShort nowhere)
  -- 23
  no-dirt : stands_at l 512 dirt ≡ false → OfHead l (flaw NoDirt nowhere)

-- log_test
pub data OfLog (l : List ℕ) : Flaw → Type 0 where
  of-head : {f : Flaw} → OfHead l f → OfLog l f
  -- 22, here the pages
  pages-cut : (logged_count l ≡ 0 → ⊥) → length l < pages_at l + 512 * logged_count l → OfLog l (flaw LogShort nowhere)
