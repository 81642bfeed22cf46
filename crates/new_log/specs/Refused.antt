-- What a refusal of a new-format log by itself says: the table's rows 21 and 22, each with its reason.
use Rattle.std.specs.Prelude.{ℕ, ◌<◌, ◌≡◌, false, List, length}
use Rattle.fields.specs.declared.Fault.TheVariants.{LogBase, LogShort}
use Rattle.fields.specs.declared.Flaw.{Flaw}
use Rattle.fields.specs.Number.{u32_at}
use Rattle.fields.specs.Faults.{flaw, nowhere}
use Rattle.base.specs.Block.{sector}
use Rattle.log_entries.specs.Entries.{is_entry}
use Rattle.new_log.specs.Tests.{is_log_base}

pub data OfLog (l : List ℕ) : Flaw → Type 0 where
  -- 21
  log-short : length l < 512 → OfLog l (flaw LogBase nowhere)
  no-log-base : is_log_base (sector l) ≡ false → OfLog l (flaw LogBase nowhere)
  -- 22: "A log without a valid entry gets 22."
  no-entry : is_entry l 512 (u32_at (sector l) 4) ≡ false → OfLog l (flaw LogShort nowhere)
