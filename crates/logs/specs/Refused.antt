-- What a refusal of a log by itself says, by the log's format: the table's rows 21 to 23, each with its reason.
use Rattle.std.specs.Prelude.{ℕ, Bool, true, false, List}
use Rattle.fields.specs.declared.Flaw.{Flaw}
use Rattle.new_log.specs.Refused as new
use Rattle.old_log.specs.Refused as old
use Rattle.logs.specs.Logs.{is_new}

-- of the tests after which its pages are known
abbrev pub OfHeadAs : Bool → List ℕ → Flaw → Type 0
OfHeadAs true l = new.OfLog l
OfHeadAs false l = old.OfHead l

abbrev pub OfHead : List ℕ → Flaw → Type 0
OfHead l = OfHeadAs (is_new l) l

-- of all of them
abbrev pub OfLogAs : Bool → List ℕ → Flaw → Type 0
OfLogAs true l = new.OfLog l
OfLogAs false l = old.OfLog l

abbrev pub OfLog : List ℕ → Flaw → Type 0
OfLog l = OfLogAs (is_new l) l
