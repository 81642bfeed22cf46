-- What document 01 and its amendment ask of a log by itself, and of it and a hive, with no order of tests: by the log's format.
use Rattle.std.specs.Prelude.{ℕ, Bool, true, false, List}
use Rattle.new_log.specs.Accepted as new
use Rattle.old_log.specs.Accepted as old
use Rattle.logs.specs.Logs.{is_new}

-- 21 to 23
abbrev pub GoodAs : Bool → List ℕ → Type 0
GoodAs true l = new.Good l
GoodAs false l = old.Good l

abbrev pub Good : List ℕ → Type 0
Good l = GoodAs (is_new l) l

-- 25
abbrev pub AppliedAs : Bool → List ℕ → List ℕ → Type 0
AppliedAs true h l = new.Stamped h l
AppliedAs false h l = old.Stamped h l

abbrev pub Applied : List ℕ → List ℕ → Type 0
Applied h l = AppliedAs (is_new l) h l
