-- When a log is accepted: what document 01 asks of the two files, with no order of tests.
use Rattle.std.specs.Prelude.{ℕ, ◌+◌, ◌≤◌, ◌≡◌, false, List, length}
use Rattle.base.specs.Block.{sector, clean}
use Rattle.logs.specs.Logs.{log_bins}
use Rattle.logs.specs.Accepted.{Good, Applied}

pub record Accepted (h l : List ℕ) : Type 0 where
  -- 1: "hive under 4096 bytes"
  pub hive-long : 4096 ≤ length h
  -- a clean hive asks for no log
  pub unclean : clean (sector h) ≡ false
  -- 21 to 23, by the log's format
  pub log : Good l
  -- 24: "hive shorter than 4096 + the log's bins size"
  pub room : 4096 + log_bins l ≤ length h
  -- 25: "stamps differ"
  pub stamps : Applied h l
