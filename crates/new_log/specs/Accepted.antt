-- What is asked of a new-format log by itself, and of it and a hive, with no order of tests.
use Rattle.std.specs.Prelude.{ℕ, ◌≤◌, ◌≡◌, true, false, length}
use mathlib.Core.List.{List, Memᴰ}
use Rattle.fields.specs.Number.{u32_at, u64_at}
use Rattle.base.specs.Block.{sector, usable}
use Rattle.sectors.specs.Sector.{page}
use Rattle.log_entries.specs.Entries.{is_entry}
use Rattle.log_versions.specs.Versions.{versions_of}

pub record Good (l : List ℕ) : Type 0 where
  -- 21, with type 6
  pub log-long : 512 ≤ length l
  pub log-usable : usable (sector l) 6 ≡ true
  pub log-settled : u32_at (sector l) 4 ≡ u32_at (sector l) 8
  -- "A log without a valid entry gets 22.": the first, which stands at 512, has the log's own number
  pub an-entry : is_entry l 512 (u32_at (sector l) 4) ≡ true

-- 25: a usable hive's second sequence number is the log's; if not usable, the first bin's stamp is, and that of "every logged version of page 0"
pub record Stamped (h l : List ℕ) : Type 0 where
  pub number : usable (sector h) 0 ≡ true → u32_at (sector h) 8 ≡ u32_at (sector l) 4
  pub bin : usable (sector h) 0 ≡ false → u64_at (page h 0) 20 ≡ u64_at (sector l) 12
  pub each : usable (sector h) 0 ≡ false → (x : List ℕ) → Memᴰ x (versions_of l 0) → u64_at x 20 ≡ u64_at (sector l) 12
