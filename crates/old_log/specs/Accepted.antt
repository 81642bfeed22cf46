-- What document 01 asks of an old log by itself, and of its stamps and a hive's, with no order of tests.
use Rattle.std.specs.Prelude.{ℕ, ◌+◌, ◌*◌, ◌≤◌, ◌<◌, ◌≡◌, ◌⊎◌, true, false, List, length, take, drop}
use Rattle.fields.specs.Number.{u32_at}
use Rattle.base.specs.Block.{sector, type_of, usable}
use Rattle.sectors.specs.Sector.{page}
use Rattle.old_log.specs.Layout.{dirt, map_size, is_logged, logged_count, pages_at, logged}
use Rattle.old_log.specs.Tests.{stamp_of, bin_stamp}

pub record Good (l : List ℕ) : Type 0 where
  -- 21: "log under 512 bytes, its base block not usable (type 1 or 2), or its sequence numbers differ"
  pub log-long : 512 ≤ length l
  pub log-type : (type_of (sector l) ≡ 1) ⊎ (type_of (sector l) ≡ 2)
  pub log-usable : usable (sector l) (type_of (sector l)) ≡ true
  pub log-settled : u32_at (sector l) 4 ≡ u32_at (sector l) 8
  -- 22: "log too short for bitmap or pages"
  pub map-fits : 516 + map_size l ≤ length l
  pub pages-fit : 0 < logged_count l → pages_at l + 512 * logged_count l ≤ length l
  -- 23: "no "DIRT""
  pub is-dirt : take 4 (drop 512 l) ≡ dirt

-- "Stamps: a usable hive's base stamp equals the log's. If not usable, the first bin's stamp does, and, where page 0 is logged, that page's bytes
-- 20 to 27 do too"
pub record Stamped (h l : List ℕ) : Type 0 where
  pub base : usable (sector h) 0 ≡ true → stamp_of (sector h) ≡ stamp_of (sector l)
  pub bin : usable (sector h) 0 ≡ false → bin_stamp (page h 0) ≡ stamp_of (sector l)
  pub zero : usable (sector h) 0 ≡ false → is_logged l 0 ≡ true → bin_stamp (logged l 0) ≡ stamp_of (sector l)
