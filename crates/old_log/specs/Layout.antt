-- Where the parts of an old log l lie: "Base block copy in the first 512 bytes; "DIRT" at 512; bitmap at 516, one bit per 512-byte page, bins size /
-- 4096 bytes, lowest bit first; pages from the next multiple of 512 at or after its end, one for each set bit in order."
use Rattle.std.specs.Prelude.{ℕ, ◌+◌, ◌*◌, ◌/◌, Bool, cond, List, [], ◌∷◌, take, drop, Option}
use Rattle.base.specs.Block.{sector, bins_of}
use Rattle.bitmap.specs.Bits.{is_marked, bits_before, next_marked}
use Rattle.sectors.specs.Sector.{sector_at}
use Rattle.sectors.specs.Logged.{put_below}

-- "The log's bins size counts."
abbrev pub log_bins : List ℕ → ℕ
log_bins l = bins_of (sector l)

-- "one bit per 512-byte page"
abbrev pub page_count : List ℕ → ℕ
page_count l = log_bins l / 512

-- "DIRT"
abbrev pub dirt : List ℕ
dirt = 68 ∷ 73 ∷ 82 ∷ 84 ∷ []

-- "bitmap at 516, [..] bins size / 4096 bytes"
abbrev pub map_size : List ℕ → ℕ
map_size l = log_bins l / 4096

unfoldable pub bitmap : List ℕ → List ℕ
bitmap l = take (map_size l) (drop 516 l)

abbrev pub is_logged : List ℕ → ℕ → Bool
is_logged l p = is_marked (bitmap l) p

abbrev pub logged_before : List ℕ → ℕ → ℕ
logged_before l p = bits_before (bitmap l) p

-- "the number of set bits"
abbrev pub logged_count : List ℕ → ℕ
logged_count l = logged_before l (page_count l)

abbrev pub next_logged : List ℕ → ℕ → Option ℕ
next_logged l from = next_marked (bitmap l) from

-- "pages from the next multiple of 512 at or after its end"
abbrev pub pages_at : List ℕ → ℕ
pages_at l = (516 + map_size l + 511) / 512 * 512

-- "one for each set bit in order": where logged page p lies in the log, "by the set bits before it", and its bytes there
abbrev pub logged_place : List ℕ → ℕ → ℕ
logged_place l p = pages_at l + 512 * logged_before l p

unfoldable pub logged : List ℕ → ℕ → List ℕ
logged l p = sector_at l (logged_place l p)

-- the versions of page p that the log has: one, where the page is logged
abbrev pub versions_of : List ℕ → ℕ → List (List ℕ)
versions_of l p = cond (is_logged l p) (logged l p ∷ []) []

-- h with every logged page put in
abbrev pub all_put : List ℕ → List ℕ → List ℕ
all_put h l = put_below (is_logged l) (logged l) (page_count l) h
