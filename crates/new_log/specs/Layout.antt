-- What the repair asks of a new-format log l: its bins size, its pages and their bytes.
use Rattle.std.specs.Prelude.{ℕ, zero, suc, ◌+◌, ◌-◌, ◌/◌, Bool, cond, List, Option}
use Rattle.bitmap.specs.Bits.{next_among, map_of}
use Rattle.sectors.specs.Logged.{in_below, put_below}
use Rattle.log_entries.specs.Entries.{chain_of}
use Rattle.log_versions.specs.Versions.{is_logged, logged}

-- "24 reads the largest counted bins size"
abbrev pub log_bins : List ℕ → ℕ
log_bins l = (chain_of l).largest

abbrev pub page_count : List ℕ → ℕ
page_count l = log_bins l / 512

-- "The start counts distinct 512-byte pages": of the pages below n
unfoldable pub logged_below : List ℕ → ℕ → ℕ
logged_below l zero = 0
logged_below l (suc n) = logged_below l n + cond (is_logged l n) 1 0

abbrev pub logged_count : List ℕ → ℕ
logged_count l = logged_below l (page_count l)

-- the least logged page at or after a number: all are below the number of pages
abbrev pub next_logged : List ℕ → ℕ → Option ℕ
next_logged l from = next_among (page_count l - from) (is_logged l) from

-- the map of the logged pages: "one bit per 512-byte page", lowest bit first
abbrev pub marks_of : List ℕ → List ℕ
marks_of l = map_of (is_logged l) (page_count l / 8)

-- every logged page is in, by its last version
abbrev pub all_in : List ℕ → List ℕ → Bool
all_in h l = in_below (is_logged l) (logged l) (page_count l) h

-- h with every logged page put in
abbrev pub all_put : List ℕ → List ℕ → List ℕ
all_put h l = put_below (is_logged l) (logged l) (page_count l) h
