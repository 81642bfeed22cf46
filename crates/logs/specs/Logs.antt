-- What the repair asks of a log l, whatever its format: its own tests, its pages and their versions, what it says of a hive h, and the closing sector. The
-- crates above know these names and no format.
use Rattle.std.specs.Prelude.{ℕ, ◌/◌, Bool, cond, ◌&&◌, List, eqb, leb, length, Err, Ok, Option, Result}
use Rattle.fields.specs.Number.{u32_at}
use Rattle.base.specs.Block.{sector, type_of}
use Rattle.sectors.specs.Logged.{in_below, put_below}
use Rattle.log_entries.specs.Entries.{chain_of}
use Rattle.log_versions.specs.Versions as versions
use Rattle.new_log.specs.Layout as new-layout
use Rattle.new_log.specs.Tests as new-tests
use Rattle.old_log.specs.Layout as layout
use Rattle.old_log.specs.Tests as tests
use Rattle.logs.specs.declared.Facts.{Facts}
use Rattle.logs.specs.declared.LogFormat.{LogFormat}
use Rattle.logs.specs.declared.LogFormat.TheVariants.{Old, New}
use Rattle.fields.specs.Faults.{Verdict}
use Rattle.fields.specs.declared.Flaw.{Flaw}

-- whether it is a log of Windows 8.1 and later, "file type 6"; any other is read as an old one
unfoldable pub is_new : List ℕ → Bool
is_new l = leb 512 (length l) && eqb (type_of (sector l)) 6

-- what every question needs of it
unfoldable pub read_of : List ℕ → LogFormat
read_of l = cond (is_new l) (New (chain_of l)) Old

-- ---- its own tests

-- those after which its pages are known: "21; 22 for the bitmap; 23", and 21, 22 of a new one
unfoldable pub head_fault : List ℕ → Verdict
head_fault l = cond (is_new l) (new-tests.log_fault l) (tests.head_fault l)

-- these tests give its flaw, or what was read
abbrev pub headed : Verdict → LogFormat → Result LogFormat Flaw
headed (Ok tt) r = Ok r
headed (Err f) r = Err f

-- and all of them: "[..]; 22 for the pages"
unfoldable pub log_fault : List ℕ → Verdict
log_fault l = cond (is_new l) (new-tests.log_fault l) (tests.log_fault l)

-- ---- its pages

-- the bins size that 24 reads
unfoldable pub log_bins : List ℕ → ℕ
log_bins l = cond (is_new l) (new-layout.log_bins l) (layout.log_bins l)

-- every page of these bins has a number below this one
abbrev pub page_count : List ℕ → ℕ
page_count l = log_bins l / 512

unfoldable pub is_logged : List ℕ → ℕ → Bool
is_logged l = cond (is_new l) (versions.is_logged l) (layout.is_logged l)

-- how many pages are logged
unfoldable pub logged_count : List ℕ → ℕ
logged_count l = cond (is_new l) (new-layout.logged_count l) (layout.logged_count l)

-- the least logged page at or after a number
unfoldable pub next_logged : List ℕ → ℕ → Option ℕ
next_logged l from = cond (is_new l) (new-layout.next_logged l from) (layout.next_logged l from)

-- the versions of page p that the log has, the oldest first
unfoldable pub versions_of : List ℕ → ℕ → List (List ℕ)
versions_of l p = cond (is_new l) (versions.versions_of l p) (layout.versions_of l p)

-- where the last version of a logged page lies in the log, and its bytes there
unfoldable pub logged_place : List ℕ → ℕ → ℕ
logged_place l p = cond (is_new l) (versions.logged_place l p) (layout.logged_place l p)

unfoldable pub logged : List ℕ → ℕ → List ℕ
logged l = cond (is_new l) (versions.logged l) (layout.logged l)

-- a bitmap of these bins: bit p is set where page p is logged
unfoldable pub marks_of : List ℕ → List ℕ
marks_of l = cond (is_new l) (new-layout.marks_of l) (layout.bitmap l)

-- how many of them its own tests count: all of an old one, which "22 for the pages" needs, and none of a new one
unfoldable pub counted_of : List ℕ → ℕ
counted_of l = cond (is_new l) 0 (layout.logged_count l)

-- all tests give its flaw, or what was read and what they counted
abbrev pub tested : Verdict → LogFormat → ℕ → Result (LogFormat × ℕ) Flaw
tested (Ok tt) r n = Ok (r, n)
tested (Err f) r n = Err f

-- what it says of itself: how many entries count, the first and the last number, where the last entry ends, and the bins size that 24 reads
abbrev pub facts_in : LogFormat → ℕ → ℕ → Facts
facts_in Old n bins = record { entries = 0; first = n; last = n; end = 512; bins = bins }
facts_in (New c) n bins = record { entries = c.entries; first = n; last = c.last; end = c.end; bins = bins }

unfoldable pub facts_of : List ℕ → Facts
facts_of l = facts_in (read_of l) (u32_at (sector l) 4) (log_bins l)

-- ---- what it says of a hive

-- whether it is a log of this hive: else 25
unfoldable pub applies : List ℕ → List ℕ → Bool
applies h l = cond (is_new l) (new-tests.applies h l) (tests.stamps_agree h l)

-- whether every logged page is in: else 27
abbrev pub all_in : List ℕ → List ℕ → Bool
all_in h l = in_below (is_logged l) (logged l) (page_count l) h

-- h with every logged page put in
abbrev pub all_put : List ℕ → List ℕ → List ℕ
all_put h l = put_below (is_logged l) (logged l) (page_count l) h

-- what the closing call writes to the hive's first 512 bytes
unfoldable pub closing_of : List ℕ → List ℕ
closing_of l = cond (is_new l) (new-tests.closing_of l) (tests.closing_of l)
