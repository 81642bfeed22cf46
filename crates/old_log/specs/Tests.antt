-- The tests of an old log: 21, 22 for the bitmap, 23, 22 for the pages; and the stamps, whether the logged pages are in, and the closing sector.
use Rattle.std.specs.Prelude.{ℕ, ◌+◌, ◌*◌, Bool, not, cond, ◌&&◌, ◌||◌, List, eqb, leb, length, Err, Ok, Result}
use Rattle.fields.specs.declared.Fault.TheVariants.{LogBase, LogShort, NoDirt}
use Rattle.fields.specs.Number.{u64_at}
use Rattle.fields.specs.Bytes.{stands_at}
use Rattle.fields.specs.Faults.{flaw, nowhere, unless, ◌next◌, Verdict}
use Rattle.base.specs.Block.{sector, type_of, usable, is_settled}
use Rattle.sectors.specs.Sector.{page}
use Rattle.sectors.specs.Logged.{in_below}
use Rattle.sectors.specs.Closing.{closing_sector}
use Rattle.old_log.specs.Layout.{dirt, map_size, page_count, is_logged, logged_count, pages_at, logged}
use Rattle.fields.specs.declared.Flaw.{Flaw}

-- "old-format logs (file type 1 or 2)"
abbrev pub is_log_type : ℕ → Bool
is_log_type n = eqb n 1 || eqb n 2

-- of a log's first sector: "its base block not usable (type 1 or 2), or its sequence numbers differ" is 21
unfoldable pub is_log_base : List ℕ → Bool
is_log_base s = is_log_type (type_of s) && (usable s (type_of s) && is_settled s)

-- "With no bit set the log may end with its bitmap."
abbrev pub pages_fit : List ℕ → Bool
pages_fit l = eqb (logged_count l) 0 || leb (pages_at l + 512 * logged_count l) (length l)

-- "21; 22 for the bitmap; 23": what is tested before the set bits are counted
unfoldable pub head_fault : List ℕ → Verdict
head_fault l =
    unless (leb 512 (length l)) (flaw LogBase nowhere)
    next unless (is_log_base (sector l)) (flaw LogBase nowhere)
    next unless (leb (516 + map_size l) (length l)) (flaw LogShort nowhere)
    next unless (stands_at l 512 dirt) (flaw NoDirt nowhere)

-- "[..]; 22 for the pages"
unfoldable pub log_fault : List ℕ → Verdict
log_fault l = head_fault l next unless (pages_fit l) (flaw LogShort nowhere)

-- the log's tests give its flaw, or the number of set bits
abbrev pub counted : Verdict → ℕ → Result ℕ Flaw
counted (Ok tt) n = Ok n
counted (Err f) n = Err f

-- "last written stamp (8 bytes) at 12"
abbrev pub stamp_of : List ℕ → ℕ
stamp_of s = u64_at s 12

-- the first bin's "stamp at 20", where x is page 0
abbrev pub bin_stamp : List ℕ → ℕ
bin_stamp x = u64_at x 20

-- "where page 0 is logged, that page's bytes 20 to 27 do too"
abbrev pub zero_agrees : List ℕ → Bool
zero_agrees l = not (is_logged l 0) || eqb (bin_stamp (logged l 0)) (stamp_of (sector l))

-- "Stamps: a usable hive's base stamp equals the log's. If not usable, the first bin's stamp does, and, where page 0 is logged, that page's bytes
-- 20 to 27 do too: else half a repair would bar the other half."
unfoldable pub stamps_agree : List ℕ → List ℕ → Bool
stamps_agree h l =
    cond (usable (sector h) 0) (eqb (stamp_of (sector h)) (stamp_of (sector l)))
    (eqb (bin_stamp (page h 0)) (stamp_of (sector l)) && zero_agrees l)

-- "a logged page is not in yet" is 27
abbrev pub all_in : List ℕ → List ℕ → Bool
all_in h l = in_below (is_logged l) (logged l) (page_count l) h

-- "the log's first 512 bytes with type 0 and a new checksum"
abbrev pub closing_of : List ℕ → List ℕ
closing_of l = closing_sector (sector l)
