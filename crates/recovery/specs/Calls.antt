-- The calls: what each one answers, and the hive after it. h is the hive and l the log.
use Rattle.std.specs.Prelude.{ℕ, ◌+◌, cond, List, leb, ltb, length, Err, None, Ok, Option, Result, Some}
use Rattle.fields.specs.declared.Fault.TheVariants.{HiveShort, HiveCut, Stamps, NotDirty, NotIn}
use Rattle.fields.specs.Faults.{flaw, nowhere, no_key, refusal_of, unless, ◌next◌, Verdict}
use Rattle.base.specs.Block.{sector, clean}
use Rattle.sectors.specs.Sector.{stored, page_place}
use Rattle.logs.specs.Logs.{log_fault, log_bins, is_logged, logged_count, logged_place, logged, next_logged, applies, all_in, closing_of}
use Rattle.recovery.specs.declared.Started.TheVariants as start
use Rattle.recovery.specs.declared.Stepped.TheVariants as step
use Rattle.fields.specs.declared.Refusal.{Refusal}
use Rattle.recovery.specs.declared.LoggedPage.{LoggedPage}
use Rattle.recovery.specs.declared.Started.{Started}
use Rattle.recovery.specs.declared.Stepped.{Stepped}

-- "24|hive shorter than 4096 + the log's bins size", "25|stamps differ"
unfoldable pub hive_fault : List ℕ → List ℕ → Verdict
hive_fault h l =
    unless (leb (4096 + log_bins l) (length h)) (flaw HiveCut nowhere)
    next unless (applies h l) (flaw Stamps nowhere)

-- "21; 22 for the bitmap; 23; 22 for the pages; 24; 25"
unfoldable pub test_fault : List ℕ → List ℕ → Verdict
test_fault h l = log_fault l next hive_fault h l

-- "An accepted start gives the number of set bits."
abbrev pub started : Verdict → ℕ → Result Started Refusal
started (Ok tt) n = Ok (start.Pages n)
started (Err f) n = Err (refusal_of no_key f)

-- "Order: 1; a clean hive answers "clean" and nothing changes, whatever the log; 21; [..]"
unfoldable pub start_answer : List ℕ → List ℕ → Result Started Refusal
start_answer h l =
    cond (ltb (length h) 4096) (Err (refusal_of no_key (flaw HiveShort nowhere)))
    (cond (clean (sector h)) (Ok start.Clean) (started (test_fault h l) (logged_count l)))

-- "Every call makes all these tests first": what a call answers where it alone would answer a
abbrev pub tested : Result Started Refusal → Result Stepped Refusal → Result Stepped Refusal
tested (Ok start.Clean) a = Ok step.Clean
tested (Ok (start.Pages n)) a = a
tested (Err r) a = Err r

-- a call that does not answer "done" changes nothing
abbrev pub changed : Result Stepped Refusal → List ℕ → List ℕ → List ℕ
changed (Ok step.Clean) new old = old
changed (Ok step.Done) new old = new
changed (Err r) new old = old

-- "A page call names a page (26) and writes its 512 bytes and no others."
abbrev pub installed : List ℕ → ℕ → Result Stepped Refusal
installed l p = cond (is_logged l p) (Ok step.Done) (Err (refusal_of no_key (flaw NotDirty nowhere)))

unfoldable pub page_answer : List ℕ → List ℕ → ℕ → Result Stepped Refusal
page_answer h l p = tested (start_answer h l) (installed l p)

unfoldable pub page_hive : List ℕ → List ℕ → ℕ → List ℕ
page_hive h l p = changed (page_answer h l p) (stored h (page_place p) (logged l p)) h

-- "The closing call (27) writes the log's first 512 bytes with type 0 and a new checksum to the hive's first 512."
abbrev pub closed : List ℕ → List ℕ → Result Stepped Refusal
closed h l = cond (all_in h l) (Ok step.Done) (Err (refusal_of no_key (flaw NotIn nowhere)))

unfoldable pub close_answer : List ℕ → List ℕ → Result Stepped Refusal
close_answer h l = tested (start_answer h l) (closed h l)

unfoldable pub close_hive : List ℕ → List ℕ → List ℕ
close_hive h l = changed (close_answer h l) (stored h 0 (closing_of l)) h

-- the least logged page at or after a number, where it lies in the log and where it goes in the hive; the log's own tests come first
abbrev pub next_of : List ℕ → Option ℕ → Result (Option LoggedPage) Refusal
next_of l (Some p) = Ok (Some (record { page = p; from = record { 0 = logged_place l p }; to = record { 0 = page_place p } }))
next_of l None = Ok None

abbrev pub next_tested : Verdict → Result (Option LoggedPage) Refusal → Result (Option LoggedPage) Refusal
next_tested (Ok tt) a = a
next_tested (Err f) a = Err (refusal_of no_key f)

unfoldable pub next_answer : List ℕ → ℕ → Result (Option LoggedPage) Refusal
next_answer l from = next_tested (log_fault l) (next_of l (next_logged l from))
