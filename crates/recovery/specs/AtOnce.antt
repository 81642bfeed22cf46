-- A repair in one pass: every logged page after one round of tests, which page comes next by the bitmap alone, and a map of them all; and what a log says
-- of itself. h is the hive, l the log, and m the map.
use Rattle.std.specs.Prelude.{ℕ, zero, suc, ◌/◌, cond, List, [], ◌∷◌, ◌++◌, leb, length, drop, Err, None, Ok, Option, Result, Some}
use Rattle.fields.specs.declared.Fault.TheVariants.{MapSmall}
use Rattle.fields.specs.Faults.{flaw, nowhere, no_key, refusal_of, unless, ◌next◌, Verdict}
use Rattle.sectors.specs.Sector.{page_place}
use Rattle.logs.specs.Logs.{head_fault, log_fault, page_count, is_logged, logged_count, next_logged, marks_of, facts_of}
use Rattle.recovery.specs.declared.Stepped.TheVariants.{Done}
use Rattle.recovery.specs.Calls.{start_answer, tested, changed}
use Rattle.recovery.specs.Finished.{after_pages}
use Rattle.fields.specs.declared.Refusal.{Refusal}
use Rattle.logs.specs.declared.Facts.{Facts}
use Rattle.recovery.specs.declared.LoggedMark.{LoggedMark}
use Rattle.recovery.specs.declared.Stepped.{Stepped}

-- the logged pages below p, rising
unfoldable pub logged_below : ℕ → List ℕ → List ℕ
logged_below zero l = []
logged_below (suc p) l = logged_below p l ++ cond (is_logged l p) (p ∷ []) []

abbrev pub logged_pages : List ℕ → List ℕ
logged_pages l = logged_below (page_count l) l

-- "Every call makes all these tests first"; it names no page, so there is no 26
unfoldable pub all_answer : List ℕ → List ℕ → Result Stepped Refusal
all_answer h l = tested (start_answer h l) (Ok Done)

-- the hive after it is that of "One page call for each set bit", "pages rising"
unfoldable pub all_hive : List ℕ → List ℕ → List ℕ
all_hive h l = changed (all_answer h l) (after_pages h l (logged_pages l)) h

-- the least logged page at or after a number, and where it goes in the hive; "21; 22 for the bitmap; 23" come first, and no bit is counted
abbrev pub mark_of : Option ℕ → Result (Option LoggedMark) Refusal
mark_of (Some p) = Ok (Some (record { page = p; to = record { 0 = page_place p } }))
mark_of None = Ok None

abbrev pub mark_tested : Verdict → Result (Option LoggedMark) Refusal → Result (Option LoggedMark) Refusal
mark_tested (Ok tt) a = a
mark_tested (Err f) a = Err (refusal_of no_key f)

unfoldable pub mark_answer : List ℕ → ℕ → Result (Option LoggedMark) Refusal
mark_answer l from = mark_tested (head_fault l) (mark_of (next_logged l from))

-- the logged pages in a lent map: the log's own tests, then 8 for a map that is too small, of `room` bytes
unfoldable pub marked_fault : List ℕ → ℕ → Verdict
marked_fault l room = log_fault l next unless (leb (page_count l / 8) room) (flaw MapSmall nowhere)

-- the start's count
abbrev pub marked_by : Verdict → ℕ → Result ℕ Refusal
marked_by (Ok tt) n = Ok n
marked_by (Err f) n = Err (refusal_of no_key f)

unfoldable pub marked_answer : List ℕ → ℕ → Result ℕ Refusal
marked_answer l room = marked_by (marked_fault l room) (logged_count l)

-- "It changes no byte": a refusal leaves the map as it was; else its first bytes are the bitmap, and those beyond stay
abbrev pub where_marked : Result ℕ Refusal → List ℕ → List ℕ → List ℕ
where_marked (Ok n) new old = new
where_marked (Err r) new old = old

unfoldable pub marked_map : List ℕ → List ℕ → List ℕ
marked_map l m = where_marked (marked_answer l (length m)) (marks_of l ++ drop (page_count l / 8) m) m

-- what a log says of itself: its own tests come first
abbrev pub facts_tested : Verdict → Result Facts Refusal → Result Facts Refusal
facts_tested (Ok tt) a = a
facts_tested (Err f) a = Err (refusal_of no_key f)

unfoldable pub facts_answer : List ℕ → Result Facts Refusal
facts_answer l = facts_tested (log_fault l) (Ok (facts_of l))
