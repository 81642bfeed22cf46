-- "The P figures form a single table under a single proved claim."
use Rattle.std.specs.Prelude.{ℕ, ◌+◌, ◌/◌, ◌≡◌, Bool, true, false, cond, length, replicate, Err, None, Ok, Option, Result, Some}
use mathlib.Core.List.{List, [], ◌∷◌, Memᴰ}
use Rattle.fields.specs.Faults.{number_of}
use Rattle.base.specs.Block.{bins_limit, is_bins_size, stored_checksum}
use Rattle.cells.specs.Survey.{survey_answer, map_left}
use Rattle.names.specs.Codes.{codes}
use Rattle.names.specs.Comparison.{compare}
use Rattle.names.specs.Hashing.{hash_of}
use Rattle.tree.specs.Tree.{check_answer}
use Rattle.old_log.specs.Layout.{page_count, map_size, pages_at}
use Rattle.sectors.specs.Sector.{page_place}
use Rattle.recovery.specs.declared.Started.TheVariants.{Clean, Pages}
use Rattle.recovery.specs.Calls.{start_answer, next_answer}
use Rattle.figures.specs.Inputs.{bare, minimal, with_item, lone, lowest, highest, used, sized}
use Rattle.logs.specs.Small.{log, hive}
use Rattle.cells.specs.declared.Tally.{Tally}
use Rattle.fields.specs.declared.Flaw.{Flaw}
use Rattle.fields.specs.declared.Refusal.{Refusal}
use Rattle.recovery.specs.declared.LoggedPage.{LoggedPage}
use Rattle.recovery.specs.declared.Started.{Started}
use Rattle.std.specs.declared.cmp.Ordering.{Ordering}
use Rattle.std.specs.declared.cmp.Ordering.TheVariants.{Equal, Greater, Less}
use Rattle.tree.specs.declared.Report.{Report}

-- what an answer gives, as numbers in the table's order: a count or none, or the refusal's number and place
unfoldable pub survey_numbers : Result Tally Flaw → List ℕ
survey_numbers (Ok t) = t.bins ∷ t.used ∷ t.free ∷ []
survey_numbers (Err f) = number_of f.fault ∷ f.place.0 ∷ []

unfoldable pub check_numbers : Result Report Refusal → List ℕ
check_numbers (Ok r) = r.bins ∷ r.keys ∷ r.values ∷ r.used ∷ r.free ∷ []
check_numbers (Err r) = number_of r.fault ∷ r.place.0 ∷ []

unfoldable pub start_numbers : Result Started Refusal → List ℕ
start_numbers (Ok Clean) = []
start_numbers (Ok (Pages n)) = n ∷ []
start_numbers (Err r) = number_of r.fault ∷ r.place.0 ∷ []

unfoldable pub next_numbers : Result (Option LoggedPage) Refusal → List ℕ
next_numbers (Ok (Some x)) = x.page ∷ x.from.0 ∷ x.to.0 ∷ []
next_numbers (Ok None) = []
next_numbers (Err r) = number_of r.fault ∷ r.place.0 ∷ []

unfoldable pub order_number : Ordering → ℕ
order_number Less = 0
order_number Equal = 1
order_number Greater = 2

unfoldable pub test_number : Bool → ℕ
test_number b = cond b 1 0

-- a figure: what is computed, and what the paper says
pub record Figure : Type 0 where
  pub computed : List ℕ
  pub stated : List ℕ

abbrev is : List ℕ → List ℕ → Figure
is computed stated = record { computed = computed; stated = stated }

unfoldable pub table : List Figure
table =
    -- `"regf" and 504 zero bytes have checksum 0x66676572`
    is (stored_checksum bare ∷ []) (0x66676572 ∷ [])
    -- `hash of "A" 65; "ab" 2,471; "child" 129,318,620`
    ∷ is (hash_of (codes true (65 ∷ [])) ∷ []) (65 ∷ [])
    ∷ is (hash_of (codes true (97 ∷ 98 ∷ [])) ∷ []) (2471 ∷ [])
    ∷ is (hash_of (codes true (99 ∷ 104 ∷ 105 ∷ 108 ∷ 100 ∷ [])) ∷ []) (129318620 ∷ [])
    -- `one bin, root named by one byte: key cell 88 bytes, free cell 3,976; map of 64 bytes is 0x10, then zeros`
    ∷ is (survey_numbers (survey_answer minimal 64)) (1 ∷ 88 ∷ 3976 ∷ [])
    ∷ is (map_left minimal used) (0x10 ∷ replicate 63 0)
    -- `bins size 8,192, bitmap 0x01 0x80: pages 0 and 15, from log places 1,024 and 1,536; page 15 goes to place 11,776`
    ∷ is (next_numbers (next_answer (log 512) 0)) (0 ∷ 1024 ∷ 4096 ∷ [])
    ∷ is (next_numbers (next_answer (log 512) 1)) (15 ∷ 1536 ∷ 11776 ∷ [])
    ∷ is (next_numbers (next_answer (log 512) 16)) []
    -- `log of 2,048 bytes there is accepted, 2,047 gives 22`
    ∷ is (length (log 512) ∷ start_numbers (start_answer hive (log 512))) (2048 ∷ 2 ∷ [])
    ∷ is (length (log 511) ∷ start_numbers (start_answer hive (log 511))) (2047 ∷ 22 ∷ 0 ∷ [])
    -- `bins size 2,080,768: pages start at 1,024; 2,084,864: at 1,536`
    ∷ is (pages_at (sized 0x00 0xc0 0x1f 0x00) ∷ []) (1024 ∷ [])
    ∷ is (pages_at (sized 0x00 0xd0 0x1f 0x00) ∷ []) (1536 ∷ [])
    -- `cell size 0x80000000 gives 10`
    ∷ is (check_numbers (check_answer lowest used)) (10 ∷ 32 ∷ [])
    -- Not the paper's, but of its amendment by request 1: a XOR of 0 and one of 0xFFFFFFFF, and beside each the number that it is stored as.
    ∷ is (stored_checksum (lone 0 0 0 0) ∷ []) (1 ∷ [])
    ∷ is (stored_checksum (lone 0xff 0xff 0xff 0xff) ∷ []) (0xfffffffe ∷ [])
    ∷ is (stored_checksum (lone 1 0 0 0) ∷ []) (1 ∷ [])
    ∷ is (stored_checksum (lone 0xfe 0xff 0xff 0xff) ∷ []) (0xfffffffe ∷ [])
    -- Of its amendment by request 5: hashes of 0xE9, 0xFF, 0xF7, and "a" with 0xFF; 0xE4 is before 0xC5, 0xFF is 0x0178, and 0xD7 is before 0xF7.
    ∷ is (hash_of (codes true (0xe9 ∷ [])) ∷ []) (201 ∷ [])
    ∷ is (hash_of (codes true (0xff ∷ [])) ∷ []) (376 ∷ [])
    ∷ is (hash_of (codes true (0xf7 ∷ [])) ∷ []) (247 ∷ [])
    ∷ is (hash_of (codes true (97 ∷ 0xff ∷ [])) ∷ []) (2781 ∷ [])
    ∷ is (order_number (compare (codes true (0xe4 ∷ [])) (codes true (0xc5 ∷ []))) ∷ []) (order_number Less ∷ [])
    ∷ is (order_number (compare (codes true (0xff ∷ [])) (codes false (0x78 ∷ 1 ∷ []))) ∷ []) (order_number Equal ∷ [])
    ∷ is (order_number (compare (codes true (0xd7 ∷ [])) (codes true (0xf7 ∷ []))) ∷ []) (order_number Less ∷ [])
    -- Of its amendment by request 7: the work map and the bitmap of the largest bins data; sizes at the limit and past it; the log's pages, how many and from
    -- where, and where the last one goes; a cell of the size 0x7FFFFFF8 in a bin of 4,096.
    ∷ is (bins_limit / 64 ∷ bins_limit / 4096 ∷ []) (33554368 ∷ 524287 ∷ [])
    ∷ is (test_number (is_bins_size 2147479552) ∷ []) (1 ∷ [])
    ∷ is (test_number (is_bins_size 2147483648) ∷ []) (0 ∷ [])
    ∷ is (test_number (is_bins_size (2147479552 + 8)) ∷ []) (0 ∷ [])
    ∷ is (map_size (sized 0x00 0xf0 0xff 0x7f) ∷ pages_at (sized 0x00 0xf0 0xff 0x7f) ∷ []) (524287 ∷ 525312 ∷ [])
    ∷ is (page_count (sized 0x00 0xf0 0xff 0x7f) ∷ page_place 4194295 ∷ []) (4194296 ∷ 2147483136 ∷ [])
    ∷ is (check_numbers (check_answer highest used)) (10 ∷ 32 ∷ [])
    -- Of its amendment by request 2: "01's minimal hive now gets 28 at 32; with an empty item after the key, linked to itself, it gives used 112 free 3952 and
    -- map 0x10 0x80."
    ∷ is (check_numbers (check_answer minimal used)) (28 ∷ 32 ∷ [])
    ∷ is (check_numbers (check_answer with_item used)) (1 ∷ 1 ∷ 0 ∷ 112 ∷ 3952 ∷ [])
    ∷ is (map_left with_item used) (0x10 ∷ 0x80 ∷ replicate 62 0)
    ∷ []

-- the claim: every figure of the table is as stated
abbrev pub Figures : Type 0
Figures = (f : Figure) → Memᴰ f table → f.computed ≡ f.stated
