-- "Try five frauds." A program that meets its promise commits none of them. check, find, start and page are any programs that meet the promises of these
-- calls, as functions of what they are lent.
use Rattle.std.specs.Prelude.{ℕ, ◌≡◌, true, List, length, Err, Ok, Result}
use Rattle.fields.specs.declared.Refusal.{Refusal}
use Rattle.cells.specs.declared.Tally.{Tally}
use Rattle.cells.specs.Survey.{survey_answer}
use Rattle.logs.specs.Logs.{is_logged, logged, logged_count}
use Rattle.sectors.specs.Sector.{page}
use Rattle.tree.specs.declared.Report.{Report}
use Rattle.tree.specs.Tree.{report_of, check_answer}
use Rattle.paths.specs.Answers.{find_answer}
use Rattle.recovery.specs.declared.Started.TheVariants as started
use Rattle.recovery.specs.Calls.{start_answer, page_hive}
use Rattle.fields.specs.declared.Offset.{Offset}
use Rattle.recovery.specs.declared.Started.{Started}

pub record NoFraud : Type 0 where
  -- "Refuse everything, hives or logs": some hive is accepted, and some log
  pub refuse-hives : (check : List ℕ → List ℕ → Result Report Refusal) → ((h m : List ℕ) → check h m ≡ check_answer h m)
      → ((h m : List ℕ) → (r : Refusal) × (check h m ≡ Err r)) → ⊥
  pub refuse-logs : (start : List ℕ → List ℕ → Result Started Refusal) → ((h l : List ℕ) → start h l ≡ start_answer h l)
      → ((h l : List ℕ) → (r : Refusal) × (start h l ≡ Err r)) → ⊥
  -- "One constant answer: the offset found and the report come from the tree"
  pub constant-key : (find : List ℕ → List ℕ → Result Offset Refusal) → ((h us : List ℕ) → find h us ≡ find_answer h us) → (a : Result Offset Refusal)
      → ((h us : List ℕ) → find h us ≡ a) → ⊥
  pub constant-check : (check : List ℕ → List ℕ → Result Report Refusal) → ((h m : List ℕ) → check h m ≡ check_answer h m) → (a : Result Report Refusal)
      → ((h m : List ℕ) → check h m ≡ a) → ⊥
  -- "Do nothing: a page call must install its page"
  pub do-nothing : (after : List ℕ → List ℕ → ℕ → List ℕ) → ((h l : List ℕ) (p : ℕ) → after h l p ≡ page_hive h l p)
      → ((h l : List ℕ) (p : ℕ) → after h l p ≡ h) → ⊥
  -- "Install all pages at the first call: each call is held to its one page"
  pub install-all : (after : List ℕ → List ℕ → ℕ → List ℕ) → ((h l : List ℕ) (p : ℕ) → after h l p ≡ page_hive h l p)
      → ((h l : List ℕ) (p q : ℕ) → is_logged l q ≡ true → page (after h l p) q ≡ logged l q) → ⊥
  -- "Invent the counts: dirty pages are the bitmap's ones": an accepted start gives no other number
  pub invent-pages : (start : List ℕ → List ℕ → Result Started Refusal) → ((h l : List ℕ) → start h l ≡ start_answer h l)
      → (h l : List ℕ) (n : ℕ) → start h l ≡ Ok (started.Pages n) → n ≡ logged_count l
  -- "the report the tiling's and tree's": an accepted report has the survey's counts and those of the keys reached
  pub invent-report : (check : List ℕ → List ℕ → Result Report Refusal) → ((h m : List ℕ) → check h m ≡ check_answer h m)
      → (h m : List ℕ) (r : Report) → check h m ≡ Ok r → (t : Tally) × (survey_answer h (length m) ≡ Ok t) × (r ≡ report_of h t)
