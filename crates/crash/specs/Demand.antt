-- Demand 3, as statements on the file d that the disk holds and the file m that a run has in memory. The repair began with the hive h and the log l, and
-- the start gave n set bits.
use Rattle.std.specs.Prelude.{ℕ, ◌≡◌, true, ◌↔◌, List, Err, Ok}
use Rattle.fields.specs.declared.Flaw.{Flaw}
use Rattle.base.specs.Block.{base_fault}
use Rattle.logs.specs.Logs.{is_logged}
use Rattle.recovery.specs.declared.Started.TheVariants as start
use Rattle.recovery.specs.declared.Stepped.TheVariants as step
use Rattle.recovery.specs.Calls.{start_answer, page_answer, page_hive, close_answer, close_hive}
use Rattle.recovery.specs.Finished.{finished, after_pages, Covers, AllIn}

-- "Until the closing sector lands"
pub record Until (l : List ℕ) (n : ℕ) (d : List ℕ) : Type 0 where
  -- "the same log is still accepted", with the same count
  pub accepted : start_answer d l ≡ Ok (start.Pages n)
  -- "the reader refuses the file": every call of it makes the tests 1 to 7 first, and they refuse it
  pub refused : (f : Flaw) × (base_fault d ≡ Err f)
  -- "the closing call succeeds exactly when every logged page is in"
  pub closes : (close_answer d l ≡ Ok step.Done) ↔ AllIn d l

-- A run that has not closed the file in memory: the same holds of what it has there; each logged page's call is done, whatever page calls came before;
-- and after page calls that cover the log, in any order, the closing call is done.
pub record Running (l : List ℕ) (n : ℕ) (m : List ℕ) : Type 0 where
  pub until : Until l n m
  pub pages : (ps : List ℕ) (p : ℕ) → is_logged l p ≡ true → page_answer (after_pages m l ps) l p ≡ Ok step.Done
  pub closes : (ps : List ℕ) → Covers l ps → close_answer (after_pages m l ps) l ≡ Ok step.Done

-- "Once it lands"
pub record Landed (h l d : List ℕ) : Type 0 where
  -- "the file is, byte for byte, that of one unbroken run"
  pub file : d ≡ finished h l
  -- "every later repair call says "clean" and changes nothing", with every log
  pub starts : (l' : List ℕ) → start_answer d l' ≡ Ok start.Clean
  pub pages : (l' : List ℕ) (p : ℕ) → (page_answer d l' p ≡ Ok step.Clean) × (page_hive d l' p ≡ d)
  pub closes : (l' : List ℕ) → (close_answer d l' ≡ Ok step.Clean) × (close_hive d l' ≡ d)
