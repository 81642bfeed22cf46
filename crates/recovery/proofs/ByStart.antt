-- The calls by the start's answer.
use Prim.Native.Nat.{ℕ}
use mathlib.Core.Path.{◌≡◌, ap}
use mathlib.Core.List.{List}
use Rattle.sectors.specs.Sector.{stored, page_place}
use Rattle.logs.specs.Logs.{logged, closing_of}
use Rattle.recovery.specs.declared.Stepped.TheVariants.{Done}
use Rattle.recovery.specs.Calls.{start_answer, tested, changed, installed, page_answer, page_hive, closed, close_answer, close_hive}
use Rattle.recovery.specs.Finished.{after_pages}
use Rattle.recovery.specs.AtOnce.{logged_pages, all_answer, all_hive}
use Rattle.fields.specs.declared.Refusal.{Refusal}
use Rattle.recovery.specs.declared.Started.{Started}
use Rattle.recovery.specs.declared.Stepped.{Stepped}
use Rattle.std.specs.Prelude.{Ok, Result}

module _ (h l : List ℕ) (a : Result Started Refusal) (e : start_answer h l ≡ a) where
  pub page-answer : (p : ℕ) → page_answer h l p ≡ tested a (installed l p)
  unfolding page_answer
  page-answer p = ap (λ (x : Result Started Refusal). tested x (installed l p)) e

  pub page-hive : (p : ℕ) → page_hive h l p ≡ changed (tested a (installed l p)) (stored h (page_place p) (logged l p)) h
  unfolding page_hive
  page-hive p = ap (λ (x : Result Stepped Refusal). changed x (stored h (page_place p) (logged l p)) h) (page-answer p)

  pub close-answer : close_answer h l ≡ tested a (closed h l)
  unfolding close_answer
  close-answer = ap (λ (x : Result Started Refusal). tested x (closed h l)) e

  pub close-hive : close_hive h l ≡ changed (tested a (closed h l)) (stored h 0 (closing_of l)) h
  unfolding close_hive
  close-hive = ap (λ (x : Result Stepped Refusal). changed x (stored h 0 (closing_of l)) h) close-answer

  pub all-answer : all_answer h l ≡ tested a (Ok Done)
  unfolding all_answer
  all-answer = ap (λ (x : Result Started Refusal). tested x (Ok Done)) e

  pub all-hive : all_hive h l ≡ changed (tested a (Ok Done)) (after_pages h l (logged_pages l)) h
  unfolding all_hive
  all-hive = ap (λ (x : Result Stepped Refusal). changed x (after_pages h l (logged_pages l)) h) all-answer
