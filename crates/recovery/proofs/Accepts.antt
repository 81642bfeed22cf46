-- A log is accepted exactly when document 01 lists no fault for the two files.
use Prim.Native.Nat.{ℕ}
use mathlib.Core.Path.{◌≡◌, ap, ◌∙◌}
use mathlib.Core.Logic.{◌↔◌}
use mathlib.Core.List.{List}
use borrow.Author.Tests.{le-leb}
use Rattle.fields.proofs.Firsts.{sound, holds}
use Rattle.logs.specs.Logs.{logged_count}
use Rattle.logs.proofs.Laws.{good-exactly, applies-exactly}
use Rattle.recovery.specs.declared.Started.TheVariants.{Pages}
use Rattle.recovery.specs.Calls.{hive_fault, test_fault, started, start_answer}
use Rattle.recovery.specs.Accepted.{Accepted}
use Rattle.recovery.proofs.Ways.{passed, begun, by_tests}
use Rattle.fields.specs.Faults.{Verdict}
use Rattle.std.specs.Prelude.{Ok}

module _ (h l : List ℕ) where
  -- ---- there

  pub start-accepted : (n : ℕ) → start_answer h l ≡ Ok (Pages n) → Accepted h l × (logged_count l ≡ n)
  start-accepted n e =
      let b = begun h l n e in
      let p = passed h l b.tests in (
        record {
          hive-long = b.long;
          unclean = b.unclean;
          log = (good-exactly l).0 p.log;
          room = p.room;
          stamps = (applies-exactly h l).0 p.stamps;
        },
        b.count,
      )

  -- ---- and back

  module _ (a : Accepted h l) where
    pub accepted-tests : test_fault h l ≡ Ok tt
    unfolding test_fault hive_fault
    accepted-tests =
        sound _ _ ((good-exactly l).1 a.log)
        (sound _ _ (holds _ (le-leb _ _ a.room)) (holds _ ((applies-exactly h l).1 a.stamps)))

    pub accepted-start : start_answer h l ≡ Ok (Pages (logged_count l))
    accepted-start = by_tests h l a.hive-long a.unclean ∙ ap (λ (v : Verdict). started v (logged_count l)) accepted-tests

  -- Theorem 1.
  pub accepted-exactly : (start_answer h l ≡ Ok (Pages (logged_count l))) ↔ Accepted h l
  accepted-exactly = (λ e. (start-accepted (logged_count l) e).0, accepted-start)
