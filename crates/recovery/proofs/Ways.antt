-- The tests that every call makes first, a law for each way out, and what an accepted start says.
use Prim.Native.Nat.{ℕ, ◌+◌, ◌/◌, ◌<◌, ◌≤◌}
use native.Mathlib.Omega.{arith}
use mathlib.Core.Path.{◌≡◌, refl, ◌∙◌, ap}
use mathlib.Core.Bool.{Bool, true, false, cond}
use mathlib.Core.List.{List}
use lib.Dec.{leb, ltb}
use lib.ListN.{length}
use borrow.Author.Tests.{lt-leb, le-leb, leb-true, lt-ltb, le-ltb, ltb-false}
use Rattle.fields.specs.declared.Flaw.{Flaw}
use Rattle.fields.specs.declared.Fault.TheVariants.{HiveShort, HiveCut, Stamps, MapSmall}
use Rattle.fields.specs.declared.Refusal.{Refusal}
use Rattle.fields.specs.Faults.{flaw, nowhere, no_key, refusal_of, unless, Verdict}
use Rattle.fields.proofs.Firsts.{on, stop, both, held, holds, fails}
use Rattle.base.specs.Block.{sector, clean}
use Rattle.logs.specs.declared.LogFormat.{LogFormat}
use Rattle.logs.proofs.Laws.{head_of, logged-below, logged-fits, logged-is, bins-sized}
use Rattle.logs.specs.Logs.{headed, log_fault, log_bins, page_count, logged_count, tested, applies}
use Rattle.recovery.specs.declared.Begun.TheVariants as ready
use Rattle.recovery.specs.declared.Started.TheVariants.{Clean, Pages}
use Rattle.recovery.specs.Terms.{begun_by}
use Rattle.recovery.specs.AtOnce.{marked_fault}
use Rattle.recovery.specs.Calls.{hive_fault, test_fault, started, start_answer}
use Rattle.recovery.specs.declared.Started.{Started}
use Rattle.std.specs.Prelude.{Err, Ok, Result}

-- ---- the log's own tests

pub logged-sound : (v : Verdict) (r x : LogFormat) (n m : ℕ) → tested v r n ≡ Ok (x, m) → (v ≡ Ok tt) × (r ≡ x) × (n ≡ m)
logged-sound (Ok tt) r x n m e =
    let p : (r, n) ≡ (x, m) = cc in
    (refl, ap (λ (y : LogFormat × ℕ). y.0) p, ap (λ (y : LogFormat × ℕ). y.1) p)
logged-sound (Err f) r x n m e = absurd (let z : ◌≡◌ {A = ℕ} 0 1 = cc in omega arith)

pub flawed-log : (v : Verdict) (r : LogFormat) (n : ℕ) (f : Flaw) → tested v r n ≡ Err f → v ≡ Err f
flawed-log (Ok tt) r n f e = absurd (let z : ◌≡◌ {A = ℕ} 0 1 = cc in omega arith)
flawed-log (Err g) r n f e = cc

pub good-head : (v : Verdict) (r x : LogFormat) → headed v r ≡ Ok x → (v ≡ Ok tt) × (r ≡ x)
good-head (Ok tt) r x e = (refl, cc)
good-head (Err f) r x e = absurd (let z : ◌≡◌ {A = ℕ} 0 1 = cc in omega arith)

-- ---- what the first tests give to the rest of a call

module _ (r : LogFormat) (k : ℕ) where
  pub begun-ready : (s : Result Started Refusal) (x : LogFormat) (n : ℕ) → begun_by s r k ≡ Ok (ready.Ready x n)
      → (m : ℕ) × (s ≡ Ok (Pages m)) × (x ≡ r) × (n ≡ k)
  begun-ready (Ok Clean) x n e = absurd (let z : ◌≡◌ {A = ℕ} 0 1 = cc in omega arith)
  begun-ready (Ok (Pages m)) x n e = (m, refl, cc, cc)
  begun-ready (Err y) x n e = absurd (let z : ◌≡◌ {A = ℕ} 0 1 = cc in omega arith)

-- ---- 24, 25

module _ (h l : List ℕ) where
  pub cut : length h < 4096 + log_bins l → hive_fault h l ≡ Err (flaw HiveCut nowhere)
  unfolding hive_fault
  cut p = stop _ _ (fails _ (lt-leb _ _ p))

  pub by-stamps : 4096 + log_bins l ≤ length h → hive_fault h l ≡ unless (applies h l) (flaw Stamps nowhere)
  unfolding hive_fault
  by-stamps p = on _ _ (holds _ (le-leb _ _ p))

  pub bad-log : {f : Flaw} → log_fault l ≡ Err f → test_fault h l ≡ Err f
  unfolding test_fault
  bad-log e = stop _ _ e

  pub by-hive : log_fault l ≡ Ok tt → test_fault h l ≡ hive_fault h l
  unfolding test_fault
  by-hive e = on _ _ e

  -- ---- the start

  pub short : length h < 4096 → start_answer h l ≡ Err (refusal_of no_key (flaw HiveShort nowhere))
  unfolding start_answer
  short p = rw (lt-ltb (length h) 4096 p)

  module _ (long : 4096 ≤ length h) where
    pub is-clean : clean (sector h) ≡ true → start_answer h l ≡ Ok Clean
    unfolding start_answer
    is-clean e = rw (le-ltb (length h) 4096 long, e)

    pub by_tests : clean (sector h) ≡ false → start_answer h l ≡ started (test_fault h l) (logged_count l)
    unfolding start_answer
    by_tests e = rw (le-ltb (length h) 4096 long, e)

  -- ---- what tests that are passed say

  pub record Passed : Type 0 where
    pub log : log_fault l ≡ Ok tt
    pub room : 4096 + log_bins l ≤ length h
    pub stamps : applies h l ≡ true

  pub passed : test_fault h l ≡ Ok tt → Passed
  unfolding test_fault hive_fault
  passed e =
      let a = both (log_fault l) _ e in
      let b = both (unless (leb (4096 + log_bins l) (length h)) (flaw HiveCut nowhere)) _ a.1 in
      record {
        log = a.0;
        room = leb-true _ _ (held (leb (4096 + log_bins l) (length h)) (flaw HiveCut nowhere) b.0);
        stamps = held (applies h l) (flaw Stamps nowhere) b.1;
      }

  pub passed_log : test_fault h l ≡ Ok tt → log_fault l ≡ Ok tt
  passed_log e = (passed e).log

  pub passed_room : test_fault h l ≡ Ok tt → 4096 + log_bins l ≤ length h
  passed_room e = (passed e).room

  pub record Begun (n : ℕ) : Type 0 where
    pub long : 4096 ≤ length h
    pub unclean : clean (sector h) ≡ false
    pub tests : test_fault h l ≡ Ok tt
    pub count : logged_count l ≡ n

  begun-of : (a b : Bool) (v : Verdict) (k n : ℕ) → cond a (Err (refusal_of no_key (flaw HiveShort nowhere))) (cond b (Ok Clean) (started v k)) ≡ Ok (Pages n)
      → (a ≡ false) × (b ≡ false) × (v ≡ Ok tt) × (k ≡ n)
  begun-of true b v k n e = absurd (let z : ◌≡◌ {A = ℕ} 0 1 = cc in omega arith)
  begun-of false true v k n e = absurd (let z : ◌≡◌ {A = ℕ} 0 1 = cc in omega arith)
  begun-of false false (Err f) k n e = absurd (let z : ◌≡◌ {A = ℕ} 0 1 = cc in omega arith)
  begun-of false false (Ok tt) k n e = (refl, refl, refl, cc)

  pub begun : (n : ℕ) → start_answer h l ≡ Ok (Pages n) → Begun n
  unfolding start_answer
  begun n e =
      let i = begun-of (ltb (length h) 4096) (clean (sector h)) (test_fault h l) (logged_count l) n e in
      record { long = ltb-false (length h) 4096 i.0; unclean = i.1; tests = i.2; count = i.3 }

-- ---- a map of the logged pages

module _ (l : List ℕ) (room : ℕ) where
  pub unmarked : {f : Flaw} → log_fault l ≡ Err f → marked_fault l room ≡ Err f
  unfolding marked_fault
  unmarked e = stop _ _ e

  pub map-small : log_fault l ≡ Ok tt → room < page_count l / 8 → marked_fault l room ≡ Err (flaw MapSmall nowhere)
  unfolding marked_fault
  map-small e p = on _ _ e ∙ fails _ (lt-leb _ _ p)

  pub map-fits : log_fault l ≡ Ok tt → page_count l / 8 ≤ room → marked_fault l room ≡ Ok tt
  unfolding marked_fault
  map-fits e p = on _ _ e ∙ holds _ (le-leb _ _ p)

-- ---- by these names the attributes in the code cite them

pub ruleset ways = (cut, by-stamps, holds, fails, bad-log, by-hive, short, is-clean, by_tests)

pub ruleset passes = (passed_log, passed_room)

pub ruleset in_place = (passed_log, passed_room, head_of, logged-below, logged-fits, logged-is, bins-sized)

pub ruleset marks = (unmarked, map-small, map-fits)
