-- Every refusal of the repair calls says why, and has place 0 and no key.
use Prim.Native.Nat.{ℕ, ◌+◌, ◌/◌}
use native.Mathlib.Omega.{arith}
use mathlib.Core.Path.{◌≡◌, refl, sym, ap, ◌∙◌}
use mathlib.Core.Bool.{Bool, true, false, cond}
use mathlib.Core.List.{List}
use lib.Dec.{leb, ltb}
use lib.ListN.{length}
use borrow.Author.Tests.{leb-false, ltb-true}
use Rattle.fields.specs.declared.Fault.{Fault}
use Rattle.fields.specs.declared.Fault.TheVariants as named
use Rattle.fields.specs.declared.Flaw.{Flaw}
use Rattle.fields.specs.declared.Refusal.{Refusal}
use Rattle.fields.specs.Faults.{flaw, nowhere, unless, no_key, refusal_of, Verdict}
use Rattle.fields.proofs.Bools.{never}
use Rattle.fields.proofs.Every.{Every, every-unless, every-next}
use Rattle.base.specs.Block.{sector, clean}
use Rattle.logs.specs.Logs.{head_fault, log_fault, log_bins, page_count, is_logged, logged_count, next_logged, facts_of, applies, all_in}
use Rattle.logs.specs.Refused.{OfHead, OfLog}
use Rattle.logs.proofs.Laws.{head-refuses, log-refuses}
use Rattle.recovery.specs.declared.Started.TheVariants as started
use Rattle.recovery.specs.declared.Stepped.TheVariants as stepped
use Rattle.recovery.specs.Calls.{hive_fault, test_fault, started as started_by, start_answer, tested, page_answer, close_answer, next_of, next_tested, next_answer}
use Rattle.recovery.specs.AtOnce.{all_answer, mark_of, mark_tested, mark_answer, marked_fault, marked_by, marked_answer, facts_tested, facts_answer}
use Rattle.recovery.specs.Refused.{OfStart, hive-short, of-log, hive-cut, stamps-differ, OfPage, page-start, not-dirty, OfClose, close-start, not_in, OfMarked, marked-log, map-small}
use Rattle.recovery.specs.declared.Started.{Started}
use Rattle.std.specs.Prelude.{Err, None, Ok, Option, Result, Some}

module _ (h l : List ℕ) where
  tests-refuse : Every (OfStart h l) (test_fault h l)
  unfolding test_fault hive_fault
  tests-refuse =
      every-next (OfStart h l) (log_fault l) _ (λ f e. of-log (log-refuses l f e))
      (λ a. every-next (OfStart h l) (unless (leb (4096 + log_bins l) (length h)) (flaw named.HiveCut nowhere)) _
      (every-unless (OfStart h l) (leb (4096 + log_bins l) (length h)) _ (λ e. hive-cut (leb-false _ _ e)))
      (λ b. every-unless (OfStart h l) (applies h l) _ (λ e. stamps-differ e)))

  pub start-refuses : {r : Refusal} → start_answer h l ≡ Err r → (f : Flaw) × (r ≡ refusal_of no_key f) × OfStart h l f
  unfolding start_answer
  start-refuses {r} e = by (ltb (length h) 4096) refl (clean (sector h)) (test_fault h l) refl e
    where
      by : (a : Bool) → ltb (length h) 4096 ≡ a → (b : Bool) (v : Verdict) → test_fault h l ≡ v
          → cond a (Err (refusal_of no_key (flaw named.HiveShort nowhere))) (cond b (Ok started.Clean) (started_by v (logged_count l))) ≡ Err r
          → (f : Flaw) × (r ≡ refusal_of no_key f) × OfStart h l f
      by true s b v p q =
          (flaw named.HiveShort nowhere, let z : refusal_of no_key (flaw named.HiveShort nowhere) ≡ r = cc in sym z, hive-short (ltb-true _ _ s))
      by false s true v p q = absurd (let z : ◌≡◌ {A = ℕ} 0 1 = cc in omega arith)
      by false s false (Ok tt) p q = absurd (let z : ◌≡◌ {A = ℕ} 0 1 = cc in omega arith)
      by false s false (Err f) p q = (f, let z : refusal_of no_key f ≡ r = cc in sym z, tests-refuse f p)

  -- a call's own refusal, and one of the tests'
  step-refuses : (P : Flaw → Type 0) → ((f : Flaw) → OfStart h l f → P f) → (t : Bool) (n : Fault) → (t ≡ false → P (flaw n nowhere)) → (r : Refusal)
      → tested (start_answer h l) (cond t (Ok stepped.Done) (Err (refusal_of no_key (flaw n nowhere)))) ≡ Err r
      → (f : Flaw) × (r ≡ refusal_of no_key f) × P f
  step-refuses P up t n own r e = by (start_answer h l) refl t refl e
    where
      by : (s : Result Started Refusal) → start_answer h l ≡ s → (b : Bool) → t ≡ b → tested s (cond b (Ok stepped.Done) (Err (refusal_of no_key (flaw n nowhere)))) ≡ Err r
          → (f : Flaw) × (r ≡ refusal_of no_key f) × P f
      by (Ok started.Clean) p b w q = absurd (let z : ◌≡◌ {A = ℕ} 0 1 = cc in omega arith)
      by (Ok (started.Pages k)) p true w q = absurd (let z : ◌≡◌ {A = ℕ} 0 1 = cc in omega arith)
      by (Ok (started.Pages k)) p false w q = (flaw n nowhere, let z : refusal_of no_key (flaw n nowhere) ≡ r = cc in sym z, own w)
      by (Err s) p b w q =
          let z : s ≡ r = cc in
          let x = start-refuses (p ∙ ap Err z) in
          (x.0, x.1, up x.0 x.2)

  pub page-refuses : (p : ℕ) {r : Refusal} → page_answer h l p ≡ Err r → (f : Flaw) × (r ≡ refusal_of no_key f) × OfPage h l p f
  unfolding page_answer
  page-refuses p {r} e = step-refuses (OfPage h l p) (λ f s. page-start s) (is_logged l p) named.NotDirty (λ w. not-dirty w) r e

  pub close-refuses : {r : Refusal} → close_answer h l ≡ Err r → (f : Flaw) × (r ≡ refusal_of no_key f) × OfClose h l f
  unfolding close_answer
  close-refuses {r} e = step-refuses (OfClose h l) (λ f s. close-start s) (all_in h l) named.NotIn (λ w. not_in w) r e

  -- all pages at once have no refusal of their own
  pub all-refuses : {r : Refusal} → all_answer h l ≡ Err r → (f : Flaw) × (r ≡ refusal_of no_key f) × OfStart h l f
  unfolding all_answer
  all-refuses {r} e = step-refuses (OfStart h l) (λ f s. s) true named.NotDirty (λ w. absurd (never true refl w)) r e

pub next-refuses : (l : List ℕ) (from : ℕ) {r : Refusal} → next_answer l from ≡ Err r → (f : Flaw) × (r ≡ refusal_of no_key f) × OfLog l f
unfolding next_answer
next-refuses l from {r} e = by (log_fault l) refl (next_logged l from) e
  where
    by : (v : Verdict) → log_fault l ≡ v → (n : Option ℕ) → next_tested v (next_of l n) ≡ Err r → (f : Flaw) × (r ≡ refusal_of no_key f) × OfLog l f
    by (Ok tt) p (Some k) q = absurd (let z : ◌≡◌ {A = ℕ} 0 1 = cc in omega arith)
    by (Ok tt) p None q = absurd (let z : ◌≡◌ {A = ℕ} 0 1 = cc in omega arith)
    by (Err f) p n q = (f, let z : refusal_of no_key f ≡ r = cc in sym z, log-refuses l f p)

pub mark-refuses : (l : List ℕ) (from : ℕ) {r : Refusal} → mark_answer l from ≡ Err r → (f : Flaw) × (r ≡ refusal_of no_key f) × OfHead l f
unfolding mark_answer
mark-refuses l from {r} e = by (head_fault l) refl (next_logged l from) e
  where
    by : (v : Verdict) → head_fault l ≡ v → (n : Option ℕ) → mark_tested v (mark_of n) ≡ Err r → (f : Flaw) × (r ≡ refusal_of no_key f) × OfHead l f
    by (Ok tt) p (Some k) q = absurd (let z : ◌≡◌ {A = ℕ} 0 1 = cc in omega arith)
    by (Ok tt) p None q = absurd (let z : ◌≡◌ {A = ℕ} 0 1 = cc in omega arith)
    by (Err f) p n q = (f, let z : refusal_of no_key f ≡ r = cc in sym z, head-refuses l f p)

map-refuses : (l : List ℕ) (room : ℕ) → Every (OfMarked l room) (marked_fault l room)
unfolding marked_fault
map-refuses l room =
    every-next (OfMarked l room) (log_fault l) _ (λ f e. marked-log (log-refuses l f e))
    (λ a. every-unless (OfMarked l room) (leb (page_count l / 8) room) _ (λ e. map-small (leb-false _ _ e)))

pub marked-refuses : (l : List ℕ) (room : ℕ) {r : Refusal} → marked_answer l room ≡ Err r → (f : Flaw) × (r ≡ refusal_of no_key f) × OfMarked l room f
unfolding marked_answer
marked-refuses l room {r} e = by (marked_fault l room) refl e
  where
    by : (v : Verdict) → marked_fault l room ≡ v → marked_by v (logged_count l) ≡ Err r → (f : Flaw) × (r ≡ refusal_of no_key f) × OfMarked l room f
    by (Ok tt) p q = absurd (let z : ◌≡◌ {A = ℕ} 0 1 = cc in omega arith)
    by (Err f) p q = (f, let z : refusal_of no_key f ≡ r = cc in sym z, map-refuses l room f p)

pub facts-refuses : (l : List ℕ) {r : Refusal} → facts_answer l ≡ Err r → (f : Flaw) × (r ≡ refusal_of no_key f) × OfLog l f
unfolding facts_answer
facts-refuses l {r} e = by (log_fault l) refl e
  where
    by : (v : Verdict) → log_fault l ≡ v → facts_tested v (Ok (facts_of l)) ≡ Err r → (f : Flaw) × (r ≡ refusal_of no_key f) × OfLog l f
    by (Ok tt) p q = absurd (let z : ◌≡◌ {A = ℕ} 0 1 = cc in omega arith)
    by (Err f) p q = (f, let z : refusal_of no_key f ≡ r = cc in sym z, log-refuses l f p)
