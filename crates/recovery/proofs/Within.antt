-- The files that a repair can reach: the hive with some of the logged pages in. The tests answer for them as for the hive.
use Prim.Native.Nat.{ℕ, ◌+◌, ◌*◌, ◌≤◌, ◌<◌}
use native.Mathlib.Decide.{ℕ_discrete}
use native.Mathlib.Omega.{arith}
use mathlib.Core.Path.{◌≡◌, refl, sym, ap, subst, ◌∙◌}
use mathlib.Core.Logic.{◌⊎◌, inl, inr}
use mathlib.Core.Bool.{Bool, true, false, cond}
use mathlib.Core.List.{List, Memᴰ}
use lib.ListN.{length, take, drop}
use lib.Seq.{take-take}
use borrow.Author.Tests.{le-leb}
use Rattle.fields.specs.declared.Fault.TheVariants.{NotDirty, NotIn}
use Rattle.fields.specs.Faults.{flaw, nowhere, no_key, refusal_of, Verdict}
use Rattle.fields.proofs.Firsts.{sound, holds}
use Rattle.base.specs.Block.{sector, clean}
use Rattle.sectors.specs.Sector.{stored, page_place, page}
use Rattle.sectors.proofs.Stored.{stored-length, stored-take, stored-drop}
use Rattle.sectors.proofs.Pages.{page-same, page-other}
use Rattle.logs.specs.Logs.{log_bins, page_count, is_logged, logged_count, versions_of, logged, applies, all_in, closing_of}
use Rattle.logs.proofs.Laws.{head_of, bins-sized, logged-below, version-logged, version-length, logged-version, logged-length, half-applies, all_in_lem, in_all}
use Rattle.recovery.specs.declared.Started.TheVariants.{Pages}
use Rattle.recovery.specs.declared.Stepped.TheVariants.{Done}
use Rattle.recovery.specs.Calls.{hive_fault, test_fault, started, start_answer, changed, page_answer, page_hive, closed, close_answer, close_hive}
use Rattle.recovery.specs.Finished.{AllIn}
use Rattle.recovery.proofs.Ways.{Passed, passed, Begun, begun, by_tests}
use Rattle.recovery.proofs.ByStart.{page-answer, page-hive, close-answer}
use Rattle.fields.specs.declared.Refusal.{Refusal}
use Rattle.recovery.specs.declared.Stepped.{Stepped}
use Rattle.std.specs.Prelude.{Err, Ok, Result}

-- page p as the hive has it, or a version of it that the log has
abbrev pub Version : List ℕ → List ℕ → ℕ → List ℕ → Type 0
Version h l p x = (x ≡ page h p) ⊎ Memᴰ x (versions_of l p)

-- d is h but for some of the logged pages. By sectors and not by bytes: bytes 20 to 27 of page 0 are old together or new together.
pub record Within (h l d : List ℕ) : Type 0 where
  pub long : length d ≡ length h
  pub front : take 4096 d ≡ take 4096 h
  pub pages : (p : ℕ) → p < page_count l → Version h l p (page d p)
  pub back : drop (4096 + 512 * page_count l) d ≡ drop (4096 + 512 * page_count l) h

pub within-self : (h l : List ℕ) → Within h l h
within-self h l = record { long = refl; front = refl; pages = λ p g. inl refl; back = refl }

module _ (h l : List ℕ) (n : ℕ) (ok : start_answer h l ≡ Ok (Pages n)) where
  abbrev pub said : Begun h l n
  said = begun h l n ok

  abbrev pub good : Passed h l
  good = passed h l said.tests

  -- a page below the bins' end lies in the hive
  pub inside : (p : ℕ) → p < page_count l → page_place p + 512 ≤ length h
  inside p g = omega (arith, good.room)

  -- ---- the store of any version of a page

  pub within-version : (d : List ℕ) → Within h l d → (p : ℕ) (new : List ℕ) → Memᴰ new (versions_of l p) → Within h l (stored d (page_place p) new)
  within-version d w p new v =
      let g = logged-below l good.log p (version-logged l p new v) in
      let m = version-length l good.log p new v in
      let fits : page_place p + 512 ≤ length d = omega (arith, inside p g, w.long) in
      record {
        long = stored-length d (page_place p) new m fits ∙ w.long;
        front = stored-take d (page_place p) new m fits 4096 (omega arith) ∙ w.front;
        pages = λ q k. at m fits q k (ℕ_discrete q p);
        back = stored-drop d (page_place p) new m fits (4096 + 512 * page_count l) (omega arith) ∙ w.back;
      }
    where
      at : length new ≡ 512 → page_place p + 512 ≤ length d → (q : ℕ) → q < page_count l → Dec (q ≡ p) → Version h l q (page (stored d (page_place p) new) q)
      at m fits q k (yes e) =
          subst (λ (x : ℕ). Version h l x (page (stored d (page_place p) new) x)) (sym e)
          (subst (λ (x : List ℕ). Version h l p x) (sym (page-same d p new m fits)) (inr v))
      at m fits q k (no e) = subst (λ (x : List ℕ). Version h l q x) (sym (page-other d p new m fits q e)) (w.pages q k)

  module _ (d : List ℕ) (w : Within h l d) where
    -- ---- the tests

    pub base_same : sector d ≡ sector h
    base_same = sym (take-take 512 4096 d (omega arith)) ∙ ap (take 512) w.front ∙ take-take 512 4096 h (omega arith)

    stamps-stay : applies d l ≡ true
    stamps-stay =
        let size = bins-sized l (head_of l good.log) in
        half-applies h l d base_same (w.pages 0 (omega (arith, size.some, size.pages))) good.stamps

    tests-stay : test_fault d l ≡ Ok tt
    unfolding test_fault hive_fault
    tests-stay = sound _ _ good.log (sound _ _ (holds _ (le-leb (4096 + log_bins l) (length d) (omega (arith, good.room, w.long)))) (holds _ stamps-stay))

    pub unclean : clean (sector d) ≡ false
    unclean = ap clean base_same ∙ said.unclean

    -- the same log is accepted with the same count
    pub reached : start_answer d l ≡ Ok (Pages n)
    reached =
        by_tests d l (omega (arith, said.long, w.long)) unclean ∙ ap (λ (v : Verdict). started v (logged_count l)) tests-stay
        ∙ ap (λ (x : ℕ). Ok (Pages x)) said.count

    -- ---- a page call

    pub page-done : (p : ℕ) → is_logged l p ≡ true → page_answer d l p ≡ Ok Done
    page-done p e =
        page-answer d l (Ok (Pages n)) reached p ∙ ap (λ (b : Bool). cond b (Ok Done) (Err (refusal_of no_key (flaw NotDirty nowhere)))) e

    -- and only where the page is logged
    pub done-logged : (p : ℕ) → page_answer d l p ≡ Ok Done → is_logged l p ≡ true
    done-logged p e = go (is_logged l p) (sym (page-answer d l (Ok (Pages n)) reached p) ∙ e)
      where
        go : (b : Bool) → cond b (Ok Done) (Err (refusal_of no_key (flaw NotDirty nowhere))) ≡ Ok Done → b ≡ true
        go true e = refl
        go false e = absurd (let z : ◌≡◌ {A = ℕ} 0 1 = cc in omega arith)

    pub page-stores : (p : ℕ) → is_logged l p ≡ true → page_hive d l p ≡ stored d (page_place p) (logged l p)
    page-stores p e =
        page-hive d l (Ok (Pages n)) reached p
        ∙ ap (λ (b : Bool). changed (cond b (Ok Done) (Err (refusal_of no_key (flaw NotDirty nowhere)))) (stored d (page_place p) (logged l p)) d) e

    pub page-not : (p : ℕ) → is_logged l p ≡ false → page_hive d l p ≡ d
    page-not p e =
        page-hive d l (Ok (Pages n)) reached p
        ∙ ap (λ (b : Bool). changed (cond b (Ok Done) (Err (refusal_of no_key (flaw NotDirty nowhere)))) (stored d (page_place p) (logged l p)) d) e

    pub within-page : (p : ℕ) → Within h l (page_hive d l p)
    within-page p = go (is_logged l p) refl
      where
        go : (m : Bool) → is_logged l p ≡ m → Within h l (page_hive d l p)
        go true e =
            subst (Within h l) (sym (page-stores p e))
            (within-version d w p (logged l p) (logged-version l p e))
        go false e = subst (Within h l) (sym (page-not p e)) w

    -- its own page is in, and every other page stays
    pub page-is : (p : ℕ) → is_logged l p ≡ true → page (page_hive d l p) p ≡ logged l p
    page-is p e =
        let fits : page_place p + 512 ≤ length d = omega (arith, inside p (logged-below l good.log p e), w.long) in
        ap (λ (x : List ℕ). page x p) (page-stores p e) ∙ page-same d p (logged l p) (logged-length l good.log p e) fits

    pub page-stays : (p q : ℕ) → (q ≡ p → ⊥) → page (page_hive d l p) q ≡ page d q
    page-stays p q s = go (is_logged l p) refl
      where
        go : (m : Bool) → is_logged l p ≡ m → page (page_hive d l p) q ≡ page d q
        go true e =
            let fits : page_place p + 512 ≤ length d = omega (arith, inside p (logged-below l good.log p e), w.long) in
            ap (λ (x : List ℕ). page x q) (page-stores p e) ∙ page-other d p (logged l p) (logged-length l good.log p e) fits q s
        go false e = ap (λ (x : List ℕ). page x q) (page-not p e)

    -- ---- the closing call

    closing : close_answer d l ≡ closed d l
    closing = close-answer d l (Ok (Pages n)) reached

    pub close-all : close_answer d l ≡ Ok Done → AllIn d l
    close-all e p m = all_in_lem d l good.log (go (all_in d l) (sym closing ∙ e)) p m
      where
        go : (b : Bool) → cond b (Ok Done) (Err (refusal_of no_key (flaw NotIn nowhere))) ≡ Ok Done → b ≡ true
        go true e = refl
        go false e = absurd (let z : ◌≡◌ {A = ℕ} 0 1 = cc in omega arith)

    pub all-close : AllIn d l → close_answer d l ≡ Ok Done
    all-close i = closing ∙ ap (λ (b : Bool). cond b (Ok Done) (Err (refusal_of no_key (flaw NotIn nowhere)))) (in_all d l i)

    pub close-stores : AllIn d l → close_hive d l ≡ stored d 0 (closing_of l)
    unfolding close_hive
    close-stores i = ap (λ (a : Result Stepped Refusal). changed a (stored d 0 (closing_of l)) d) (all-close i)
