-- All pages at once are page calls in a row, so they and a closing call give the finished file; and the map of the logged pages is that.
use Prim.Native.Nat.{ℕ, zero, suc, ◌/◌, ◌%◌, ◌^◌, ◌<◌}
use native.Mathlib.Decide.{ℕ_discrete}
use native.Mathlib.Nat.{not-suc-le-zero}
use native.Mathlib.Omega.{arith}
use mathlib.Core.Path.{◌≡◌, refl, sym, ap, subst, ◌∙◌}
use mathlib.Core.Bool.{Bool, true, false, cond}
use mathlib.Core.List.Memᴰ
use mathlib.Core.List.{List, [], ◌∷◌, ◌++◌, append-nil, Memᴰ}
use lib.Dec.{eqb}
use lib.ListN.{length, drop, get_or-append}
use Rattle.fields.proofs.Firsts.{both}
use Rattle.bitmap.specs.Bits.{is_marked}
use Rattle.sectors.specs.Sector.{stored, page_place}
use Rattle.sectors.specs.Logged.{put_one, put_below}
use Rattle.logs.specs.Logs.{log_fault, page_count, is_logged, logged_count, logged, marks_of, all_put}
use Rattle.logs.proofs.Laws.{head_of, bins-sized, logged-below, marks-length, marks-logged}
use Rattle.recovery.specs.declared.Started.TheVariants.{Pages}
use Rattle.recovery.specs.Calls.{start_answer, page_hive, close_hive}
use Rattle.recovery.specs.Finished.{finished, after_pages, Covers}
use Rattle.recovery.specs.AtOnce.{logged_below, logged_pages, all_hive, marked_fault, marked_by, marked_answer, where_marked, marked_map}
use Rattle.recovery.proofs.ByStart.{all-hive}
use Rattle.recovery.proofs.Within.{Within, within-self, good, page-stores}
use Rattle.recovery.proofs.Repair.{pages-within, repaired}
use Rattle.fields.specs.Faults.{Verdict}
use Rattle.std.specs.Prelude.{Err, Ok}

after_both : (l ps qs h : List ℕ) → after_pages h l (ps ++ qs) ≡ after_pages (after_pages h l ps) l qs
unfolding after_pages
after_both l [] qs h = refl
after_both l (p ∷ ps) qs h = after_both l ps qs (page_hive h l p)

-- a logged page below k is among those listed
below-has : (l : List ℕ) (k p : ℕ) → p < k → is_logged l p ≡ true → Memᴰ p (logged_below k l)
unfolding logged_below
below-has l zero p g m = absurd (not-suc-le-zero g)
below-has l (suc k) p g m = go (ℕ_discrete p k) (below-has l k p)
  where
    go : Dec (p ≡ k) → (p < k → is_logged l p ≡ true → Memᴰ p (logged_below k l)) → Memᴰ p (logged_below k l ++ cond (is_logged l k) (k ∷ []) [])
    go (yes e) rest =
        Memᴰ.append_right (logged_below k l)
        (subst (λ (b : Bool). Memᴰ p (cond b (k ∷ []) [])) (sym m ∙ ap (is_logged l) e) (Memᴰ.head e))
    go (no e) rest = Memᴰ.append_left (cond (is_logged l k) (k ∷ []) []) (rest (omega arith) m)

module _ (h l : List ℕ) (n : ℕ) (ok : start_answer h l ≡ Ok (Pages n)) where
  -- the hive once the pages below p are done
  abbrev so_far : ℕ → List ℕ
  so_far p = after_pages h l (logged_below p l)

  so-far-within : (p : ℕ) → Within h l (so_far p)
  so-far-within p = pages-within h l n ok (logged_below p l) h (within-self h l)

  one_more : (p : ℕ) → so_far (suc p) ≡ put_one (is_logged l) (logged l) p (so_far p)
  unfolding logged_below after_pages
  one_more p = go (is_logged l p) refl
    where
      go : (b : Bool) → is_logged l p ≡ b
          → after_pages h l (logged_below p l ++ cond b (p ∷ []) []) ≡ cond b (stored (so_far p) (page_place p) (logged l p)) (so_far p)
      go true e = after_both l (logged_below p l) (p ∷ []) h ∙ page-stores h l n ok (so_far p) (so-far-within p) p e
      go false e = ap (after_pages h l) (append-nil (logged_below p l))

  put-below : (p : ℕ) → put_below (is_logged l) (logged l) p h ≡ so_far p
  unfolding put_below logged_below after_pages
  put-below zero = refl
  put-below (suc p) = ap (put_one (is_logged l) (logged l) p) (put-below p) ∙ sym (one_more p)

  -- all logged pages put in are page calls in a row
  pub all-put : all_put h l ≡ after_pages h l (logged_pages l)
  all-put = put-below (page_count l)

  pub all-covered : Covers l (logged_pages l)
  all-covered p m = below-has l (page_count l) p (logged-below l (good h l n ok).log p m) m

  pub at_once : close_hive (all_hive h l) l ≡ finished h l
  at_once = ap (λ (d : List ℕ). close_hive d l) (all-hive h l (Ok (Pages n)) ok) ∙ (repaired h l n ok (logged_pages l) all-covered).file

-- the map has each logged page's bit set, and no other of the bins' pages
pub marked-right : (l m : List ℕ) (n : ℕ) → marked_answer l (length m) ≡ Ok n
    → (n ≡ logged_count l) × ((p : ℕ) → p < page_count l → is_marked (marked_map l m) p ≡ is_logged l p)
unfolding marked_answer marked_map marked_fault
marked-right l m n e = by (marked_fault l (length m)) refl e
  where
    by : (v : Verdict) → marked_fault l (length m) ≡ v → marked_by v (logged_count l) ≡ Ok n
        → (n ≡ logged_count l) × ((p : ℕ) → p < page_count l → is_marked (where_marked (marked_by v (logged_count l)) (marks_of l ++ drop (page_count l / 8) m) m) p ≡ is_logged l p)
    by (Err f) q w = absurd (let z : ◌≡◌ {A = ℕ} 0 1 = cc in omega arith)
    by (Ok tt) q w =
        let k = (both (log_fault l) _ q).0 in
        let size = (bins-sized l (head_of l k)).pages in (
          let z : logged_count l ≡ n = cc in sym z,
          λ p g. ap (λ (b : ℕ). eqb (b / 2 ^ (p % 8) % 2) 1) (get_or-append (marks_of l) (drop (page_count l / 8) m) 0 (p / 8) (omega (arith, marks-length l k, size))) ∙ marks-logged l k p,
        )
