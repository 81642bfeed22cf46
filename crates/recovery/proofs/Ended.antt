-- The finished file: its closing sector is clean, its logged pages are in, and every later call leaves it alone.
use Prim.Native.Nat.{ℕ, zero, suc, ◌≤◌, ◌<◌}
use native.Mathlib.Decide.{ℕ_discrete}
use native.Mathlib.Nat.{not-suc-le-zero}
use native.Mathlib.Omega.{arith}
use mathlib.Core.Path.{◌≡◌, sym, ap, ◌∙◌}
use mathlib.Core.Bool.{true}
use mathlib.Core.List.{List, [], ◌∷◌, Memᴰ}
use lib.ListN.{length}
use Rattle.base.specs.Block.{clean}
use Rattle.sectors.specs.Sector.{sector_at, stored, page, Bytes}
use Rattle.sectors.proofs.Stored.{stored-length, stored_same}
use Rattle.sectors.proofs.Pages.{page-closed}
use Rattle.logs.specs.Logs.{page_count, is_logged, logged}
use Rattle.logs.proofs.Laws.{logged-below, closing-clean}
use Rattle.recovery.specs.declared.Started.TheVariants as start
use Rattle.recovery.specs.declared.Stepped.TheVariants as step
use Rattle.recovery.specs.Calls.{start_answer, page_answer, page_hive, close_answer, close_hive}
use Rattle.recovery.specs.Finished.{finished, after_pages, AllIn}
use Rattle.recovery.proofs.Ways.{is-clean}
use Rattle.recovery.proofs.ByStart.{page-answer, page-hive, close-answer, close-hive}
use Rattle.recovery.proofs.Within.{Within, within-self, said, good}
use Rattle.recovery.proofs.Repair.{lid, lid-length, finished-is, pages-within, covered}
use Rattle.std.specs.Prelude.{Ok}

-- ---- where the start says clean, every call does, and changes nothing

module _ (d l : List ℕ) (e : start_answer d l ≡ Ok start.Clean) where
  pub clean-page : (p : ℕ) → (page_answer d l p ≡ Ok step.Clean) × (page_hive d l p ≡ d)
  clean-page p = (page-answer d l (Ok start.Clean) e p, page-hive d l (Ok start.Clean) e p)

  pub clean_close : (close_answer d l ≡ Ok step.Clean) × (close_hive d l ≡ d)
  clean_close = (close-answer d l (Ok start.Clean) e, close-hive d l (Ok start.Clean) e)

-- ---- all page numbers below n

below : ℕ → List ℕ
below zero = []
below (suc n) = n ∷ below n

below_all : (n p : ℕ) → p < n → Memᴰ p (below n)
unfolding below
below_all zero p g = absurd (not-suc-le-zero g)
below_all (suc n) p g = go (below_all n p) (ℕ_discrete p n)
  where
    go : (p < n → Memᴰ p (below n)) → Dec (p ≡ n) → Memᴰ p (n ∷ below n)
    go rest (yes e) = Memᴰ.head e
    go rest (no e) = Memᴰ.tail (rest (omega arith))

module _ (h l : List ℕ) (n : ℕ) (ok : start_answer h l ≡ Ok (start.Pages n)) where
  whole : List ℕ
  whole = after_pages h l (below (page_count l))

  whole-within : Within h l whole
  unfolding whole
  whole-within = pages-within h l n ok (below (page_count l)) h (within-self h l)

  whole_in : AllIn whole l
  unfolding whole
  whole_in = covered h l n ok (below (page_count l)) h (within-self h l) (λ p m. below_all (page_count l) p (logged-below l (good h l n ok).log p m))

  whole_long : 4096 ≤ length whole
  whole_long = omega (arith, (said h l n ok).long, whole-within.long)

  end_is : finished h l ≡ stored whole 0 (lid h l n ok)
  end_is = sym (finished-is h l n ok whole whole-within whole_in)

  pub end-length : length (finished h l) ≡ length h
  end-length = ap length end_is ∙ stored-length whole 0 (lid h l n ok) (lid-length h l n ok) (omega (arith, whole_long)) ∙ whole-within.long

  pub end-lid : sector_at (finished h l) 0 ≡ lid h l n ok
  end-lid = ap (λ (x : List ℕ). sector_at x 0) end_is ∙ stored_same whole 0 (lid h l n ok) (lid-length h l n ok) (omega (arith, whole_long))

  pub end-page : (p : ℕ) → is_logged l p ≡ true → page (finished h l) p ≡ logged l p
  end-page p e =
      ap (λ (x : List ℕ). page x p) end_is ∙ page-closed whole (lid h l n ok) (lid-length h l n ok) (omega (arith, whole_long)) p ∙ whole_in p e

  module _ (bytes : Bytes l) where
    lid-clean : clean (lid h l n ok) ≡ true
    lid-clean = closing-clean l (good h l n ok).log bytes

    -- whatever log is lent, the start says clean
    pub end_clean : (l' : List ℕ) → start_answer (finished h l) l' ≡ Ok start.Clean
    end_clean l' = is-clean (finished h l) l' (omega (arith, end-length, (said h l n ok).long)) (ap clean end-lid ∙ lid-clean)
