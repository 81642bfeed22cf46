-- Every refusal of an old log by itself says why.
use Prim.Native.Nat.{ℕ, ◌+◌, ◌*◌}
use native.Mathlib.Omega.{arith}
use mathlib.Core.Path.{◌≡◌, refl}
use mathlib.Core.Bool.{Bool, true, false, ◌||◌}
use mathlib.Core.List.{List}
use lib.Dec.{eqb, leb}
use lib.ListN.{length}
use borrow.Author.Tests.{leb-false, eqb-false}
use Rattle.fields.specs.declared.Fault.TheVariants as named
use Rattle.fields.specs.Bytes.{stands_at}
use Rattle.fields.specs.Faults.{flaw, nowhere, unless}
use Rattle.fields.proofs.Every.{Every, every-unless, every-next}
use Rattle.base.specs.Block.{sector}
use Rattle.old_log.specs.Layout.{map_size, logged_count, pages_at, dirt}
use Rattle.old_log.specs.Tests.{is_log_base, pages_fit, head_fault, log_fault}
use Rattle.old_log.specs.Refused.{OfHead, log-short, no-log-base, bitmap-cut, no-dirt, OfLog, of-head, pages-cut}

module _ (l : List ℕ) where
  pages-short : (a b : Bool) → a || b ≡ false → (a ≡ false) × (b ≡ false)
  pages-short false b e = (refl, e)
  pages-short true b e = absurd (let z : ◌≡◌ {A = ℕ} 0 1 = cc in omega arith)

  pub head-refuses : Every (OfHead l) (head_fault l)
  unfolding head_fault
  head-refuses =
      every-next (OfHead l) (unless (leb 512 (length l)) (flaw named.LogBase nowhere)) _
      (every-unless (OfHead l) (leb 512 (length l)) _ (λ e. log-short (leb-false _ _ e)))
      (λ a. every-next (OfHead l) (unless (is_log_base (sector l)) (flaw named.LogBase nowhere)) _
      (every-unless (OfHead l) (is_log_base (sector l)) _ (λ e. no-log-base e))
      (λ b. every-next (OfHead l) (unless (leb (516 + map_size l) (length l)) (flaw named.LogShort nowhere)) _
      (every-unless (OfHead l) (leb (516 + map_size l) (length l)) _ (λ e. bitmap-cut (leb-false _ _ e)))
      (λ c. every-unless (OfHead l) (stands_at l 512 dirt) _ (λ e. no-dirt e))))

  pub log-refuses : Every (OfLog l) (log_fault l)
  unfolding log_fault
  log-refuses =
      every-next (OfLog l) (head_fault l) _ (λ f e. of-head (head-refuses f e))
      (λ s. every-unless (OfLog l) (pages_fit l) _
      (λ e. let p = pages-short (eqb (logged_count l) 0) (leb (pages_at l + 512 * logged_count l) (length l)) e in pages-cut (eqb-false _ _ p.0) (leb-false _ _ p.1)))
