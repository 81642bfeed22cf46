-- A refusal of the base block says why.
use Prim.Native.Nat.{ℕ, ◌+◌, ◌≤◌}
use native.Mathlib.Omega.{arith}
use mathlib.Core.List.{List}
use lib.Dec.{leb}
use lib.ListN.{length}
use borrow.Author.Tests.{leb-false, eqb-false}
use Rattle.fields.specs.declared.Flaw.{Flaw}
use Rattle.fields.specs.declared.Fault.TheVariants.{HiveShort, NoRegf, Checksum, Version, BinsCut}
use Rattle.fields.specs.Faults.{number_of, flaw, nowhere, unless}
use Rattle.fields.proofs.Every.{Every, every-next, every-unless}
use Rattle.base.specs.Block.{sector, is_regf, is_summed, is_version, bins_of, is_bins_size, is_settled, block_fault, base_fault}
use Rattle.base.specs.Refused.{OfBase, hive-short, no-regf, other-checksum, other-version, no-bins-size, bins-cut, sequences-differ}

module _ (h : List ℕ) where
  block-refuses : Every (OfBase h) (block_fault (sector h) 0)
  unfolding block_fault
  block-refuses =
      every-next (OfBase h) (unless (is_regf (sector h)) (flaw NoRegf nowhere)) _ (every-unless (OfBase h) _ _ (λ e. no-regf e)) (λ a.
      every-next (OfBase h) (unless (is_summed (sector h)) (flaw Checksum nowhere)) _ (every-unless (OfBase h) _ _ (λ e. other-checksum (eqb-false _ _ e))) (λ b.
      every-next (OfBase h) (unless (is_version (sector h) 0) (flaw Version nowhere)) _ (every-unless (OfBase h) _ _ (λ e. other-version e)) (λ c.
      every-unless (OfBase h) (is_bins_size (bins_of (sector h))) _ (λ e. no-bins-size e))))

  pub base-refuses : Every (OfBase h) (base_fault h)
  unfolding base_fault
  base-refuses =
      every-next (OfBase h) (unless (leb 4096 (length h)) (flaw HiveShort nowhere)) _ (every-unless (OfBase h) _ _ (λ e. hive-short (leb-false _ _ e))) (λ a.
      every-next (OfBase h) (block_fault (sector h) 0) _ block-refuses (λ b.
      every-next (OfBase h) (unless (leb (4096 + bins_of (sector h)) (length h)) (flaw BinsCut nowhere)) _
      (every-unless (OfBase h) _ _ (λ e. bins-cut (leb-false _ _ e)))
      (λ c. every-unless (OfBase h) (is_settled (sector h)) _ (λ e. sequences-differ (eqb-false _ _ e)))))

  -- its number is one of 1 to 7
  pub base-number : {f : Flaw} → OfBase h f → number_of f.fault ≤ 7
  base-number (hive-short p) = omega arith
  base-number (no-regf p) = omega arith
  base-number (other-checksum p) = omega arith
  base-number (other-version p) = omega arith
  base-number (no-bins-size p) = omega arith
  base-number (bins-cut p) = omega arith
  base-number (sequences-differ p) = omega arith
