-- The tests of the base block, as the code asks them: one after the other.
use Rattle.std.proofs.Common.{ℕ, ◌≡◌, ◌+◌, ◌<◌, ◌≤◌, List, length, eqb, leb, cond, Err, Ok}
use borrow.Author.Tests.{le-leb, lt-leb, eq-eqb}
use Rattle.fields.specs.declared.Flaw.{Flaw}
use Rattle.fields.specs.declared.Fault.TheVariants.{HiveShort, NoRegf, Checksum, Version, BinsSize, BinsCut, Sequences}
use Rattle.fields.specs.Number.{u32_at}
use Rattle.fields.specs.Faults.{flaw, nowhere, unless}
use Rattle.fields.proofs.Firsts.{on, stop, unless_next}
use Rattle.base.specs.Block.{sector, is_regf, is_summed, is_version, bins_of, is_bins_size, is_settled, block_fault, base_fault}

module _ (s : List ℕ) (type : ℕ) where
  pub block_tests : block_fault s type
      ≡ cond (is_regf s) (cond (is_summed s) (cond (is_version s type)
      (unless (is_bins_size (bins_of s)) (flaw BinsSize nowhere)) (Err (flaw Version nowhere))) (Err (flaw Checksum nowhere))) (Err (flaw NoRegf nowhere))
  unfolding block_fault
  block_tests = simp unless_next

  -- the version test, where all but the clustering factor is right
  pub by-clustering : (u32_at s 20 ≡ 1) → (3 ≤ u32_at s 24) → (u32_at s 24 ≤ 5) → u32_at s 28 ≡ type → u32_at s 32 ≡ 1
      → is_version s type ≡ eqb (u32_at s 44) 1
  unfolding is_version
  by-clustering major low high p q = simp (eq-eqb _ _ major, le-leb _ _ low, le-leb _ _ high, eq-eqb _ _ p, eq-eqb _ _ q)

module _ (h : List ℕ) where
  pub short : length h < 4096 → base_fault h ≡ Err (flaw HiveShort nowhere)
  unfolding base_fault
  short p = simp (unless_next, lt-leb _ _ p)

  pub no_block : (f : Flaw) → 4096 ≤ length h → block_fault (sector h) 0 ≡ Err f → base_fault h ≡ Err f
  unfolding base_fault
  no_block f p e = simp (unless_next, le-leb _ _ p) (stop _ _ e)

  pub past_block : 4096 ≤ length h → block_fault (sector h) 0 ≡ Ok tt
      → base_fault h ≡ cond (leb (4096 + bins_of (sector h)) (length h)) (unless (is_settled (sector h)) (flaw Sequences nowhere)) (Err (flaw BinsCut nowhere))
  unfolding base_fault
  past_block p e = simp (unless_next, le-leb _ _ p) (on _ _ e)
