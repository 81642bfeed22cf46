-- What the crates above may know of a base block: what its soundness says, and that a file that is not clean is refused by the reader.
use Prim.Native.Nat.{ℕ, ◌+◌, ◌%◌, ◌^◌, ◌<◌, ◌≤◌}
use native.Mathlib.Omega.{arith}
use mathlib.Core.Path.{◌≡◌, refl, ap}
use mathlib.Core.Bool.{Bool, true, false, cond, not}
use mathlib.Core.List.{List}
use lib.Dec.{eqb, leb, lit<}
use lib.ListN.{length, length-take}
use borrow.Author.Tests.{le-leb, leb-true, eqb-true, eqb-false, eq-eqb, ne_eqb, not-true}
use Rattle.fields.specs.declared.Flaw.{Flaw}
use Rattle.fields.specs.declared.Fault.TheVariants.{HiveShort, NoRegf, Checksum, Version, BinsCut, Sequences}
use Rattle.fields.specs.Faults.{flaw, nowhere, unless, is_sound, Verdict}
use Rattle.fields.proofs.Firsts.{both, held, holds, sound, is-sound}
use Rattle.fields.proofs.Bools.{and-inv, and_both, never}
use Rattle.base.specs.Block.{sector, is_regf, as_stored, is_summed, is_version, bins_of, bins_limit, is_bins_size, usable, is_settled, clean, block_fault, base_fault}
use Rattle.std.specs.Prelude.{Err, Ok}

-- what is stored for a 32-bit XOR is a 32-bit number
pub as_stored-lt : (x : ℕ) → x < 2 ^ 32 → as_stored x < 2 ^ 32
unfolding as_stored
as_stored-lt x h = pick (eqb x 0) (eqb x 4294967295)
  where
    pick : (none all : Bool) → cond none 1 (cond all 4294967294 x) < 2 ^ 32
    pick true all = lit< tt
    pick false true = lit< tt
    pick false false = h

-- a bins size field that passes
pub record Sized (n : ℕ) : Type 0 where
  pub some : 0 < n
  pub pages : n % 4096 ≡ 0
  pub limit : n ≤ bins_limit

pub sized : (n : ℕ) → is_bins_size n ≡ true → Sized n
unfolding is_bins_size
sized n e =
    let a = and-inv (not (eqb n 0)) _ e in
    let b = and-inv (eqb (n % 4096) 0) _ a.1 in
    let z = eqb-false n 0 (not-true (eqb n 0) a.0) in
    record { some = omega arith; pages = eqb-true (n % 4096) 0 b.0; limit = leb-true n bins_limit b.1 }

pub sized-bins : {n : ℕ} → Sized n → is_bins_size n ≡ true
unfolding is_bins_size
sized-bins {n} f =
    and_both (ap not (ne_eqb n 0 (λ z. omega (arith, f.some)))) (and_both (eq-eqb (n % 4096) 0 f.pages) (le-leb n bins_limit f.limit))

module _ (s : List ℕ) (type : ℕ) where
  -- the tests 2 to 5 pass exactly when the block is usable
  usable-block : usable s type ≡ true → block_fault s type ≡ Ok tt
  unfolding usable
  usable-block e = is-sound (block_fault s type) e

  block-usable : block_fault s type ≡ Ok tt → usable s type ≡ true
  unfolding usable
  block-usable e = ap is_sound e

  -- what a usable block is, test by test
  pub usable-facts : usable s type ≡ true → (is_regf s ≡ true) × (is_summed s ≡ true) × (is_version s type ≡ true) × (is_bins_size (bins_of s) ≡ true)
  unfolding block_fault
  usable-facts e =
      let a = both (unless (is_regf s) (flaw NoRegf nowhere)) _ (usable-block e) in
      let b = both (unless (is_summed s) (flaw Checksum nowhere)) _ a.1 in
      let d = both (unless (is_version s type) (flaw Version nowhere)) _ b.1 in
      (held (is_regf s) _ a.0, held (is_summed s) _ b.0, held (is_version s type) _ d.0, held (is_bins_size (bins_of s)) _ d.1)

  pub facts-usable : is_regf s ≡ true → is_summed s ≡ true → is_version s type ≡ true → is_bins_size (bins_of s) ≡ true → usable s type ≡ true
  unfolding block_fault
  facts-usable p q r t = block-usable (sound _ _ (holds _ p) (sound _ _ (holds _ q) (sound _ _ (holds _ r) (holds _ t))))

  pub usable-sized : usable s type ≡ true → Sized (bins_of s)
  usable-sized e = sized (bins_of s) (usable-facts e).3

-- and what a clean one is
pub facts-clean : (s : List ℕ) → is_regf s ≡ true → is_summed s ≡ true → is_version s 0 ≡ true → is_bins_size (bins_of s) ≡ true → is_settled s ≡ true → clean s ≡ true
unfolding clean
facts-clean s p q r t e = and_both (facts-usable s 0 p q r t) e

-- a hive that passes the tests 1 to 7
pub record Base (h : List ℕ) : Type 0 where
  pub is-clean : clean (sector h) ≡ true
  pub size : Sized (bins_of (sector h))
  pub inside : 4096 + bins_of (sector h) ≤ length h

module _ (h : List ℕ) where
  pub base-facts : base_fault h ≡ Ok tt → Base h
  unfolding base_fault clean
  base-facts e =
      let a = both (unless (leb 4096 (length h)) (flaw HiveShort nowhere)) _ e in
      let b = both (block_fault (sector h) 0) _ a.1 in
      let d = both (unless (leb (4096 + bins_of (sector h)) (length h)) (flaw BinsCut nowhere)) _ b.1 in
      let u = block-usable (sector h) 0 b.0 in
      record {
        is-clean = and_both u (held (is_settled (sector h)) (flaw Sequences nowhere) d.1);
        size = usable-sized (sector h) 0 u;
        inside = leb-true _ _ (held (leb (4096 + bins_of (sector h)) (length h)) (flaw BinsCut nowhere) d.0);
      }

  -- so the bins end inside the file
  pub bins_inside : base_fault h ≡ Ok tt → 4096 + bins_of (sector h) ≤ length h
  bins_inside e = (base-facts e).inside

  pub whole_sector : 512 ≤ length h → length (sector h) ≡ 512
  whole_sector p = simp length-take (omega arith)

  -- and the converse: 1 to 7 are nothing else
  pub facts-base : clean (sector h) ≡ true → 4096 + bins_of (sector h) ≤ length h → base_fault h ≡ Ok tt
  unfolding base_fault clean
  facts-base e p =
      let a = and-inv (usable (sector h) 0) _ e in
      sound _ _ (holds _ (le-leb 4096 (length h) (omega arith)))
      (sound _ _ (usable-block (sector h) 0 a.0) (sound _ _ (holds _ (le-leb _ _ p)) (holds _ a.1)))

  -- a file that is not clean is refused by the reader, with one of 1 to 7
  pub unclean-refused : clean (sector h) ≡ false → (f : Flaw) × (base_fault h ≡ Err f)
  unclean-refused e = by (base_fault h) refl
    where
      by : (v : Verdict) → base_fault h ≡ v → (f : Flaw) × (base_fault h ≡ Err f)
      by (Ok tt) p = absurd (never _ (base-facts p).is-clean e)
      by (Err f) p = (f, p)
