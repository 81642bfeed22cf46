-- The closing sector of a log that passes its tests is a clean base block.
use Prim.Native.Nat.{ℕ, ◌<◌}
use native.Mathlib.Omega.{arith}
use mathlib.Core.Path.{◌≡◌, sym, ap, ◌∙◌}
use mathlib.Core.Logic.{inl, inr}
use mathlib.Core.Bool.{true}
use mathlib.Core.List.{List}
use lib.ListN.{length}
use lib.Seq.{sets, length-take-le}
use borrow.Author.Tests.{eq-eqb}
use Rattle.fields.specs.Number.{u32_at, le32}
use Rattle.base.specs.Block.{sector, is_regf, is_version, bins_of, is_bins_size, is_settled, usable, clean}
use Rattle.base.proofs.Laws.{usable-facts, sized-bins}
use Rattle.sectors.specs.Sector.{Bytes}
use Rattle.sectors.specs.Closing.{closing_sector}
use Rattle.sectors.proofs.Words.{put-length, put-bytes, u32-same, u32-other, take-bytes}
use Rattle.sectors.proofs.Closed as closed
use Rattle.log_entries.specs.Entries.{chain_of}
use Rattle.new_log.specs.Tests.{log_fault, renewed, closing_of}
use Rattle.log_entries.proofs.Counted as entries
use Rattle.new_log.proofs.Accepts.{tests-good}
use Rattle.new_log.proofs.Facts.{some-counted}
use Rattle.std.specs.Prelude.{Ok}

-- with the first sequence number, and with both
abbrev one : List ℕ → ℕ → List ℕ
one s n = sets s 4 (le32 n)

abbrev both : List ℕ → ℕ → List ℕ
both s n = sets (one s n) 8 (le32 n)

module _ (s : List ℕ) (n b : ℕ) (long : length s ≡ 512) where
  renewed-length : length (renewed s n b) ≡ 512
  renewed-length = put-length (both s n) 40 b ∙ put-length (one s n) 8 n ∙ put-length s 4 n ∙ long

  renewed-regf : is_regf (renewed s n b) ≡ is_regf s
  renewed-regf =
      closed.put-regf (both s n) 40 b (omega arith) ∙ closed.put-regf (one s n) 8 n (omega arith)
      ∙ closed.put-regf s 4 n (omega arith)

  renewed-version : (type : ℕ) → is_version (renewed s n b) type ≡ is_version s type
  renewed-version type =
      closed.put-version (both s n) 40 b (inr (inl (omega arith, omega arith))) type
      ∙ closed.put-version (one s n) 8 n (inl (omega arith)) type ∙ closed.put-version s 4 n (inl (omega arith)) type

  renewed-bins : b < 4294967296 → bins_of (renewed s n b) ≡ b
  renewed-bins h = u32-same (both s n) 40 b h (omega (arith, put-length (one s n) 8 n, put-length s 4 n))

  renewed-settled : n < 4294967296 → is_settled (renewed s n b) ≡ true
  renewed-settled h =
      let first : u32_at (renewed s n b) 4 ≡ n =
      u32-other (both s n) 40 b 4 (inl (omega arith)) ∙ u32-other (one s n) 8 n 4 (inl (omega arith)) ∙ u32-same s 4 n h (omega arith) in
      let second : u32_at (renewed s n b) 8 ≡ n =
      u32-other (both s n) 40 b 8 (inl (omega arith)) ∙ u32-same (one s n) 8 n h (omega (arith, put-length s 4 n)) in
      eq-eqb _ _ (first ∙ sym second)

  pub renewed-clean : Bytes s → usable s 6 ≡ true → n < 4294967296 → b < 4294967296 → is_bins_size b ≡ true → clean (closing_sector (renewed s n b)) ≡ true
  renewed-clean bytes u n-fits b-fits size =
      let a = usable-facts s 6 u in
      closed.closed-clean (renewed s n b) renewed-length
      (put-bytes (both s n) 40 b (put-bytes (one s n) 8 n (put-bytes s 4 n bytes)))
      6 (renewed-regf ∙ a.0) (renewed-version 6 ∙ a.2) (ap is_bins_size (renewed-bins b-fits) ∙ size) (renewed-settled n-fits)

module _ (l : List ℕ) (e : log_fault l ≡ Ok tt) where
  long : length (sector l) ≡ 512
  long = length-take-le 512 l (tests-good l e).log-long

  pub closing-length : length (closing_of l) ≡ 512
  unfolding closing_of
  closing-length =
      let n = (chain_of l).last in
      let b = (chain_of l).bins in
      closed.closing-length (renewed (sector l) n b) ∙ renewed-length (sector l) n b long

  pub closing-clean : Bytes l → clean (closing_of l) ≡ true
  unfolding closing_of
  closing-clean bytes =
      let size = entries.bins-sized l (some-counted l e) in
      renewed-clean (sector l) (chain_of l).last (chain_of l).bins long (take-bytes l bytes 512) (tests-good l e).log-usable (entries.last-small l bytes)
      (omega (arith, size.limit))
      (sized-bins size)
