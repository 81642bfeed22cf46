-- A first sector whose sequence numbers were made equal is clean where it was usable.
use Prim.Native.Nat.{ℕ, ◌+◌, ◌≤◌, ◌<◌}
use native.Mathlib.Omega.{arith}
use mathlib.Core.Path.{◌≡◌, sym, ap, ◌∙◌}
use mathlib.Core.Logic.{◌⊎◌, inl, inr}
use mathlib.Core.Bool.{true}
use mathlib.Core.List.{List}
use lib.ListN.{length, get_or}
use borrow.Author.Tests.{eq-eqb}
use Rattle.fields.specs.Number.{u32_at}
use Rattle.fields.proofs.Numbers.{u32-below}
use Rattle.base.specs.Block.{stored_checksum, is_regf, is_summed, is_version, is_bins_size, usable, clean}
use Rattle.base.proofs.Laws.{usable-facts, facts-clean}
use Rattle.base.proofs.Sums.{checksum-below}
use Rattle.sectors.specs.Sector.{Bytes}
use Rattle.sectors.specs.Settling.{evened, settled_sector}
use Rattle.sectors.proofs.Words.{put-length, put_other, u32-other, u32-same, put-bytes}
use Rattle.sectors.proofs.Closed.{checksum-put, put-regf, put-version}

module _ (s : List ℕ) where
  pub settled-length : length (settled_sector s) ≡ length s
  unfolding settled_sector
  settled-length = put-length (evened s) 508 (stored_checksum (evened s)) ∙ put-length s 8 (u32_at s 4)

  pub settled-u32 : (j : ℕ) → (j + 4 ≤ 8) ⊎ (12 ≤ j) → j + 4 ≤ 508 → u32_at (settled_sector s) j ≡ u32_at s j
  unfolding settled_sector
  settled-u32 j a b = u32-other (evened s) 508 (stored_checksum (evened s)) j (inl b) ∙ u32-other s 8 (u32_at s 4) j a

  -- every other byte stays
  pub settled-apart : (i : ℕ) → (i < 8) ⊎ (12 ≤ i) → (i < 508) ⊎ (512 ≤ i) → get_or (settled_sector s) i 0 ≡ get_or s i 0
  unfolding settled_sector
  settled-apart i a b = put_other (evened s) 508 (stored_checksum (evened s)) i b ∙ put_other s 8 (u32_at s 4) i a

  module _ (n : length s ≡ 512) (b : Bytes s) where
    settled-second : u32_at (settled_sector s) 8 ≡ u32_at s 4
    unfolding settled_sector
    settled-second =
        u32-other (evened s) 508 (stored_checksum (evened s)) 8 (inl (omega arith)) ∙ u32-same s 8 (u32_at s 4) (u32-below s b 4) (omega arith)

    settled-summed : is_summed (settled_sector s) ≡ true
    unfolding settled_sector
    settled-summed =
        eq-eqb _ _
        (u32-same (evened s) 508 (stored_checksum (evened s)) (checksum-below (evened s) (put-bytes s 8 (u32_at s 4) b)) (omega (arith, put-length s 8 (u32_at s 4)))
        ∙ sym (checksum-put (evened s) (stored_checksum (evened s))))

    settled-regf : is_regf (settled_sector s) ≡ is_regf s
    unfolding settled_sector
    settled-regf = put-regf (evened s) 508 (stored_checksum (evened s)) (omega arith) ∙ put-regf s 8 (u32_at s 4) (omega arith)

    settled-version : is_version (settled_sector s) 0 ≡ is_version s 0
    unfolding settled_sector
    settled-version = put-version (evened s) 508 (stored_checksum (evened s)) (inr (inr (omega arith))) 0 ∙ put-version s 8 (u32_at s 4) (inl (omega arith)) 0

    pub settled-clean : usable s 0 ≡ true → clean (settled_sector s) ≡ true
    settled-clean u =
        let a = usable-facts s 0 u in
        let bins : u32_at (settled_sector s) 40 ≡ u32_at s 40 = settled-u32 40 (inr (omega arith)) (omega arith) in
        facts-clean (settled_sector s) (settled-regf ∙ a.0) settled-summed (settled-version ∙ a.2) (ap is_bins_size bins ∙ a.3)
        (eq-eqb _ _ (settled-u32 4 (inl (omega arith)) (omega arith) ∙ sym settled-second))
