-- The closing sector is a clean base block, and its fields but the type and the checksum are the log's.
use Prim.Native.Nat.{ℕ, ◌+◌, ◌*◌, ◌≤◌}
use native.Mathlib.Omega.{arith}
use mathlib.Core.Path.{◌≡◌, sym, ap, ap₂, ◌∙◌}
use mathlib.Core.Logic.{◌⊎◌, inl, inr}
use mathlib.Core.Bool.{true, ◌&&◌}
use mathlib.Core.List.{List, [], ◌∷◌}
use lib.Dec.{eqb, leb, lit<}
use lib.ListN.{length}
use lib.Seq.{sets}
use borrow.Author.Tests.{eq-eqb}
use Rattle.fields.specs.Number.{u32_at, le32}
use Rattle.fields.specs.Bytes.{same_bytes, stands_at}
use Rattle.fields.proofs.Bools.{and-inv, and_both}
use Rattle.base.specs.Block.{is_regf, stored_checksum, is_summed, minor_of, type_of, is_version, bins_of, is_bins_size, usable, is_settled, clean}
use Rattle.base.proofs.Laws.{usable-facts, facts-clean}
use Rattle.base.proofs.Sums.{checksum-below, checksum-same}
use Rattle.sectors.specs.Sector.{Bytes}
use Rattle.sectors.specs.Closing.{as_hive, closing_sector}
use Rattle.sectors.proofs.Words.{put-length, put-take, u32-other, u32-same, put-bytes}

-- ---- the checksum

-- the field at 508 is no part of it
pub checksum-put : (s : List ℕ) (v : ℕ) → stored_checksum (sets s 508 (le32 v)) ≡ stored_checksum s
checksum-put s v = checksum-same (sets s 508 (le32 v)) s (λ k h. u32-other s 508 v (k * 4) (inl (omega arith)))

-- ---- the closing sector

pub closing-length : (s : List ℕ) → length (closing_sector s) ≡ length s
unfolding closing_sector
closing-length s = put-length (as_hive s) 508 (stored_checksum (as_hive s)) ∙ put-length s 28 0

module _ (s : List ℕ) (n : length s ≡ 512) (h : Bytes s) where
  -- every number but the type and the checksum is the log's
  pub closing-u32 : (j : ℕ) → (j + 4 ≤ 28) ⊎ (32 ≤ j) → j + 4 ≤ 508 → u32_at (closing_sector s) j ≡ u32_at s j
  unfolding closing_sector
  closing-u32 j a b = u32-other (as_hive s) 508 (stored_checksum (as_hive s)) j (inl b) ∙ u32-other s 28 0 j a

  closing-type : type_of (closing_sector s) ≡ 0
  unfolding closing_sector
  closing-type = u32-other (as_hive s) 508 (stored_checksum (as_hive s)) 28 (inl (omega arith)) ∙ u32-same s 28 0 (lit< tt) (omega arith)

  closing-regf : is_regf (closing_sector s) ≡ is_regf s
  unfolding closing_sector stands_at
  closing-regf =
      ap (λ (x : List ℕ). same_bytes x (114 ∷ 101 ∷ 103 ∷ 102 ∷ []))
      (put-take (as_hive s) 508 (stored_checksum (as_hive s)) 4 (omega arith) ∙ put-take s 28 0 4 (omega arith))

  closing-summed : is_summed (closing_sector s) ≡ true
  unfolding closing_sector
  closing-summed =
      eq-eqb _ _
      (u32-same (as_hive s) 508 (stored_checksum (as_hive s)) (checksum-below (as_hive s) (put-bytes s 28 0 h)) (omega (arith, put-length s 28 0))
      ∙ sym (checksum-put (as_hive s) (stored_checksum (as_hive s))))

  closing-version : (type : ℕ) → is_version s type ≡ true → is_version (closing_sector s) 0 ≡ true
  unfolding is_version
  closing-version type e =
      let w : (j : ℕ) → (j + 4 ≤ 28) ⊎ (32 ≤ j) → j + 4 ≤ 508 → u32_at (closing_sector s) j ≡ u32_at s j = closing-u32 in
      let a = and-inv (eqb (u32_at s 20) 1) _ e in
      let b = and-inv (leb 3 (minor_of s)) _ a.1 in
      let d = and-inv (leb (minor_of s) 5) _ b.1 in
      let f = and-inv (eqb (type_of s) type) _ d.1 in
      let g = and-inv (eqb (u32_at s 32) 1) _ f.1 in
      let minor = w 24 (inl (omega arith)) (omega arith) in
      and_both (ap (λ (x : ℕ). eqb x 1) (w 20 (inl (omega arith)) (omega arith)) ∙ a.0)
      (and_both (ap (leb 3) minor ∙ b.0)
      (and_both (ap (λ (x : ℕ). leb x 5) minor ∙ d.0)
      (and_both (ap (λ (x : ℕ). eqb x 0) closing-type)
      (and_both (ap (λ (x : ℕ). eqb x 1) (w 32 (inr (omega arith)) (omega arith)) ∙ g.0)
      (ap (λ (x : ℕ). eqb x 1) (w 44 (inr (omega arith)) (omega arith)) ∙ g.1)))))

  -- the closing sector of a block whose other fields are good, whatever its checksum
  pub closed-clean : (type : ℕ) → is_regf s ≡ true → is_version s type ≡ true → is_bins_size (bins_of s) ≡ true → is_settled s ≡ true → clean (closing_sector s) ≡ true
  closed-clean type regf version bins e =
      let first : u32_at (closing_sector s) 4 ≡ u32_at s 4 = closing-u32 4 (inl (omega arith)) (omega arith) in
      let second : u32_at (closing_sector s) 8 ≡ u32_at s 8 = closing-u32 8 (inl (omega arith)) (omega arith) in
      facts-clean (closing_sector s) (closing-regf ∙ regf) closing-summed (closing-version type version)
      (ap is_bins_size (closing-u32 40 (inr (omega arith)) (omega arith)) ∙ bins) (ap₂ eqb first second ∙ e)

  -- the closing sector of a usable log's base block with equal sequence numbers
  pub closing-clean : (type : ℕ) → usable s type ≡ true → is_settled s ≡ true → clean (closing_sector s) ≡ true
  closing-clean type u e = let a = usable-facts s type u in closed-clean type a.0 a.2 a.3 e

-- ---- a number put into a base block

pub put-regf : (s : List ℕ) (i v : ℕ) → 4 ≤ i → is_regf (sets s i (le32 v)) ≡ is_regf s
unfolding stands_at
put-regf s i v h = ap (λ (x : List ℕ). same_bytes x (114 ∷ 101 ∷ 103 ∷ 102 ∷ [])) (put-take s i v 4 h)

-- one that meets none of the fields that a version names
pub put-version : (s : List ℕ) (i v : ℕ) → (i + 4 ≤ 20) ⊎ (((36 ≤ i) × (i + 4 ≤ 44)) ⊎ (48 ≤ i)) → (type : ℕ)
    → is_version (sets s i (le32 v)) type ≡ is_version s type
unfolding is_version
put-version s i v h type =
    let w : (j : ℕ) → ((j + 4 ≤ 36) × (20 ≤ j)) ⊎ ((44 ≤ j) × (j + 4 ≤ 48)) → u32_at (sets s i (le32 v)) j ≡ u32_at s j = λ j g. u32-other s i v j (apart j g h) in
    let f₂₀ = w 20 (inl (omega arith, omega arith)) in
    let f₂₄ = w 24 (inl (omega arith, omega arith)) in
    let f₂₈ = w 28 (inl (omega arith, omega arith)) in
    let f₃₂ = w 32 (inl (omega arith, omega arith)) in
    let f₄₄ = w 44 (inr (omega arith, omega arith)) in
    λ t. eqb (f₂₀ t) 1 && (leb 3 (f₂₄ t) && (leb (f₂₄ t) 5 && (eqb (f₂₈ t) type && (eqb (f₃₂ t) 1 && eqb (f₄₄ t) 1))))
  where
    apart : (j : ℕ) → ((j + 4 ≤ 36) × (20 ≤ j)) ⊎ ((44 ≤ j) × (j + 4 ≤ 48)) → (i + 4 ≤ 20) ⊎ (((36 ≤ i) × (i + 4 ≤ 44)) ⊎ (48 ≤ i))
        → (j + 4 ≤ i) ⊎ (i + 4 ≤ j)
    apart j (inl g) (inl h) = inr (omega arith)
    apart j (inl g) (inr (inl h)) = inl (omega arith)
    apart j (inl g) (inr (inr h)) = inl (omega arith)
    apart j (inr g) (inl h) = inr (omega arith)
    apart j (inr g) (inr (inl h)) = inr (omega arith)
    apart j (inr g) (inr (inr h)) = inl (omega arith)
