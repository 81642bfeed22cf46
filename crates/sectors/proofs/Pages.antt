-- The pages of a hive in which one sector is stored.
use Prim.Native.Nat.{ℕ, ◌+◌, ◌-◌, ◌/◌, ◌%◌, ◌≤◌, ◌<◌}
use native.Mathlib.Decide.{dec_lt}
use native.Mathlib.Omega.{arith}
use mathlib.Core.Path.{◌≡◌, ap, ◌∙◌}
use mathlib.Core.List.{List}
use lib.ListN.{length, drop, get_or}
use lib.Seq.{get_or-take, get_or-drop}
use Rattle.sectors.specs.Sector.{sector_at, stored, page_place, page}
use Rattle.sectors.proofs.Stored.{stored_same, stored-before, stored-after}

module _ (d : List ℕ) (p : ℕ) (new : List ℕ) (n : length new ≡ 512) (fits : page_place p + 512 ≤ length d) where
  pub page-same : page (stored d (page_place p) new) p ≡ new
  unfolding page
  page-same = stored_same d (page_place p) new n fits

  pub page-other : (q : ℕ) → (q ≡ p → ⊥) → page (stored d (page_place p) new) q ≡ page d q
  unfolding page
  page-other q e = go (dec_lt q p)
    where
      go : Dec (q < p) → sector_at (stored d (page_place p) new) (page_place q) ≡ sector_at d (page_place q)
      go (yes g) = stored-before d (page_place p) new n fits (page_place q) (omega arith)
      go (no g) = stored-after d (page_place p) new n fits (page_place q) (omega arith)

-- the first sector's store leaves every page
pub page-closed : (d new : List ℕ) → length new ≡ 512 → 512 ≤ length d → (q : ℕ) → page (stored d 0 new) q ≡ page d q
unfolding page
page-closed d new n fits q = stored-after d 0 new n fits (page_place q) (omega arith)

-- a byte of the bins data is a byte of its page
pub page-byte : (h : List ℕ) (i : ℕ) → 4096 ≤ i → get_or (page h ((i - 4096) / 512)) ((i - 4096) % 512) 0 ≡ get_or h i 0
unfolding page
page-byte h i g =
    let p = (i - 4096) / 512 in
    let k = (i - 4096) % 512 in
    let e : page_place p + k ≡ i = omega arith in
    get_or-take 512 (drop (page_place p) h) k 0 (omega arith) ∙ get_or-drop (page_place p) h k 0 ∙ ap (λ (j : ℕ). get_or h j 0) e
