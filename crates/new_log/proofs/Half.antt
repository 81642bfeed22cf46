-- Half a repair does not bar the other half: the log is still one of the file when some of the logged pages are in, by any of their versions.
use Prim.Native.Nat.{ℕ}
use mathlib.Core.Path.{◌≡◌, refl, sym, ap, ◌∙◌}
use mathlib.Core.Logic.{◌⊎◌, inl, inr}
use mathlib.Core.Bool.{Bool, true, false}
use mathlib.Core.List.{List, Memᴰ}
use lib.Dec.{eqb}
use borrow.Author.Tests.{eq-eqb}
use Rattle.fields.specs.Number.{u32_at, u64_at}
use Rattle.fields.proofs.Bools.{and_both}
use Rattle.base.specs.Block.{sector, usable}
use Rattle.sectors.specs.Sector.{page}
use Rattle.log_versions.specs.Versions.{versions_of}
use Rattle.new_log.specs.Tests.{applies}
use Rattle.new_log.proofs.Accepts.{by_number, by-stamps, stamps, each-stamped}

-- d has the base block of h, and its page 0 is that of h or any version of it in the log
module _ (h l d : List ℕ) (base : sector d ≡ sector h) (first : (page d 0 ≡ page h 0) ⊎ Memᴰ (page d 0) (versions_of l 0)) where
  pub half-applies : applies h l ≡ true → applies d l ≡ true
  half-applies e = go (usable (sector h) 0) refl first
    where
      same : {u : Bool} → usable (sector h) 0 ≡ u → usable (sector d) 0 ≡ u
      same u = ap (λ (s : List ℕ). usable s 0) base ∙ u

      go : (u : Bool) → usable (sector h) 0 ≡ u → (page d 0 ≡ page h 0) ⊎ Memᴰ (page d 0) (versions_of l 0) → applies d l ≡ true
      go true u v = by_number d l (same u) ∙ ap (λ (s : List ℕ). eqb (u32_at s 8) (u32_at (sector l) 4)) base ∙ sym (by_number h l u) ∙ e
      go false u (inl v) =
          let k = stamps h l e u in
          by-stamps d l (same u) ∙ and_both (ap (λ (x : List ℕ). eqb (u64_at x 20) (u64_at (sector l) 12)) v ∙ k.0) k.1
      go false u (inr i) =
          let k = stamps h l e u in
          by-stamps d l (same u) ∙ and_both (eq-eqb _ _ (each-stamped (u64_at (sector l) 12) (versions_of l 0) k.1 (page d 0) i)) k.1
