-- "else half a repair would bar the other half": the stamps still agree when some of the logged pages are in.
use Prim.Native.Nat.{ℕ}
use mathlib.Core.Path.{◌≡◌, refl, sym, ap, ◌∙◌}
use mathlib.Core.Logic.{◌⊎◌, inl, inr}
use mathlib.Core.Bool.{Bool, true, false, ◌&&◌}
use mathlib.Core.List.{List, Memᴰ}
use lib.Dec.{eqb}
use Rattle.fields.proofs.Bools.{and-inv, and_both}
use Rattle.base.specs.Block.{sector, usable}
use Rattle.sectors.specs.Sector.{page}
use Rattle.old_log.specs.Layout.{is_logged, logged, versions_of}
use Rattle.old_log.specs.Tests.{stamp_of, bin_stamp, zero_agrees, stamps_agree}
use Rattle.old_log.proofs.Hive.{by-base, by-bin, of-log}
use Rattle.old_log.proofs.Versions.{version-is}

-- d has the base block of h, and its page 0 is that of h or any version of it in the log
module _ (h l d : List ℕ) (base : sector d ≡ sector h) (first : (page d 0 ≡ page h 0) ⊎ Memᴰ (page d 0) (versions_of l 0)) where
  pub half-agrees : stamps_agree h l ≡ true → stamps_agree d l ≡ true
  half-agrees e = go (usable (sector h) 0) refl first
    where
      go : (u : Bool) → usable (sector h) 0 ≡ u → (page d 0 ≡ page h 0) ⊎ Memᴰ (page d 0) (versions_of l 0) → stamps_agree d l ≡ true
      go true u v =
          by-base d l (ap (λ (s : List ℕ). usable s 0) base ∙ u) ∙ ap (λ (s : List ℕ). eqb (stamp_of s) (stamp_of (sector l))) base ∙ sym (by-base h l u) ∙ e
      go false u (inl v) =
          by-bin d l (ap (λ (s : List ℕ). usable s 0) base ∙ u)
          ∙ ap (λ (x : List ℕ). eqb (bin_stamp x) (stamp_of (sector l)) && zero_agrees l) v ∙ sym (by-bin h l u) ∙ e
      go false u (inr i) =
          let v = version-is l 0 (page d 0) i in
          let zero_ok = (and-inv (eqb (bin_stamp (page h 0)) (stamp_of (sector l))) (zero_agrees l) (sym (by-bin h l u) ∙ e)).1 in
          by-bin d l (ap (λ (s : List ℕ). usable s 0) base ∙ u)
          ∙ ap (λ (x : List ℕ). eqb (bin_stamp x) (stamp_of (sector l)) && zero_agrees l) v.1
          ∙ and_both (of-log (is_logged l 0) (eqb (bin_stamp (logged l 0)) (stamp_of (sector l))) v.0 zero_ok) zero_ok
