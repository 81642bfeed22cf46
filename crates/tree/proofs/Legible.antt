-- A tree that was walked without a charge may be read again without a test.
use Rattle.std.proofs.Common.{◌≡◌, ℕ, zero, suc, List, refl, inl}
use Rattle.fields.specs.Charges.{Free}
use Rattle.cells.specs.Rule.{Map}
use Rattle.cells.specs.Tiled.{BinsTile, Mapped}
use Rattle.records.specs.declared.Child.{Child}
use Rattle.records.specs.Lists.{children}
use Rattle.records.proofs.LawsKey.{key-room}
use Rattle.security_pass.specs.Counting.{Legible, key}
use Rattle.tree.specs.declared.Hive.{Hive}
use Rattle.tree.specs.declared.Arrival.{Arrival}
use Rattle.tree.specs.declared.Arrival.TheVariants.{First}
use Rattle.tree.specs.Tree.{tree_charge}
use Rattle.tree.proofs.Charges.{key-parts, key-zero, key-free, lists-free}
use Rattle.tree.proofs.Accepted.{each_free}

module _ (d m : List ℕ) (hive : Hive) (tiles : BinsTile d 0) (mapped : Mapped d m) where
  pub legible : (n : ℕ) (c : Child) (l : Arrival) → tree_charge d m hive n c l ≡ Free → Legible d n c.at
  legible zero c l e = absurd (key-zero d m hive c l (key-free d m hive 0 c l e))
  legible (suc n) c l e =
      let p = key-parts d m hive (suc n) c l (key-free d m hive (suc n) c l e) in
      key m (key-room Map d m c.at p.0) p.1.lists
      (λ f i. let x = each_free d m hive tiles mapped n c.at (First c.at) (children d c.at) (inl refl) (lists-free d m hive n c l e) f i in
      legible n f x.0 x.2)
