-- The counts that the walk adds in 64 bits are those of the list: a list with no key twice is no longer than the bins data.
use Rattle.std.proofs.Common.{◌≡◌, ℕ, suc, ◌+◌, ◌*◌, ◌%◌, ◌^◌, ◌<◌, ◌≤◌, Bool, true, false, eqb, List, [], ◌∷◌, length, sym, refl, ◌∙◌, subst, ap₂, ⊎_elim, arith, eqb-true}
use mathlib.Core.List.Memᴰ
use mathlib.Core.List.{Memᴰ}
use borrow.Author.Tests.{eqb-false}
use Rattle.fields.specs.declared.Offset.{Offset}
use Rattle.base.specs.Block.{bins_limit}
use Rattle.cells.specs.Tiled.{BinsTile}
use Rattle.cells.proofs.Parts.{data-short}
use Rattle.cells.proofs.Tiles.{wholly-inside}
use Rattle.records.specs.Keys.{key_of}
use Rattle.records.specs.Lists.{children}
use Rattle.records.specs.Listed.{keys_in}
use Rattle.records.proofs.Listed.{in-joined, pigeonhole}
use Rattle.tree.specs.declared.Count.{Count}
use Rattle.tree.specs.declared.Hive.{Hive}
use Rattle.tree.specs.Tree.{values_in, tally, tallied}
use Rattle.tree.specs.WellFormed.{KeyStands, TreeStands, key}
use Rattle.tree.proofs.Once.{each-once}

pair : {a b x y : ℕ} → a ≡ x → b ≡ y → ◌≡◌ {A = Count} (record { keys = a; values = b }) (record { keys = x; values = y })
pair p q = ap₂ (λ (i j : ℕ). let r : Count = record { keys = i; values = j } in r) p q

module _ (d : List ℕ) (hive : Hive) where
  -- every listed key stands
  listed-stands : (n : ℕ) (at : Offset) → TreeStands d hive n at → (k : Offset) → Memᴰ k (keys_in d n at) → KeyStands d hive.minor k
  unfolding keys_in
  listed-stands Prim.Native.Nat.zero at x₂ k i = elim x₂ [ ]
  listed-stands (suc n) at (key s a ch tree) k i =
      ⊎_elim (λ e. subst (λ (o : Offset). KeyStands d hive.minor o) (sym e) s)
      (λ j. let x = in-joined (keys_in d n) (children d at) k j in listed-stands n x.0.at (tree x.0 x.1) k x.2)
      (Memᴰ.cases_cons i)

  -- what is tallied, where it fits 64 bits
  exact : (ks : List Offset) (t : Count) → t.keys + length ks < 2 ^ 64 → t.values + values_in d ks < 2 ^ 64
      → tallied d t ks ≡ record { keys = t.keys + length ks; values = t.values + values_in d ks }
  unfolding tallied tally values_in
  exact [] t p q = pair (omega arith) (omega arith)
  exact (k ∷ ks) t p q =
      let a : (t.keys + 1) % 2 ^ 64 ≡ t.keys + 1 = omega arith in
      let b : (t.values + (key_of d k).values) % 2 ^ 64 ≡ t.values + (key_of d k).values = omega arith in
      exact ks (tally t (key_of d k)) (omega arith) (omega arith) ∙ pair (omega arith) (omega arith)

  few : (k : Offset) → KeyStands d hive.minor k → (key_of d k).values ≤ length d
  few k s = by (eqb (key_of d k).values 0) refl
    where
      by : (t : Bool) → eqb (key_of d k).values 0 ≡ t → (key_of d k).values ≤ length d
      by true e = let z = eqb-true (key_of d k).values 0 e in omega arith
      by false e =
          let r = s.values.list (eqb-false (key_of d k).values 0 e) in
          let l = data-short d (key_of d k).value_list in
          omega (arith, r.room)

  bounded : (ks : List Offset) → ((k : Offset) → Memᴰ k ks → KeyStands d hive.minor k) → length d ≤ bins_limit
      → values_in d ks ≤ bins_limit * length ks
  unfolding values_in
  bounded [] f l = omega arith
  bounded (k ∷ ks) f l =
      let x = few k (f k (Memᴰ.head refl)) in
      let y = bounded ks (λ o i. f o (Memᴰ.tail i)) l in
      omega arith

  -- the keys of a tree that stands are no more than the bins data has bytes
  pub few-keys : BinsTile d 0 → (n : ℕ) → TreeStands d hive n hive.root → length (keys_in d n hive.root) ≤ length d
  few-keys b n s =
      pigeonhole (length d) (keys_in d n hive.root) (each-once d hive n s)
      (λ k i. let u = (listed-stands n hive.root s k i).in_use in let w = wholly-inside d k u in
      omega (arith, w.inside.before, w.inside.some, w.header.inside))

  -- so their counts, added in 64 bits, are the list's
  pub counted : BinsTile d 0 → length d ≤ bins_limit → (n : ℕ) → TreeStands d hive n hive.root
      → tallied d (record { keys = 0; values = 0 }) (keys_in d n hive.root)
      ≡ record { keys = length (keys_in d n hive.root); values = values_in d (keys_in d n hive.root) }
  counted b l n s =
      let ks = keys_in d n hive.root in
      let a = few-keys b n s in
      let v = bounded ks (listed-stands n hive.root s) l in
      exact ks (record { keys = 0; values = 0 }) (omega arith) (omega arith) ∙ pair (omega arith) (omega arith)
