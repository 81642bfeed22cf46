-- In a tree that stands the list of its keys has none twice.
-- From each key its parent field leads in so many steps to the root, and in no fewer: so many and no other number. So where a key was listed is told
-- by the key itself.
use Rattle.std.proofs.Common.{◌≡◌, ℕ, suc, ◌+◌, List, [], ◌∷◌, sym, ap, ◌∙◌, subst, ⊎_elim, arith}
use mathlib.Core.List.Memᴰ
use mathlib.Core.List.{Memᴰ}
use Rattle.fields.specs.declared.Offset.{Offset}
use Rattle.names.specs.Comparison.{compare}
use Rattle.names.proofs.LawsOrder.{irreflexive}
use Rattle.records.specs.declared.Child.{Child}
use Rattle.records.specs.Keys.{key_of}
use Rattle.records.specs.Lists.{children}
use Rattle.records.specs.Listed.{joined, keys_in, Once, cons}
use Rattle.records.proofs.Listed.{same-offset, in-joined, Apart, apart-nil, apart_cons, once-joined}
use Rattle.records.proofs.Depth.{climb, climb-suc, Depth, depth-unique, depth-root, depth-next}
use Rattle.tree.specs.declared.Hive.{Hive}
use Rattle.tree.specs.Tree.{name_at}
use Rattle.tree.specs.WellFormed.{ChildStands, Ascends, more, TreeStands, key}
use Rattle.std.specs.declared.cmp.Ordering.TheVariants.{Less}

ascends-apart : (d : List ℕ) (cs : List Child) → Ascends d cs → Apart cs
ascends-apart d [] a = apart-nil
ascends-apart d (c ∷ cs) (more f a) =
    apart_cons
    (λ e i q. irreflexive (name_at d c.at) (subst (λ (o : Offset). compare (name_at d c.at) (name_at d o) ≡ Less) (sym q) (f e i)))
    (ascends-apart d cs a)

module _ (d : List ℕ) (hive : Hive) where
  abbrev up : Offset → Offset
  up k = (key_of d k).parent

  abbrev Deep : Offset → ℕ → Type 0
  Deep k n = Depth up hive.root k n

  deep-child : (at : Offset) (c : Child) (n : ℕ) → ChildStands d hive.root at c → Deep at n → Deep c.at (suc n)
  deep-child at c n ch p = depth-next up hive.root at c.at n (same-offset _ _ ch.parent) ch.other p

  -- a key listed below another: so many steps below it
  record Under (at : Offset) (n : ℕ) (k : Offset) : Type 0 where
    steps : ℕ
    depth : ℕ
    to : climb up steps k ≡ at
    deep : Deep k depth
    sum : depth ≡ steps + n

  under : (n : ℕ) (at : Offset) (e : ℕ) → TreeStands d hive n at → Deep at e → (k : Offset) → Memᴰ k (keys_in d n at) → Under at e k
  unfolding keys_in climb
  under Prim.Native.Nat.zero at e x3 p k i = elim x3 [ ]
  under (suc n) at e (key s a ch tree) p k i =
      ⊎_elim here
      (λ j. let x = in-joined (keys_in d n) (children d at) k j in
      below x.0 x.1 (under n x.0.at (suc e) (tree x.0 x.1) (deep-child at x.0 e (ch x.0 x.1) p) k x.2))
      (Memᴰ.cases_cons i)
    where
      here : k ≡ at → Under at e k
      here q = record { steps = 0; depth = e; to = q; deep = subst (λ (o : Offset). Deep o e) (sym q) p; sum = omega arith }

      below : (c : Child) → Memᴰ c (children d at) → Under c.at (suc e) k → Under at e k
      below c j b =
          record {
            steps = suc b.steps;
            depth = b.depth;
            to = climb-suc up b.steps k ∙ ap up b.to ∙ same-offset _ _ (ch c j).parent;
            deep = b.deep;
            sum = let s = b.sum in omega arith;
          }

  once : (n : ℕ) (at : Offset) (e : ℕ) → TreeStands d hive n at → Deep at e → Once (keys_in d n at)
  unfolding keys_in
  once Prim.Native.Nat.zero at e x₂ p = elim x₂ [ ]
  once (suc n) at e (key s a ch tree) p =
      cons not-here
      (once-joined (keys_in d n) (children d at) (ascends-apart d _ a)
      (λ c i. once n c.at (suc e) (tree c i) (deep-child at c e (ch c i) p)) apart)
    where
      low : (c : Child) → Memᴰ c (children d at) → (k : Offset) → Memᴰ k (keys_in d n c.at) → Under c.at (suc e) k
      low c i k j = under n c.at (suc e) (tree c i) (deep-child at c e (ch c i) p) k j

      not-here : Memᴰ at (joined (keys_in d n) (children d at)) → ⊥
      not-here i =
          let x = in-joined (keys_in d n) (children d at) at i in
          let b = low x.0 x.1 at x.2 in
          let q = depth-unique up hive.root at e b.depth p b.deep in
          let z = b.sum in
          omega arith

      apart : (c f : Child) (k : Offset) → Memᴰ c (children d at) → Memᴰ f (children d at) → Memᴰ k (keys_in d n c.at)
          → Memᴰ k (keys_in d n f.at) → c.at ≡ f.at
      apart c f k i j q r =
          let b = low c i k q in
          let b' = low f j k r in
          let z = b.sum in
          let z' = b'.sum in
          let u = depth-unique up hive.root k b.depth b'.depth b.deep b'.deep in
          let v : b.steps ≡ b'.steps = omega arith in
          sym b.to ∙ ap (λ (x : ℕ). climb up x k) v ∙ b'.to

  -- from the root: no key twice
  pub each-once : (n : ℕ) → TreeStands d hive n hive.root → Once (keys_in d n hive.root)
  each-once n s = once n hive.root 0 s (depth-root up hive.root)
