-- What a search finds stands at one of the things searched, and has passed its tests.
use Prim.Native.Nat.{ℕ}
use native.Mathlib.Omega.{arith}
use mathlib.Core.Path.{◌≡◌, refl, ◌∙◌, subst}
use mathlib.Core.Bool.{Bool, true, false, cond}
use mathlib.Core.List.{List, [], ◌∷◌, Memᴰ}
use lib.Dec.{eqb}
use Rattle.fields.specs.declared.Offset.{Offset}
use Rattle.cells.specs.Rule.{Header}
use Rattle.cells.specs.Named.{data_at}
use Rattle.names.specs.Comparison.{same_name}
use Rattle.records.specs.declared.Child.{Child}
use Rattle.records.specs.declared.Key.{Key}
use Rattle.records.specs.Keys.{key_fault}
use Rattle.records.specs.Lists.{leaf_fault, head_fault, leaf_children, leaves_of}
use Rattle.tree.specs.Tree.{name_at}
use Rattle.search.specs.Search.{on_sound, or_else, first_of, key_named, search_leaf, search_leaves, search_below}
use Rattle.fields.specs.Faults.{Verdict}
use Rattle.fields.specs.declared.Flaw.{Flaw}
use Rattle.std.specs.Prelude.{Err, None, Ok, Option, Result, Some}

-- a search that finds has found it at one of its things
pub first-at : {A : Type 0} (each : A → Result (Option Offset) Flaw) (xs : List A) {o : Offset} → first_of each xs ≡ Ok (Some o) → (x : A) × (each x ≡ Ok (Some o)) × Memᴰ x xs
unfolding first_of or_else
first-at each [] e = absurd (let z : ◌≡◌ {A = ℕ} 0 1 = cc in omega arith)
first-at {A} each (x ∷ xs) {o} e = by (first-at each xs) (each x) refl e
  where
    by : (first_of each xs ≡ Ok (Some o) → (y : A) × (each y ≡ Ok (Some o)) × Memᴰ y xs) → (w : Result (Option Offset) Flaw) → each x ≡ w → or_else w (first_of each xs) ≡ Ok (Some o)
        → (y : A) × (each y ≡ Ok (Some o)) × Memᴰ y (x ∷ xs)
    by rest (Ok (Some p)) q e = (x, q ∙ e, Memᴰ.head refl)
    by rest (Ok None) q e = let r = rest e in (r.0, r.1, Memᴰ.tail r.2)
    by rest (Err f) q e = absurd (let z : ◌≡◌ {A = ℕ} 0 1 = cc in omega arith)

pub sound-found : (v : Verdict) (l : Result (Option Offset) Flaw) {o : Offset} → on_sound v l ≡ Ok (Some o) → (v ≡ Ok tt) × (l ≡ Ok (Some o))
sound-found (Ok tt) l e = (refl, e)
sound-found (Err f) l e = absurd (let z : ◌≡◌ {A = ℕ} 0 1 = cc in omega arith)

pub picked : (t : Bool) (c : Offset) {o : Offset} → cond {A = Result (Option Offset) Flaw} t (Ok (Some c)) (Ok None) ≡ Ok (Some o) → (t ≡ true) × (c ≡ o)
picked true c e = (refl, cc)
picked false c e = absurd (let z : ◌≡◌ {A = ℕ} 0 1 = cc in omega arith)

-- so has passed its tests
module _ (d x : List ℕ) where
  named-tested : (c : Child) {o : Offset} → key_named d x c ≡ Ok (Some o) → key_fault Header d [] o ≡ Ok tt
  unfolding key_named
  named-tested c e =
      let s = sound-found (key_fault Header d [] c.at) _ e in
      subst (λ (y : Offset). key_fault Header d [] y ≡ Ok tt) (picked (same_name (name_at d c.at) x) c.at s.1).1 s.0

  leaf-tested : (l : Offset) {o : Offset} → search_leaf d x l ≡ Ok (Some o) → key_fault Header d [] o ≡ Ok tt
  unfolding search_leaf
  leaf-tested l e =
      let c = first-at (key_named d x) (leaf_children (data_at d l)) (sound-found (leaf_fault Header d [] l) _ e).1 in
      named-tested c.0 c.1

  pub below-tested : (k : Key) {o : Offset} → search_below d x k ≡ Ok (Some o) → key_fault Header d [] o ≡ Ok tt
  unfolding search_below
  below-tested k {o} e = by (eqb k.subkeys 0) e
    where
      by : (t : Bool) → cond t (Ok None) (on_sound (head_fault Header d [] k.list) (search_leaves d x (leaves_of d k.list))) ≡ Ok (Some o) → key_fault Header d [] o ≡ Ok tt
      by true q = absurd (let z : ◌≡◌ {A = ℕ} 0 1 = cc in omega arith)
      by false q =
          let l = first-at (search_leaf d x) (leaves_of d k.list) (sound-found (head_fault Header d [] k.list) _ q).1 in
          leaf-tested l.0 l.1
