-- Every fault of a search says why, and what is found below a key is one of its children.
use Prim.Native.Nat.{ℕ}
use native.Mathlib.Omega.{arith}
use mathlib.Core.Path.{◌≡◌, refl, ap, ◌∙◌, subst}
use mathlib.Core.Bool.{Bool, true, false, cond}
use mathlib.Core.Logic.{⊎_elim}
use mathlib.Core.List.Memᴰ
use mathlib.Core.List.{List, [], ◌∷◌, Memᴰ}
use lib.Dec.{eqb}
use borrow.Author.Tests.{eqb-false}
use Rattle.fields.specs.declared.Flaw.{Flaw}
use Rattle.fields.specs.declared.Offset.{Offset}
use Rattle.fields.proofs.Every.{Every}
use Rattle.cells.specs.Rule.{Header}
use Rattle.cells.specs.Named.{data_at}
use Rattle.cells.proofs.Refusals.{Ruled, by-header}
use Rattle.names.specs.Comparison.{compare, same_name}
use Rattle.records.specs.declared.Child.{Child}
use Rattle.records.specs.Keys.{key_fault, key_of}
use Rattle.records.specs.Lists.{leaf_fault, head_fault, leaf_children, leaves_of, children_in, leaves_below, children_below, children}
use Rattle.values.specs.Refused.{Among, Lists, one_of, its-list, its-leaf, its-child}
use Rattle.values.proofs.Refusals.{key-unfit, list-fit, list-unfit, leaf-unfit}
use Rattle.tree.specs.Tree.{name_at}
use Rattle.search.specs.Search.{on_sound, or_else, first_of, key_named, search_leaf, search_leaves, search_below}
use Rattle.search.proofs.Found.{first-at, sound-found}
use Rattle.search.proofs.Finds.{named_in}
use Rattle.fields.specs.Faults.{Verdict}
use Rattle.std.specs.Prelude.{Err, None, Ok, Option, Result, Some}
use Rattle.std.specs.declared.cmp.Ordering.TheVariants.{Equal}

-- ---- all faults of a look
module _ (P : Flaw → Type 0) where
  abbrev pub Each : Result (Option Offset) Flaw → Type 0
  Each l = (f : Flaw) → l ≡ Err f → P f

  pub each-found : (o : Offset) → Each (Ok (Some o))
  each-found o f e = absurd (let z : ◌≡◌ {A = ℕ} 0 1 = cc in omega arith)

  pub each-missing : Each (Ok None)
  each-missing f e = absurd (let z : ◌≡◌ {A = ℕ} 0 1 = cc in omega arith)

  pub each-cond : (t : Bool) (a b : Result (Option Offset) Flaw) → (t ≡ true → Each a) → (t ≡ false → Each b) → Each (cond t a b)
  each-cond true a b p q = p refl
  each-cond false a b p q = q refl

  pub each-sound : (v : Verdict) (l : Result (Option Offset) Flaw) → Every P v → (v ≡ Ok tt → Each l) → Each (on_sound v l)
  each-sound (Ok tt) l p q = q refl
  each-sound (Err g) l p q = λ f e. p f (let z : g ≡ f = cc in ap Err z)

  pub each_first : {A : Type 0} (each : A → Result (Option Offset) Flaw) (xs : List A) → ((x : A) → Memᴰ x xs → Each (each x)) → Each (first_of each xs)
  unfolding first_of or_else
  each_first each [] p = each-missing
  each_first each (x ∷ xs) p = by (each x) refl (each_first each xs (λ y i. p y (Memᴰ.tail i)))
    where
      by : (w : Result (Option Offset) Flaw) → each x ≡ w → Each (first_of each xs) → Each (or_else w (first_of each xs))
      by (Ok (Some o)) q rest = each-found o
      by (Ok None) q rest = rest
      by (Err g) q rest = λ f e. p x (Memᴰ.head refl) f (q ∙ e)

-- ---- a leaf's keys are its key's
module _ (d : List ℕ) where
  pub in-leaves : (ls : List Offset) {l : Offset} {c : Child} → Memᴰ l ls → Memᴰ c (leaf_children (data_at d l)) → Memᴰ c (children_in d ls)
  unfolding children_in
  in-leaves [] i j = absurd (Memᴰ.not-nil i)
  in-leaves (b ∷ ls) {l} {c} i j =
      ⊎_elim
      (λ (e : l ≡ b). Memᴰ.append_left (children_in d ls) (subst (λ (o : Offset). Memᴰ c (leaf_children (data_at d o))) e j))
      (λ k. Memᴰ.append_right (leaf_children (data_at d b)) (in-leaves ls k j))
      (Memᴰ.cases_cons i)

  below-are : (k : Offset) → eqb (key_of d k).subkeys 0 ≡ false → children_in d (leaves_of d (key_of d k).list) ≡ children d k
  unfolding children_below leaves_below
  below-are k z = rw z

  pub in-children : (k : Offset) → eqb (key_of d k).subkeys 0 ≡ false → {c : Child} → Memᴰ c (children_in d (leaves_of d (key_of d k).list)) → Memᴰ c (children d k)
  in-children k z {c} i = subst (λ (cs : List Child). Memᴰ c cs) (below-are k z) i

-- ---- the search below a key
module _ (d x : List ℕ) (k : Offset) where
  ruled : Ruled Header d []
  ruled = by-header d []

  abbrev pub OfLists : Flaw → Type 0
  OfLists f = Among Header d (Lists Header d k) f

  pub below_each : Each OfLists (search_below d x (key_of d k))
  unfolding search_below search_leaf key_named
  below_each =
      let o = (key_of d k).list in
      each-cond OfLists (eqb (key_of d k).subkeys 0) (Ok None) _ (λ z. each-missing OfLists)
      (λ z. each-sound OfLists (head_fault Header d [] o) _ (λ f e. one_of (its-list (eqb-false _ _ z)) (list-unfit Header d [] ruled o f e))
      (λ s. each_first OfLists (search_leaf d x) (leaves_of d o)
      (λ l i. each-sound OfLists (leaf_fault Header d [] l) _
      (λ f e. one_of (its-leaf (eqb-false _ _ z) (list-fit Header d [] ruled o s) i) (leaf-unfit Header d [] ruled l f e))
      (λ t. each_first OfLists (key_named d x) (leaf_children (data_at d l))
      (λ c j. each-sound OfLists (key_fault Header d [] c.at) _
      (λ f e. one_of (its-child (in-children d k z (in-leaves d (leaves_of d o) i j))) (key-unfit Header d [] ruled c.at f e))
      (λ u. each-cond OfLists (same_name (name_at d c.at) x) (Ok (Some c.at)) (Ok None) (λ y. each-found OfLists c.at) (λ y. each-missing OfLists)))))))

  -- what is found below a key is one of its children, of that name
  pub below-found : {o : Offset} → search_below d x (key_of d k) ≡ Ok (Some o)
      → (c : Child) × Memᴰ c (children d k) × (o ≡ c.at) × (compare (name_at d c.at) x ≡ Equal)
  unfolding search_below search_leaf
  below-found {o} e = by (eqb (key_of d k).subkeys 0) refl e
    where
      by : (t : Bool) → eqb (key_of d k).subkeys 0 ≡ t
          → cond t (Ok None) (on_sound (head_fault Header d [] (key_of d k).list) (search_leaves d x (leaves_of d (key_of d k).list))) ≡ Ok (Some o)
          → (c : Child) × Memᴰ c (children d k) × (o ≡ c.at) × (compare (name_at d c.at) x ≡ Equal)
      by true z q = absurd (let y : ◌≡◌ {A = ℕ} 0 1 = cc in omega arith)
      by false z q =
          let ls = leaves_of d (key_of d k).list in
          let l = first-at (search_leaf d x) ls (sound-found (head_fault Header d [] (key_of d k).list) _ q).1 in
          let c = first-at (key_named d x) (leaf_children (data_at d l.0)) (sound-found (leaf_fault Header d [] l.0) _ l.1).1 in
          let n = named_in d x c.0 c.1 in
          (c.0, in-children d k z (in-leaves d ls l.2 c.2), n.0, n.1)
