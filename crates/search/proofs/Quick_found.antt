-- What a search by halving meets, in any bytes: what it finds is a child of the key, of that name, and has passed its tests; and every fault says why.
use Prim.Native.Nat.{ℕ, zero, suc, ◌-◌, ◌<◌, ◌≤◌}
use native.Mathlib.Omega.{arith}
use mathlib.Core.Path.{◌≡◌, refl, subst}
use mathlib.Core.Bool.{Bool, true, false, cond}
use mathlib.Core.List.{List, [], Memᴰ}
use lib.Dec.{eqb, ltb}
use lib.ListN.{length, get_or}
use borrow.Author.Tests.{ltb-true, eqb-false}
use Rattle.fields.specs.declared.Flaw.{Flaw}
use Rattle.fields.specs.declared.Offset.{Offset}
use Rattle.fields.specs.Faults.{nowhere, Verdict}
use Rattle.cells.specs.Rule.{Header}
use Rattle.cells.specs.Named.{data_at}
use Rattle.cells.proofs.Refusals.{by-header}
use Rattle.names.specs.Comparison.{compare}
use Rattle.records.specs.declared.Child.{Child}
use Rattle.records.specs.declared.Key.{Key}
use Rattle.records.specs.Keys.{key_fault, key_of}
use Rattle.records.specs.Lists.{leaf_fault, head_fault, leaf_children, leaves_of, children_in, children}
use Rattle.records.specs.Terms.{no_child}
use Rattle.records.proofs.LawsPlaces.{leaf-some}
use Rattle.values.specs.Refused.{one_of, its-list, its-leaf, its-child}
use Rattle.values.proofs.Refusals.{key-unfit, list-fit, list-unfit, leaf-unfit}
use Rattle.tree.specs.Tree.{name_at, is_before}
use Rattle.records.proofs.Elements.{at_in}
use Rattle.search.specs.declared.How.{How}
use Rattle.search.specs.declared.How.TheVariants.{InTurn, Halving}
use Rattle.search.specs.declared.Turn.{Turn}
use Rattle.search.specs.declared.Turn.TheVariants.{Left, Right, Stop}
use Rattle.search.specs.Search.{on_sound}
use Rattle.search.specs.Quick.{turned_by, middle, halve, halving, toward, on_sound_turn, ask_key, quick_keys, first_child, last_child, is_after, ask_keys, ask_leaf, quick_below, below_by}
use Rattle.search.proofs.Found.{below-tested}
use Rattle.search.proofs.Refusals.{Each, in-leaves, in-children, OfLists, below_each, below-found}
use Rattle.std.specs.Prelude.{Err, None, Ok, Option, Result, Some}
use Rattle.std.specs.declared.cmp.Ordering.{Ordering}
use Rattle.std.specs.declared.cmp.Ordering.TheVariants.{Equal, Greater, Less}

-- ---- what holds of all that a turn may stop with, and of Missing, holds of a halving
module _ (P : Result (Option Offset) Flaw → Type 0) where
  abbrev Stops : Turn → Type 0
  Stops t = (a : Result (Option Offset) Flaw) → t ≡ Stop a → P a

  stops-left : Stops Left
  stops-left a e = absurd (let z : ◌≡◌ {A = ℕ} 0 1 = cc in omega arith)

  stops-right : Stops Right
  stops-right a e = absurd (let z : ◌≡◌ {A = ℕ} 0 1 = cc in omega arith)

  stops-with : (b : Result (Option Offset) Flaw) → P b → Stops (Stop b)
  stops-with b p a e = let z : b ≡ a = cc in subst P z p

  stops-cond : (t : Bool) (l r : Turn) → Stops l → Stops r → Stops (cond t l r)
  stops-cond true l r p q = p
  stops-cond false l r p q = q

  stops-sound : (v : Verdict) (t : Turn) → ((f : Flaw) → v ≡ Err f → P (Err f)) → (v ≡ Ok tt → Stops t) → Stops (on_sound_turn v t)
  stops-sound (Ok tt) t p q = q refl
  stops-sound (Err f) t p q = stops-with (Err f) (p f refl)

  stops-toward : (r : Ordering) (o : Offset) → (r ≡ Equal → P (Ok (Some o))) → Stops (toward r o)
  stops-toward Less o p = stops-right
  stops-toward Equal o p = stops-with (Ok (Some o)) (p refl)
  stops-toward Greater o p = stops-left

  module _ (missing : P (Ok None)) where
    halve-meets : (n : ℕ) (ask : ℕ → Turn) (lo hi : ℕ) → ((i : ℕ) → lo ≤ i → i < hi → Stops (ask i)) → P (halve n ask lo hi)
    unfolding halve
    halve-meets zero ask lo hi f = missing
    halve-meets (suc n) ask lo hi f =
        by (λ g. halve-meets n ask lo (middle lo hi) g) (λ g. halve-meets n ask (suc (middle lo hi)) hi g) (ltb lo hi) refl (ask (middle lo hi)) refl
      where
        by : (((i : ℕ) → lo ≤ i → i < middle lo hi → Stops (ask i)) → P (halve n ask lo (middle lo hi)))
            → (((i : ℕ) → suc (middle lo hi) ≤ i → i < hi → Stops (ask i)) → P (halve n ask (suc (middle lo hi)) hi))
            → (t : Bool) → ltb lo hi ≡ t → (u : Turn) → ask (middle lo hi) ≡ u
            → P (cond t (turned_by u (halve n ask lo (middle lo hi)) (halve n ask (suc (middle lo hi)) hi)) (Ok None))
        by left right false e u q = missing
        by left right true e Left q = let l = ltb-true lo hi e in left (λ i r s. f i r (omega arith))
        by left right true e Right q = right (λ i r s. f i (omega arith) s)
        by left right true e (Stop a) q = let l = ltb-true lo hi e in f (middle lo hi) (omega arith) (omega arith) a q

    halving-meets : {A : Type 0} (ask : A → Turn) (none : A) (xs : List A) → ((y : A) → Memᴰ y xs → Stops (ask y)) → P (halving ask none xs)
    unfolding halving
    halving-meets ask none xs f = halve-meets 16 (λ i. ask (get_or xs i none)) 0 (length xs) (λ i r s. f (get_or xs i none) (at_in xs i none s))

    -- of the leaves of a list: each leaf's and each key's fault, and a key of the name
    module _ (d x : List ℕ) (ls : List Offset) (bad-leaf : (l : Offset) → Memᴰ l ls → (f : Flaw) → leaf_fault Header d [] l ≡ Err f → P (Err f))
        (bad-key : (c : Child) → Memᴰ c (children_in d ls) → (f : Flaw) → key_fault Header d [] c.at ≡ Err f → P (Err f))
        (named : (c : Child) → Memᴰ c (children_in d ls) → key_fault Header d [] c.at ≡ Ok tt → compare (name_at d c.at) x ≡ Equal
        → P (Ok (Some c.at))) where
      module _ (l : Offset) (i : Memᴰ l ls) where
        key-stops : (c : Child) → Memᴰ c (leaf_children (data_at d l)) → Stops (ask_key d x c)
        unfolding ask_key
        key-stops c j =
            stops-sound (key_fault Header d [] c.at) _ (bad-key c (in-leaves d ls i j))
            (λ s. stops-toward (compare (name_at d c.at) x) c.at (named c (in-leaves d ls i j) s))

        keys-stop : 0 < length (leaf_children (data_at d l)) → Stops (ask_keys d x (leaf_children (data_at d l)))
        unfolding ask_keys quick_keys
        keys-stop some =
            let cs = leaf_children (data_at d l) in
            let tested : (n : ℕ) → n < length cs → (f : Flaw) → key_fault Header d [] (get_or cs n no_child).at ≡ Err f → P (Err f) =
            λ n s. bad-key (get_or cs n no_child) (in-leaves d ls i (at_in cs n no_child s)) in
            stops-sound (key_fault Header d [] (first_child cs).at) _ (tested 0 some)
            (λ s. stops-cond (is_after (compare (name_at d (first_child cs).at) x)) Left _ stops-left
            (stops-sound (key_fault Header d [] (last_child cs).at) _ (tested (length cs - 1) (omega arith))
            (λ t. stops-cond (is_before (compare (name_at d (last_child cs).at) x)) Right _ stops-right
            (stops-with (quick_keys d x cs) (halving-meets (ask_key d x) no_child cs key-stops)))))

        leaf-stops : Stops (ask_leaf d x l)
        unfolding ask_leaf
        leaf-stops = stops-sound (leaf_fault Header d [] l) _ (bad-leaf l i) (λ s. keys-stop (leaf-some Header d [] l s))

      leaves-meet : P (halving (ask_leaf d x) nowhere ls)
      leaves-meet = halving-meets (ask_leaf d x) nowhere ls leaf-stops

    -- and below a key
    below-meets : (d x : List ℕ) (k : Key) → ((f : Flaw) → (k.subkeys ≡ 0 → ⊥) → head_fault Header d [] k.list ≡ Err f → P (Err f))
        → (eqb k.subkeys 0 ≡ false → head_fault Header d [] k.list ≡ Ok tt → P (halving (ask_leaf d x) nowhere (leaves_of d k.list)))
        → P (quick_below d x k)
    unfolding quick_below
    below-meets d x k bad meets = by (eqb k.subkeys 0) refl (head_fault Header d [] k.list) refl
      where
        by : (t : Bool) → eqb k.subkeys 0 ≡ t → (v : Verdict) → head_fault Header d [] k.list ≡ v
            → P (cond t (Ok None) (on_sound v (halving (ask_leaf d x) nowhere (leaves_of d k.list))))
        by true e v s = missing
        by false e (Ok tt) s = meets e s
        by false e (Err f) s = bad f (eqb-false _ _ e) s

-- ---- what it finds

-- where it finds a key, this holds of it
abbrev IfFound : (Offset → Type 0) → Result (Option Offset) Flaw → Type 0
IfFound Q a = (o : Offset) → a ≡ Ok (Some o) → Q o

if-missing : (Q : Offset → Type 0) → IfFound Q (Ok None)
if-missing Q o e = absurd (let z : ◌≡◌ {A = ℕ} 0 1 = cc in omega arith)

if-faulty : (Q : Offset → Type 0) (f : Flaw) → IfFound Q (Err f)
if-faulty Q f o e = absurd (let z : ◌≡◌ {A = ℕ} 0 1 = cc in omega arith)

if-found : (Q : Offset → Type 0) (c : Offset) → Q c → IfFound Q (Ok (Some c))
if-found Q c q o e = let z : c ≡ o = cc in subst Q z q

module _ (d x : List ℕ) where
  pub quick-tested : (k : Key) {o : Offset} → quick_below d x k ≡ Ok (Some o) → key_fault Header d [] o ≡ Ok tt
  quick-tested k {o} =
      let Q : Offset → Type 0 = λ y. key_fault Header d [] y ≡ (Ok tt) in
      below-meets (IfFound Q) (if-missing Q) d x k (λ f n e. if-faulty Q f)
      (λ z s. leaves-meet (IfFound Q) (if-missing Q) d x (leaves_of d k.list) (λ l i f e. if-faulty Q f) (λ c i f e. if-faulty Q f)
      (λ c i g e. if-found Q c.at g)) o

  module _ (k : Offset) where
    -- one of the key's children, of that name
    abbrev ChildNamed : Offset → Type 0
    ChildNamed o = (c : Child) × Memᴰ c (children d k) × (o ≡ c.at) × (compare (name_at d c.at) x ≡ Equal)

    pub quick-found : {o : Offset} → quick_below d x (key_of d k) ≡ Ok (Some o)
        → (c : Child) × Memᴰ c (children d k) × (o ≡ c.at) × (compare (name_at d c.at) x ≡ Equal)
    quick-found {o} =
        below-meets (IfFound ChildNamed) (if-missing ChildNamed) d x (key_of d k) (λ f n e. if-faulty ChildNamed f)
        (λ z s. leaves-meet (IfFound ChildNamed) (if-missing ChildNamed) d x (leaves_of d (key_of d k).list) (λ l i f e. if-faulty ChildNamed f)
        (λ c i f e. if-faulty ChildNamed f) (λ c i g e. if-found ChildNamed c.at (c, in-children d k z i, refl, e))) o

    -- ---- why it refuses

    -- where it meets a fault, that is one of the key's lists
    abbrev IfFaulty : Result (Option Offset) Flaw → Type 0
    IfFaulty a = Each (OfLists d x k) a

    faulty-missing : IfFaulty (Ok None)
    faulty-missing f e = absurd (let z : ◌≡◌ {A = ℕ} 0 1 = cc in omega arith)

    faulty-found : (o : Offset) → IfFaulty (Ok (Some o))
    faulty-found o f e = absurd (let z : ◌≡◌ {A = ℕ} 0 1 = cc in omega arith)

    faulty-for : (g : Flaw) → OfLists d x k g → IfFaulty (Err g)
    faulty-for g p f e = let z : g ≡ f = cc in subst (OfLists d x k) z p

    pub quick-each : Each (OfLists d x k) (quick_below d x (key_of d k))
    quick-each =
        let o = (key_of d k).list in
        let ruled = by-header d [] in
        below-meets IfFaulty faulty-missing d x (key_of d k) (λ f n e. faulty-for f (one_of (its-list n) (list-unfit Header d [] ruled o f e)))
        (λ z s. leaves-meet IfFaulty faulty-missing d x (leaves_of d o)
        (λ l i f e. faulty-for f (one_of (its-leaf (eqb-false _ _ z) (list-fit Header d [] ruled o s) i) (leaf-unfit Header d [] ruled l f e)))
        (λ c i f e. faulty-for f (one_of (its-child (in-children d k z i)) (key-unfit Header d [] ruled c.at f e)))
        (λ c i g e. faulty-found c.at))

-- ---- either search
module _ (d x : List ℕ) where
  pub by-tested : (how : How) (k : Key) {o : Offset} → below_by how d x k ≡ Ok (Some o) → key_fault Header d [] o ≡ Ok tt
  unfolding below_by
  by-tested InTurn k e = below-tested d x k e
  by-tested Halving k e = quick-tested d x k e

  pub by-found : (how : How) (k : Offset) {o : Offset} → below_by how d x (key_of d k) ≡ Ok (Some o)
      → (c : Child) × Memᴰ c (children d k) × (o ≡ c.at) × (compare (name_at d c.at) x ≡ Equal)
  unfolding below_by
  by-found InTurn k e = below-found d x k e
  by-found Halving k e = quick-found d x k e

  pub by-each : (how : How) (k : Offset) → Each (OfLists d x k) (below_by how d x (key_of d k))
  unfolding below_by
  by-each InTurn k = below_each d x k
  by-each Halving k = quick-each d x k
