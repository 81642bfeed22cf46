-- The questions of a halving: what a leaf says by its first and its last key, and a law for each way out of a turn.
use Prim.Native.Nat.{ℕ, suc, ◌+◌, ◌-◌, ◌<◌, ◌≤◌}
use native.Mathlib.Omega.{arith}
use native.Mathlib.Numerals.{add-one}
use mathlib.Core.Path.{◌≡◌, refl, ap, ◌∙◌}
use mathlib.Core.Bool.{cond}
use mathlib.Core.List.{List, []}
use lib.ListN.{length, get_or}
use borrow.Author.Tests.{lt-ltb, le-ltb}
use Rattle.fields.specs.declared.Flaw.{Flaw}
use Rattle.fields.specs.declared.Offset.{Offset}
use Rattle.fields.specs.Faults.{nowhere, Verdict}
use Rattle.cells.specs.Rule.{Header}
use Rattle.names.specs.Comparison.{compare}
use Rattle.records.specs.declared.Child.{Child}
use Rattle.records.specs.declared.Leaf.{Leaf}
use Rattle.records.specs.declared.Leaves.{Leaves}
use Rattle.records.specs.Keys.{key_fault}
use Rattle.records.specs.Terms.{child_named, elements_of, LeavesLie, leaf_named, leaves_named, no_child}
use Rattle.records.proofs.LawsPlaces.{named-at}
use Rattle.records.proofs.LawsElements.{elements-length, element-at}
use Rattle.tree.specs.Tree.{name_at, is_before}
use Rattle.search.specs.declared.TheConstants.{TURNS}
use Rattle.search.specs.declared.Turn.{Turn}
use Rattle.search.specs.declared.Turn.TheVariants.{Left, Right, Stop}
use Rattle.search.specs.Quick.{turned_by, middle, halve, halving, toward, on_sound_turn, ask_key, quick_keys, first_child, last_child, is_after, ask_keys, ask_leaf}
use Rattle.search.specs.Terms.{by_offset, asked_last}
use Rattle.std.specs.Prelude.{Err, None, Ok, Option, Result, Some}
use Rattle.std.specs.declared.cmp.Ordering.{Ordering}
use Rattle.std.specs.declared.cmp.Ordering.TheVariants.{Equal, Greater, Less}

-- an element of a leaf, by the offset that it holds
pub ask-by : (d x : List ℕ) (l : Leaf) (i : ℕ) {o : Offset} → o ≡ (child_named d l i).at → ask_key d x (by_offset o) ≡ ask_key d x (child_named d l i)
unfolding ask_key
ask-by d x l i p = rw p

-- ---- the keys of a leaf, by what its first and its last key say
abbrev pub first_says : Turn → Turn → Turn
first_says Left rest = Left
first_says Right rest = rest
first_says (Stop (Ok (Some o))) rest = rest
first_says (Stop (Ok None)) rest = rest
first_says (Stop (Err f)) rest = Stop (Err f)

abbrev pub last_says : Turn → Turn → Turn
last_says Left rest = rest
last_says Right rest = Right
last_says (Stop (Ok (Some o))) rest = rest
last_says (Stop (Ok None)) rest = rest
last_says (Stop (Err f)) rest = Stop (Err f)

-- found or not
pub first-found : (a : Option Offset) (rest : Turn) → first_says (Stop (Ok a)) rest ≡ rest
first-found (Some o) rest = refl
first-found None rest = refl

pub last-found : (a : Option Offset) (rest : Turn) → last_says (Stop (Ok a)) rest ≡ rest
last-found (Some o) rest = refl
last-found None rest = refl

first_says_lem : (v : Verdict) (r : Ordering) (o : Offset) (rest : Turn) → on_sound_turn v (cond (is_after r) Left rest) ≡ first_says (on_sound_turn v (toward r o)) rest
first_says_lem (Ok tt) Less o rest = refl
first_says_lem (Ok tt) Equal o rest = refl
first_says_lem (Ok tt) Greater o rest = refl
first_says_lem (Err f) r o rest = refl

last_says_lem : (v : Verdict) (r : Ordering) (o : Offset) (rest : Turn) → on_sound_turn v (cond (is_before r) Right rest) ≡ last_says (on_sound_turn v (toward r o)) rest
last_says_lem (Ok tt) Less o rest = refl
last_says_lem (Ok tt) Equal o rest = refl
last_says_lem (Ok tt) Greater o rest = refl
last_says_lem (Err f) r o rest = refl

module _ (d x : List ℕ) (cs : List Child) where
  keys-first : ask_keys d x cs ≡ first_says (ask_key d x (first_child cs)) (asked_last d x cs)
  unfolding ask_keys ask_key
  keys-first = first_says_lem (key_fault Header d [] (first_child cs).at) (compare (name_at d (first_child cs).at) x) (first_child cs).at (asked_last d x cs)

  keys-last : asked_last d x cs ≡ last_says (ask_key d x (last_child cs)) (Stop (quick_keys d x cs))
  unfolding ask_key
  keys-last = last_says_lem (key_fault Header d [] (last_child cs).at) (compare (name_at d (last_child cs).at) x) (last_child cs).at (Stop (quick_keys d x cs))

module _ (d x : List ℕ) (l : Leaf) (some : 0 < l.count) {o : Offset} where
  pub first-is : o ≡ (child_named d l 0).at → {t u : Turn} → t ≡ ask_key d x (by_offset o) → t ≡ u
      → ask_keys d x (elements_of d l) ≡ first_says u (asked_last d x (elements_of d l))
  first-is p q e = keys-first d x (elements_of d l) ∙ rw (← element-at d l 0 some refl, ← ask-by d x l 0 p, ← q, e)

  pub last-is : o ≡ (child_named d l (l.count - 1)).at → {t u : Turn} → t ≡ ask_key d x (by_offset o) → t ≡ u
      → asked_last d x (elements_of d l) ≡ last_says u (Stop (quick_keys d x (elements_of d l)))
  last-is p q e =
      keys-last d x (elements_of d l)
      ∙ rw (elements-length d l, ← element-at d l (l.count - 1) (omega arith) refl, ← ask-by d x l (l.count - 1) p, ← q, e)

-- ---- what is asked at a place of a row

-- a key of a leaf, by the offset that the leaf holds
pub asked-key : (d x : List ℕ) (l : Leaf) (i : ℕ) {o : Offset} {t : Turn} → i < l.count → o ≡ (child_named d l i).at → t ≡ ask_key d x (by_offset o)
    → t ≡ ask_key d x (get_or (elements_of d l) i no_child)
asked-key d x l i less p q = q ∙ ask-by d x l i p ∙ ap (ask_key d x) (element-at d l i less refl)

-- a leaf of a list
pub asked-leaf : (d x : List ℕ) (ls : Leaves) → LeavesLie d ls → (i : ℕ) {o : Offset} {t : Turn} → i < ls.count → o ≡ leaf_named d ls i → t ≡ ask_leaf d x o
    → t ≡ ask_leaf d x (get_or (leaves_named d ls) i nowhere)
asked-leaf d x ls r i less p q = q ∙ ap (ask_leaf d x) (p ∙ named-at d ls r i less)

-- ---- the loop: what is left answers as the whole
pub halves-start : {A : Type 0} (ask : A → Turn) (none : A) (xs : List A) {n : ℕ} → length xs ≡ n
    → halving ask none xs ≡ halve TURNS (λ i. ask (get_or xs i none)) 0 n
unfolding halving
halves-start ask none xs e = rw e

module _ (says : ℕ → Turn) {a : Result (Option Offset) Flaw} (n lo hi : ℕ) (inv : a ≡ halve n says lo hi) where
  pub halves-over : n ≤ 0 → a ≡ Ok None
  unfolding halve
  halves-over p = let z : n ≡ 0 = omega arith in inv ∙ rw z

  -- with m turns after this one
  module _ (m : ℕ) (more : n ≡ m + 1) where
    pub halves-none : hi ≤ lo → a ≡ Ok None
    unfolding halve
    halves-none q = inv ∙ rw (more, add-one m, le-ltb lo hi q)

    module _ (some : lo < hi) {t : Turn} (asked : t ≡ says (middle lo hi)) where
      once : a ≡ turned_by t (halve m says lo (middle lo hi)) (halve m says (suc (middle lo hi)) hi)
      unfolding halve
      once = inv ∙ rw (more, add-one m, lt-ltb lo hi some, asked)

      pub halves-left : t ≡ Left → a ≡ halve m says lo (middle lo hi)
      halves-left e = once ∙ rw e

      pub halves-right : t ≡ Right → a ≡ halve m says (middle lo hi + 1) hi
      halves-right e = once ∙ rw (e, add-one (middle lo hi))

      pub halves-stop : {b : Result (Option Offset) Flaw} → t ≡ Stop b → a ≡ b
      halves-stop e = once ∙ rw e
