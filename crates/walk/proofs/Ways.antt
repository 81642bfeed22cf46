-- The calls: a law for each way out of a mark, a leaf, a list, a key and a step.
use Prim.Native.Nat.{ℕ, suc, ◌+◌, ◌*◌, ◌<◌, ◌≤◌}
use native.Mathlib.Omega.{arith}
use mathlib.Core.Path.{◌≡◌, refl, sym, ◌∙◌}
use mathlib.Core.List.{List, [], ◌∷◌}
use lib.ListN.{length, get_or, set}
use lib.Seq.{sets}
use borrow.Author.Tests.{eq-eqb, ne_eqb, le-leb, lt-leb, le-ltb, lt-ltb}
use Rattle.fields.specs.declared.Fault.TheVariants.{Level, OutputShort}
use Rattle.fields.specs.declared.Flaw.{Flaw}
use Rattle.fields.specs.declared.Offset.{Offset}
use Rattle.fields.specs.Faults.{flaw, nowhere, no_key, refusal_of, ◌next◌}
use Rattle.fields.proofs.Firsts.{on, stop}
use Rattle.base.specs.Block.{bins_data, base_fault}
use Rattle.cells.specs.Rule.{Header}
use Rattle.cells.proofs.Parts.{data-small}
use Rattle.records.specs.declared.Key.{Key}
use Rattle.records.specs.declared.Leaf.{Leaf}
use Rattle.records.specs.declared.Leaves.{Leaves}
use Rattle.records.specs.declared.Name.{Name}
use Rattle.records.specs.Keys.{key_in, key_fault, key_of, called}
use Rattle.records.specs.Lists.{leaf_fault, head_fault}
use Rattle.records.specs.Terms.{leaf_in, leaf_of, leafed, ElementsLie, elements_of, child_named, leaf_named, leaves_at, headed, LeavesLie, leaves_named}
use Rattle.records.proofs.LawsKey.{key-room}
use Rattle.records.proofs.LawsAnswer.{called-whole, called-flawed, leafed-whole, leafed-flawed, headed-whole, headed-flawed}
use Rattle.records.proofs.LawsElements.{elements-length, element-at, elements-are}
use Rattle.records.proofs.LawsPlaces.{named-length, named-at, leaf-tested, elements_lie, leaves-are}
use Rattle.tree.specs.Tree.{hive_of}
use Rattle.listing.specs.declared.Entry.{Entry}
use Rattle.listing.specs.Members.{entry_of}
use Rattle.walk.specs.declared.Offer.TheVariants as ahead
use Rattle.walk.specs.declared.Mark.{Mark}
use Rattle.walk.specs.Answers.{key_at, mark_at, mark_after, next_of, next_in, next_below, room_fault, entering, opening, step_at, step_in, step_of, answer_of, levels_after, step_answer, step_levels, root_fault, begin_fault, begun_where, begun_levels, begin_answer, begin_levels}
use Rattle.std.specs.Prelude.{Err, None, Ok, Some}

-- words that are set one after the other
pub put_two : (l : List ℕ) (i a b : ℕ) → set (set l i a) (i + 1) b ≡ sets l i (a ∷ b ∷ [])
put_two l i a b = let one : i + 1 ≡ suc i = omega arith in rw one

pub put_three : (l : List ℕ) (i a b c : ℕ) → set (set (set l i a) (i + 1) b) (i + 2) c ≡ sets l i (a ∷ b ∷ c ∷ [])
put_three l i a b c = let one : i + 1 ≡ suc i = omega arith in let two : i + 2 ≡ suc (suc i) = omega arith in rw (one, two)

-- behind an element
module _ (m : Mark) (count : ℕ) where
  pub after_more : m.element + 1 < count → mark_after m count ≡ record { leaf = m.leaf; element = m.element + 1 }
  unfolding mark_after
  after_more p = rw (lt-ltb (m.element + 1) count p)

  pub after_last : count ≤ m.element + 1 → mark_after m count ≡ record { leaf = m.leaf + 1; element = 0 }
  unfolding mark_after
  after_last p = rw (le-ltb (m.element + 1) count p)

-- in a leaf
module _ (d : List ℕ) (l : Leaf) (m : Mark) where
  pub leaf-end : l.count ≤ m.element → next_of (elements_of d l) m ≡ Ok None
  unfolding next_of
  leaf-end p = rw (le-leb (length (elements_of d l)) m.element (omega (arith, elements-length d l)))

  pub leaf-next : m.element < l.count → {o : Offset} → o ≡ (child_named d l m.element).at → {m' : Mark} → m' ≡ mark_after m l.count
      → next_of (elements_of d l) m ≡ Ok (Some (o, m'))
  unfolding next_of
  leaf-next p q r =
      let s = element-at d l m.element p refl in
      rw (lt-leb (length (elements_of d l)) m.element (omega (arith, elements-length d l)), elements-length d l, ← s, q, r)

-- among leaves
module _ (d : List ℕ) (ls : Leaves) (lie : LeavesLie d ls) (m : Mark) where
  pub leaves-end : ls.count ≤ m.leaf → next_in d (leaves_named d ls) m ≡ Ok None
  unfolding next_in
  leaves-end p = rw (le-leb (length (leaves_named d ls)) m.leaf (omega (arith, named-length d ls lie)))

  module _ {o : Offset} (more : m.leaf < ls.count) (is : o ≡ leaf_named d ls m.leaf) where
    there : get_or (leaves_named d ls) m.leaf nowhere ≡ o
    there = sym (is ∙ named-at d ls lie m.leaf more)

    pub leaf-bad : {f : Flaw} → leafed (leaf_fault Header d [] o) (leaf_of d o) ≡ Err f → next_in d (leaves_named d ls) m ≡ Err f
    unfolding next_in
    leaf-bad e =
        rw (lt-leb (length (leaves_named d ls)) m.leaf (omega (arith, named-length d ls lie)), there, leafed-flawed (leaf_fault Header d [] o) _ e)

    pub leaf-on : {l : Leaf} → leafed (leaf_fault Header d [] o) (leaf_of d o) ≡ Ok l
        → next_in d (leaves_named d ls) m ≡ next_of (elements_of d l) m
    unfolding next_in
    leaf-on e =
        let w = leafed-whole (leaf_fault Header d [] o) _ e in
        rw (lt-leb (length (leaves_named d ls)) m.leaf (omega (arith, named-length d ls lie)), there, w.0, elements-are d o w.1)

-- what `next_of` requires of a leaf that was tested
module _ (d : List ℕ) (o : Offset) {l : Leaf} (e : leafed (leaf_fault Header d [] o) (leaf_of d o) ≡ Ok l) (bytes : (i : ℕ) → get_or d i 0 < 256) where
  few : leaf_fault Header d [] o ≡ Ok tt → (leaf_of d o).count < 65536
  unfolding leaf_of leaf_in
  few s = let f = (leaf-tested Header d [] o s).holds in data-small d o 2 (omega (arith, f.room)) bytes

  pub leaf-ready : (l.count < 65536) × ElementsLie d l
  leaf-ready = let w = leafed-whole (leaf_fault Header d [] o) _ e in rw w.1 (few w.0, elements_lie Header d [] o w.0)

-- below a key
module _ (d : List ℕ) (k : Key) (m : Mark) where
  pub below_none : k.subkeys ≡ 0 → next_below d k m ≡ Ok None
  unfolding next_below
  below_none e = rw (eq-eqb k.subkeys 0 e)

  module _ (z : k.subkeys ≡ 0 → ⊥) where
    pub below-bad : {f : Flaw} → headed (head_fault Header d [] k.list) (leaves_at d k.list) ≡ Err f → next_below d k m ≡ Err f
    unfolding next_below
    below-bad e = rw (ne_eqb k.subkeys 0 z, headed-flawed (head_fault Header d [] k.list) _ e)

    pub below_on : {ls : Leaves} → headed (head_fault Header d [] k.list) (leaves_at d k.list) ≡ Ok ls
        → next_below d k m ≡ next_in d (leaves_named d ls) m
    unfolding next_below
    below_on e =
        let w = headed-whole (head_fault Header d [] k.list) _ e in
        rw (ne_eqb k.subkeys 0 z, w.0, w.1, leaves-are d k.list)

-- a child that opens
module _ (ws : List ℕ) (n : ℕ) (k : Offset) (e : Entry) (m : Mark) where
  pub enter-deep : 513 ≤ n → entering ws n k e m ≡ Err (refusal_of e.at (flaw Level e.at))
  unfolding entering
  enter-deep p = rw (le-ltb n 513 p)

  module _ (p : n < 513) where
    pub enter-short : length ws < 3 * (n + 1) → entering ws n k e m ≡ Err (refusal_of k (flaw OutputShort nowhere))
    unfolding entering room_fault
    enter-short q = rw (lt-ltb n 513 p, lt-leb (3 * (n + 1)) (length ws) q)

    pub enter-on : 3 * (n + 1) ≤ length ws → entering ws n k e m ≡ Ok (Some (ahead.Opens e m))
    unfolding entering room_fault
    enter-on q = rw (lt-ltb n 513 p, le-leb (3 * (n + 1)) (length ws) q)

-- a key that was tested, by its name alone
module _ (d : List ℕ) (o : Offset) {x : Name} (e : called (key_fault Header d [] o) (key_of d o).name ≡ Ok x) where
  pub tested : (key_fault Header d [] o ≡ Ok tt) × (x ≡ (key_of d o).name)
  tested = called-whole (key_fault Header d [] o) _ e

  pub name-small : x.at < 4294967296
  unfolding key_of key_in
  name-small = rw tested.1 (omega arith)

module _ (d ws : List ℕ) (n : ℕ) (k c : Offset) (m : Mark) where
  pub open-bad : {f : Flaw} → called (key_fault Header d [] c) (key_of d c).name ≡ Err f → opening d ws n k c m ≡ Err (refusal_of k f)
  unfolding opening
  open-bad e = rw (called-flawed (key_fault Header d [] c) _ e)

  pub open-on : {x : Name} → called (key_fault Header d [] c) (key_of d c).name ≡ Ok x → opening d ws n k c m ≡ entering ws n k (entry_of c x) m
  unfolding opening
  open-on e = let w = tested d c e in rw (w.0, w.1)

-- a step at the last open key
module _ (d ws : List ℕ) (n : ℕ) where
  module _ (o : Offset) (is : o ≡ key_at ws n) where
    pub at-bad : {f : Flaw} → called (key_fault Header d [] o) (key_of d o).name ≡ Err f → step_at d ws n ≡ Err (refusal_of no_key f)
    unfolding step_at
    at-bad e = rw (← is, called-flawed (key_fault Header d [] o) _ e)

    module _ (e : key_fault Header d [] o ≡ Ok tt) {k : Key} (are : k ≡ key_of d o) where
      pub at-faulty : {f : Flaw} → next_below d k (mark_at ws n) ≡ Err f → step_at d ws n ≡ Err (refusal_of o f)
      unfolding step_at
      at-faulty p = rw (← is, e, ← are, p)

      pub at-end : next_below d k (mark_at ws n) ≡ Ok None → step_at d ws n ≡ Ok (Some (ahead.Closes o))
      unfolding step_at
      at-end p = rw (← is, e, ← are, p)

      pub at_on : {c : Offset} {m : Mark} → next_below d k (mark_at ws n) ≡ Ok (Some (c, m)) → step_at d ws n ≡ opening d ws n o c m
      unfolding step_at
      at_on p = rw (← is, e, ← are, p)

  pub in-over : n ≡ 0 → step_in d ws n ≡ Ok None
  unfolding step_in
  in-over e = rw (eq-eqb n 0 e)

  module _ (z : n ≡ 0 → ⊥) where
    pub in-short : length ws < 3 * n → step_in d ws n ≡ Err (refusal_of no_key (flaw OutputShort nowhere))
    unfolding step_in room_fault
    in-short p = rw (ne_eqb n 0 z, lt-leb (3 * n) (length ws) p)

    pub in_on : 3 * n ≤ length ws → step_in d ws n ≡ step_at d ws n
    unfolding step_in room_fault
    in_on p = rw (ne_eqb n 0 z, le-leb (3 * n) (length ws) p)

-- in a hive
module _ (h ws : List ℕ) (n : ℕ) where
  pub step-stop : {f : Flaw} → base_fault h ≡ Err f → (step_answer h ws n ≡ Err (refusal_of no_key f)) × (step_levels h ws n ≡ ws)
  unfolding step_answer step_levels step_of
  step-stop e = (rw e, rw e)

  pub step-on : base_fault h ≡ Ok tt
      → (step_answer h ws n ≡ answer_of (step_in (bins_data h) ws n)) × (step_levels h ws n ≡ levels_after ws n (step_in (bins_data h) ws n))
  unfolding step_answer step_levels step_of
  step-on e = (rw e, rw e)

-- the start
module _ (d ws : List ℕ) (root : Offset) where
  pub root-bad : {f : Flaw} → called (key_fault Header d [] root) (key_of d root).name ≡ Err f → root_fault d ws root ≡ Err f
  unfolding root_fault
  root-bad e = stop _ _ (called-flawed (key_fault Header d [] root) _ e)

  module _ {x : Name} (e : called (key_fault Header d [] root) (key_of d root).name ≡ Ok x) where
    pub root-short : length ws < 3 → root_fault d ws root ≡ Err (flaw OutputShort nowhere)
    unfolding root_fault room_fault
    root-short p = on _ _ (tested d root e).0 ∙ rw (lt-leb 3 (length ws) p)

    pub root-on : 3 ≤ length ws → root_fault d ws root ≡ Ok tt
    unfolding root_fault room_fault
    root-on p = on _ _ (tested d root e).0 ∙ rw (le-leb 3 (length ws) p)

    pub root-entry : {r : Entry} → r ≡ entry_of root x → r ≡ entry_of root (key_of d root).name
    root-entry q = q ∙ rw (tested d root e).1

module _ (h ws : List ℕ) where
  pub begin-stop : {f : Flaw} → base_fault h ≡ Err f → (begin_answer h ws ≡ Err (refusal_of no_key f)) × (begin_levels h ws ≡ ws)
  unfolding begin_answer begin_levels begin_fault ◌next◌
  begin-stop e = (rw e, rw e)

  pub begin-on : base_fault h ≡ Ok tt
      → (begin_answer h ws ≡ begun_where (root_fault (bins_data h) ws (hive_of h).root) (entry_of (hive_of h).root (key_of (bins_data h) (hive_of h).root).name))
      × (begin_levels h ws ≡ begun_levels ws (hive_of h).root (root_fault (bins_data h) ws (hive_of h).root))
  unfolding begin_answer begin_levels begin_fault ◌next◌
  begin-on e = (rw e, rw e)

-- the ways out, for the tactics
pub ruleset leaf_ways = (after_more, after_last, leaf-end, leaf-next, leaves-end, leaf-bad, leaf-on)

pub ruleset below_ways = (below_none, below-bad, below_on)

pub ruleset enter_ways = (enter-deep, enter-short, enter-on, name-small, open-bad, open-on)

pub ruleset step_ways = (tested, at-bad, at-faulty, at-end, at_on, in-over, in-short, in_on, key-room)

pub ruleset root_ways = (name-small, root-bad, root-short, root-on, root-entry)
