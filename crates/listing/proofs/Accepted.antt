-- In an accepted hive the members of a key that the tree holds are those of its lists, in order, and then there are no more; each of its values has facts,
-- and the key has a descriptor.
use Prim.Native.Nat.{ℕ, zero, suc, ◌-◌, ◌<◌, ◌≤◌}
use native.Mathlib.Omega.{arith}
use mathlib.Core.Path.{◌≡◌, refl, sym, ap, ◌∙◌}
use mathlib.Core.Bool.{Bool, true, false}
use mathlib.Core.List.{List, [], ◌∷◌, ◌++◌, Memᴰ}
use lib.Dec.{eqb, leb}
use lib.ListN.{length, get_or, length-append, get_or-append}
use borrow.Author.Tests.{eqb-false, leb-true, leb-false, le-leb, lt-leb}
use Rattle.fields.specs.declared.Offset.{Offset}
use Rattle.fields.specs.declared.Fault.TheVariants.{Record}
use Rattle.fields.specs.Faults.{flaw, nowhere, Verdict}
use Rattle.fields.proofs.Firsts.{sound, holds}
use Rattle.base.specs.Block.{sector, minor_of, bins_data, base_fault}
use Rattle.base.proofs.Laws.{facts-base}
use Rattle.cells.specs.Rule.{Header}
use Rattle.cells.specs.Named.{data_at}
use Rattle.cells.specs.Tiled.{BinsTile}
use Rattle.cells.proofs.Mapped.{header-sound}
use Rattle.records.specs.declared.Child.{Child}
use Rattle.records.specs.Keys.{key_fault, key_of, security_of}
use Rattle.records.specs.Lists.{leaf_fault, leaf_children, leaves_of, children_in, leaves_below, children_below, children}
use Rattle.records.specs.Terms.{no_child}
use Rattle.security.specs.Descriptor.{descriptor_fault}
use Rattle.security.proofs.Descriptor.{descriptor-exactly}
use Rattle.values.specs.Records.{value_of}
use Rattle.values.specs.Lists.{values_of}
use Rattle.tree.specs.declared.Hive.{Hive}
use Rattle.records.proofs.Elements.{at_in}
use Rattle.tree.specs.Tree.{levels, hive_of, keys_of}
use Rattle.tree.specs.WellFormed.{KeyStands, TreeStands, key, CleanAndWellFormed}
use Rattle.search.proofs.Finds.{key-good, list-head, leaves-good}
use Rattle.paths.proofs.Listed.{listed-tree}
use Rattle.lookup.specs.Answers.{info_of}
use Rattle.lookup.proofs.ValueFinds.{list-good, each-good, value-good}
use Rattle.listing.specs.Members.{entry_of, nth_in, nth_below, subkey_in, subkey_answer, nth_of, value_in, value_answer, info_at}
use Rattle.listing.specs.Pieces.{descriptor_piece, security_where, security_below, security_answer}
use Rattle.listing.proofs.Pieces.{security-on}
use Rattle.listing.proofs.Members.{subkey-none, subkey-is, in-none, in_is, subkey-in, value_in_lem, info-in}
use Rattle.fields.specs.declared.Flaw.{Flaw}
use Rattle.std.specs.Prelude.{None, Ok, Option, Result, Some}

-- past the first of two lists
past : {A : Type 0} (xs ys : List A) (z : A) (n : ℕ) → length xs ≤ n → get_or (xs ++ ys) n z ≡ get_or ys (n - length xs) z
past [] ys z n p = let e : n ≡ n - 0 = omega arith in ap (λ (k : ℕ). get_or ys k z) e
past (x ∷ xs) ys z zero p = absurd (omega arith)
past (x ∷ xs) ys z (suc n) p =
    let e : n - length xs ≡ suc n - suc (length xs) = omega arith in
    past xs ys z n (omega arith) ∙ ap (λ (k : ℕ). get_or ys k z) e

-- leaves without fault are counted as one list
module _ (d : List ℕ) where
  abbrev LeavesGood : List Offset → Type 0
  LeavesGood ls = (l : Offset) → Memᴰ l ls → leaf_fault Header d [] l ≡ Ok tt

  nth-found : (ls : List Offset) → LeavesGood ls → (n : ℕ) → n < length (children_in d ls) → nth_in d ls n ≡ Ok (Some (get_or (children_in d ls) n no_child).at)
  unfolding nth_in children_in
  nth-found [] f n p = absurd (omega arith)
  nth-found (l ∷ ls) f n p = by (nth-found ls (λ o i. f o (Memᴰ.tail i))) (leb (length cs) n) refl
    where
      cs : List Child
      cs = leaf_children (data_at d l)

      there : Child → Result (Option Offset) Flaw
      there c = Ok (Some c.at)

      by : ((k : ℕ) → k < length (children_in d ls) → nth_in d ls k ≡ Ok (Some (get_or (children_in d ls) k no_child).at))
          → (t : Bool) → leb (length cs) n ≡ t → nth_in d (l ∷ ls) n ≡ Ok (Some (get_or (children_in d (l ∷ ls)) n no_child).at)
      by rest true e =
          let q = leb-true (length cs) n e in
          let s = length-append cs (children_in d ls) in
          rw (f l (Memᴰ.head refl), e)
          (rest (n - length cs) (omega arith)
          ∙ ap there (sym (past cs (children_in d ls) no_child n q)))
      by rest false e =
          let q = leb-false (length cs) n e in
          rw (f l (Memᴰ.head refl), e) (ap there (sym (get_or-append cs (children_in d ls) no_child n q)))

  nth-none : (ls : List Offset) → LeavesGood ls → (n : ℕ) → length (children_in d ls) ≤ n → nth_in d ls n ≡ Ok None
  unfolding nth_in children_in
  nth-none [] f n p = refl
  nth-none (l ∷ ls) f n p =
      let s = length-append (leaf_children (data_at d l)) (children_in d ls) in
      rw (f l (Memᴰ.head refl), le-leb (length (leaf_children (data_at d l))) n (omega arith))
      (nth-none ls (λ o i. f o (Memᴰ.tail i)) (n - length (leaf_children (data_at d l))) (omega arith))

-- a key that stands
module _ (d : List ℕ) (hive : Hive) (tiles : BinsTile d 0) where
  below-found : (o : Offset) → KeyStands d hive.minor o → (n : ℕ) → n < length (children d o) → nth_below d (key_of d o) n ≡ Ok (Some (get_or (children d o) n no_child).at)
  unfolding nth_below children_below leaves_below children_in
  below-found o s n p = by (eqb (key_of d o).subkeys 0) refl p
    where
      by : (t : Bool) → eqb (key_of d o).subkeys 0 ≡ t → n < length (children d o) → nth_below d (key_of d o) n ≡ Ok (Some (get_or (children d o) n no_child).at)
      by true e p = absurd (let q = rw e at p in omega arith)
      by false e p =
          let l = s.lists (eqb-false _ _ e) in
          rw (e, list-head d hive tiles (key_of d o).list l) (nth-found d (leaves_of d (key_of d o).list) (leaves-good d hive tiles (key_of d o).list l) n (rw e at p))

  below_none : (o : Offset) → KeyStands d hive.minor o → (n : ℕ) → length (children d o) ≤ n → nth_below d (key_of d o) n ≡ Ok None
  unfolding nth_below children_below leaves_below children_in
  below_none o s n p = by (eqb (key_of d o).subkeys 0) refl p
    where
      by : (t : Bool) → eqb (key_of d o).subkeys 0 ≡ t → length (children d o) ≤ n → nth_below d (key_of d o) n ≡ Ok None
      by true e p = rw e
      by false e p =
          let l = s.lists (eqb-false _ _ e) in
          rw (e, list-head d hive tiles (key_of d o).list l) (nth-none d (leaves_of d (key_of d o).list) (leaves-good d hive tiles (key_of d o).list l) n (rw e at p))

  stands : (m : ℕ) (o : Offset) → TreeStands d hive (suc m) o → KeyStands d hive.minor o
  stands m o (key s a ch tree) = s

  child-good : (m : ℕ) (o : Offset) → TreeStands d hive (suc m) o → (c : Child) → Memᴰ c (children d o) → key_fault Header d [] c.at ≡ Ok tt
  child-good m o (key s a ch tree) c i = key-good d hive tiles m c.at (tree c i)

-- the theorems: h is an accepted hive and o a key that its tree holds
module _ (h : List ℕ) (w : CleanAndWellFormed h) (o : Offset) (i : Memᴰ o (keys_of h)) where
  tree_of : (m : ℕ) × TreeStands (bins_data h) (hive_of h) (suc m) o
  tree_of = listed-tree (bins_data h) (hive_of h) levels (hive_of h).root w.formed.tree o i

  base : base_fault h ≡ Ok tt
  base = facts-base h w.is-clean w.inside

  key-stands : KeyStands (bins_data h) (hive_of h).minor o
  key-stands = stands (bins_data h) (hive_of h) w.formed.tiled tree_of.0 o tree_of.1

  key-tested : key_fault Header (bins_data h) [] o ≡ Ok tt
  key-tested = key-good (bins_data h) (hive_of h) w.formed.tiled (suc tree_of.0) o tree_of.1

  module _ (n : ℕ) where
    -- subkey n is element n of its lists
    pub subkey-there : n < length (children (bins_data h) o)
        → let c = (get_or (children (bins_data h) o) n no_child).at in subkey_answer h o n ≡ Ok (Some (entry_of c (key_of (bins_data h) c).name))
    unfolding subkey_in
    subkey-there p =
        let c = get_or (children (bins_data h) o) n no_child in
        let e = below-found (bins_data h) (hive_of h) w.formed.tiled o key-stands n p in
        let g = child-good (bins_data h) (hive_of h) w.formed.tiled tree_of.0 o tree_of.1 c (at_in (children (bins_data h) o) n no_child p) in
        subkey-in h o base n ∙ rw key-tested (subkey-is (bins_data h) o n (key_of (bins_data h) o) e ∙ rw g)

    pub subkeys-end : length (children (bins_data h) o) ≤ n → subkey_answer h o n ≡ Ok None
    unfolding subkey_in
    subkeys-end p =
        let e = below_none (bins_data h) (hive_of h) w.formed.tiled o key-stands n p in
        subkey-in h o base n ∙ rw key-tested (subkey-none (bins_data h) o n (key_of (bins_data h) o) e)

    -- value n is element n of its value list
    pub value_there : n < length (values_of (bins_data h) (key_of (bins_data h) o))
        → let v = get_or (values_of (bins_data h) (key_of (bins_data h) o)) n nowhere in
        value_answer h o n ≡ Ok (Some (entry_of v (value_of (bins_data h) (minor_of (sector h)) v).name))
    unfolding value_in nth_of
    value_there p =
        let vs = values_of (bins_data h) (key_of (bins_data h) o) in
        let minor = minor_of (sector h) in
        let list = list-good (bins_data h) w.formed.tiled minor (key_of (bins_data h) o) key-stands.values in
        let e : nth_of (bins_data h) (key_of (bins_data h) o) n ≡ Ok (Some (get_or vs n nowhere)) = rw (list, lt-leb (length vs) n p) in
        let g = value-good (bins_data h) w.formed.tiled minor (key_of (bins_data h) o) key-stands.values (get_or vs n nowhere) (at_in vs n nowhere p) in
        value_in_lem h o base n ∙ rw key-tested (in_is (bins_data h) o n minor (key_of (bins_data h) o) e ∙ rw g)

    pub values-end : length (values_of (bins_data h) (key_of (bins_data h) o)) ≤ n → value_answer h o n ≡ Ok None
    unfolding value_in nth_of
    values-end p =
        let vs = values_of (bins_data h) (key_of (bins_data h) o) in
        let list = list-good (bins_data h) w.formed.tiled (minor_of (sector h)) (key_of (bins_data h) o) key-stands.values in
        let e : nth_of (bins_data h) (key_of (bins_data h) o) n ≡ (Ok None) = rw (list, le-leb (length vs) n p) in
        value_in_lem h o base n ∙ rw key-tested (in-none (bins_data h) o n (minor_of (sector h)) (key_of (bins_data h) o) e)

  -- each of its values has facts
  pub info-there : (v : Offset) → Memᴰ v (values_of (bins_data h) (key_of (bins_data h) o))
      → info_at h v ≡ Ok (info_of (value_of (bins_data h) (minor_of (sector h)) v))
  info-there v j =
      info-in h v base ∙ rw (each-good (bins_data h) w.formed.tiled (minor_of (sector h)) (key_of (bins_data h) o) key-stands.values v j)

  -- its item is one of the ring's, so its descriptor is answered
  pub security-there : security_answer h o ≡ Ok (descriptor_piece (bins_data h) (security_of (bins_data h) o))
  unfolding security_below descriptor_fault
  security-there =
      let d = bins_data h in
      let at = security_of d o in
      let s = w.formed.security in
      let x = s.each at (s.all o i) in
      let cell = header-sound d w.formed.tiled [] at x.item.in_use in
      let has = (descriptor-exactly d at).1 (record { sk = x.item.sk; fields_fit = x.item.fields_fit; room = x.room }) in
      security-on h o (sound (base_fault h) _ base key-tested)
      ∙ ap (λ (v : Verdict). security_where o v (descriptor_piece d at)) (sound _ _ cell (holds (flaw Record at) has))
