-- In a tree that stands, the search by halving below a key answers as the search in turn.
use Prim.Native.Nat.{ℕ, suc, ◌-◌, ◌<◌}
use native.Mathlib.Omega.{arith}
use mathlib.Core.Path.{◌≡◌, refl, sym, ap, ◌∙◌, subst}
use mathlib.Core.Bool.{Bool, true, false}
use mathlib.Core.Logic.{⊎_elim}
use mathlib.Core.List.Memᴰ
use mathlib.Core.List.{List, [], ◌∷◌, ◌++◌, Memᴰ}
use lib.Dec.{eqb}
use lib.ListN.{length, get_or}
use borrow.Author.Tests.{eqb-false}
use Rattle.fields.specs.declared.Offset.{Offset}
use Rattle.fields.specs.Faults.{nowhere}
use Rattle.cells.specs.Rule.{Header}
use Rattle.cells.specs.Named.{data_at}
use Rattle.cells.specs.Tiled.{BinsTile}
use Rattle.cells.proofs.Parts.{data-small}
use Rattle.names.specs.Comparison.{compare, same_name}
use Rattle.names.proofs.LawsOrder.{transitive, after-turned, before-turned, same_left}
use Rattle.records.specs.declared.Child.{Child}
use Rattle.records.specs.Keys.{key_fault, key_of}
use Rattle.records.specs.Lists.{leaf_children, leaves_of, children_in, leaves_below, children_below, leaf_fault, head_fault}
use Rattle.records.specs.Terms.{no_child, leaves_at}
use Rattle.records.proofs.LawsPlaces.{leaf-some, leaf-tested, leaves-lie, leaves-are, leaves-few, named-length}
use Rattle.records.proofs.LawsSequence.{leaf-children-length}
use Rattle.tree.specs.declared.Hive.{Hive}
use Rattle.tree.specs.Tree.{name_at, is_before}
use Rattle.tree.specs.WellFormed.{Ascends, none, more, TreeStands, key}
use Rattle.tree.proofs.Accepted.{before-is}
use Rattle.records.proofs.Elements.{at_in}
use Rattle.tree.proofs.Subtrees.{last-at}
use Rattle.search.specs.declared.Turn.TheVariants.{Left, Right, Stop}
use Rattle.search.specs.Search.{or_else, first_of, key_named, search_keys, search_leaf, search_leaves, search_below}
use Rattle.search.specs.Quick.{halving, ask_key, quick_keys, first_child, last_child, is_after, ask_keys, ask_leaf, quick_below}
use Rattle.search.proofs.Finds.{key-good, list-head, leaves-good}
use Rattle.search.proofs.Refusals.{in-leaves, in-children}
use Rattle.search.proofs.Halved.{Parted, on, stop, gap, parted-as, halved-list}
use Rattle.fields.specs.declared.Flaw.{Flaw}
use Rattle.std.specs.Prelude.{Err, None, Ok, Option, Result, Some}
use Rattle.std.specs.declared.cmp.Ordering.{Ordering}
use Rattle.std.specs.declared.cmp.Ordering.TheVariants.{Equal, Greater, Less}

-- ---- the order of three names

-- what comes after a name that is not before x comes after x
after_on : (x a b : List ℕ) → is_before (compare a x) ≡ false → compare a b ≡ Less → compare b x ≡ Greater
after_on x a b n e = by (compare a x) refl n
  where
    by : (o : Ordering) → compare a x ≡ o → is_before o ≡ false → compare b x ≡ Greater
    by Less p q = absurd (let z : ◌≡◌ {A = ℕ} 0 1 = cc in omega arith)
    by Equal p q = before-turned x b (sym (same_left a x b p) ∙ e)
    by Greater p q = before-turned x b (transitive x a b (after-turned a x p) e)

is-after : (o : Ordering) → is_after o ≡ true → o ≡ Greater
is-after Less e = absurd (let z : ◌≡◌ {A = ℕ} 0 1 = cc in omega arith)
is-after Equal e = absurd (let z : ◌≡◌ {A = ℕ} 0 1 = cc in omega arith)
is-after Greater e = refl

-- ---- the first of some things, where none answers, or only the first part of them
module _ {A : Type 0} (each : A → Result (Option Offset) Flaw) where
  or-none : (a : Result (Option Offset) Flaw) → or_else a (Ok None) ≡ a
  unfolding or_else
  or-none (Ok None) = refl
  or-none (Ok (Some o)) = refl
  or-none (Err f) = refl

  first-skips : (x : A) (xs : List A) → each x ≡ Ok None → first_of each (x ∷ xs) ≡ first_of each xs
  unfolding first_of or_else
  first-skips x xs e = rw e

  first-only : (x : A) (xs : List A) → first_of each xs ≡ Ok None → first_of each (x ∷ xs) ≡ each x
  unfolding first_of
  first-only x xs e = rw e (or-none (each x))

  none_answers : (xs : List A) → ((y : A) → Memᴰ y xs → each y ≡ Ok None) → first_of each xs ≡ Ok None
  unfolding first_of
  none_answers [] f = refl
  none_answers (x ∷ xs) f = first-skips x xs (f x (Memᴰ.head refl)) ∙ none_answers xs (λ y i. f y (Memᴰ.tail i))

-- ---- the keys of a leaf
module _ (d x : List ℕ) where
  -- each record is good
  abbrev Good : List Child → Type 0
  Good cs = (c : Child) → Memᴰ c cs → key_fault Header d [] c.at ≡ Ok tt

  -- how a key's name stands to x
  abbrev Stands : Ordering → Child → Type 0
  Stands o c = compare (name_at d c.at) x ≡ o

  module _ (c : Child) (good : key_fault Header d [] c.at ≡ Ok tt) where
    ask-before : Stands Less c → ask_key d x c ≡ Right
    unfolding ask_key
    ask-before e = rw (good, e)

    ask-same : Stands Equal c → ask_key d x c ≡ Stop (Ok (Some c.at))
    unfolding ask_key
    ask-same e = rw (good, e)

    ask-after : Stands Greater c → ask_key d x c ≡ Left
    unfolding ask_key
    ask-after e = rw (good, e)

    named-before : Stands Less c → key_named d x c ≡ Ok None
    unfolding key_named same_name
    named-before e = rw (good, e)

    named-same : Stands Equal c → key_named d x c ≡ Ok (Some c.at)
    unfolding key_named same_name
    named-same e = rw (good, e)

    named-after : Stands Greater c → key_named d x c ≡ Ok None
    unfolding key_named same_name
    named-after e = rw (good, e)

  -- keys that all stand on one side
  keys-before : (cs : List Child) → Good cs → ((c : Child) → Memᴰ c cs → Stands Less c) → search_keys d x cs ≡ Ok None
  keys-before cs good f = none_answers (key_named d x) cs (λ c i. named-before c (good c i) (f c i))

  keys-after : (cs : List Child) → Good cs → ((c : Child) → Memᴰ c cs → Stands Greater c) → search_keys d x cs ≡ Ok None
  keys-after cs good f = none_answers (key_named d x) cs (λ c i. named-after c (good c i) (f c i))

  -- the cut is the key of the name, or the gap where it would stand
  parted-keys : (cs : List Child) → Ascends d cs → Good cs → Parted (ask_key d x) cs (search_keys d x cs)
  parted-keys [] none good = parted-as (none_answers (key_named d x) [] (λ y i. absurd (Memᴰ.not-nil i))) (gap (λ y i. absurd (Memᴰ.not-nil i)))
  parted-keys (c ∷ cs) (more f a) good = by (parted-keys cs a (λ e i. good e (Memᴰ.tail i))) (compare (name_at d c.at) x) refl
    where
      head-good : key_fault Header d [] c.at ≡ Ok tt
      head-good = good c (Memᴰ.head refl)

      -- those behind a key that is not before x come after x
      behind : is_before (compare (name_at d c.at) x) ≡ false → (e : Child) → Memᴰ e cs → Stands Greater e
      behind n e i = after_on x (name_at d c.at) (name_at d e.at) n (f e i)

      left : is_before (compare (name_at d c.at) x) ≡ false → (e : Child) → Memᴰ e cs → ask_key d x e ≡ Left
      left n e i = ask-after e (good e (Memᴰ.tail i)) (behind n e i)

      rest : is_before (compare (name_at d c.at) x) ≡ false → search_keys d x cs ≡ Ok None
      rest n = keys-after cs (λ e i. good e (Memᴰ.tail i)) (behind n)

      by : Parted (ask_key d x) cs (search_keys d x cs) → (o : Ordering) → compare (name_at d c.at) x ≡ o
          → Parted (ask_key d x) (c ∷ cs) (search_keys d x (c ∷ cs))
      by p Less e = parted-as (first-skips (key_named d x) c cs (named-before c head-good e)) (on (ask-before c head-good e) p)
      by p Equal e =
          let n : is_before (compare (name_at d c.at) x) ≡ false = rw e in
          parted-as (first-only (key_named d x) c cs (rest n) ∙ named-same c head-good e)
          (stop (ask-same c head-good e) (left n))
      by p Greater e =
          let n : is_before (compare (name_at d c.at) x) ≡ false = rw e in
          parted-as (first-only (key_named d x) c cs (rest n) ∙ named-after c head-good e)
          (gap (λ y i. ⊎_elim (λ (s : y ≡ c). ap (ask_key d x) s ∙ ask-after c head-good e) (λ j. left n y j) (Memᴰ.cases_cons i)))

  pub quick-keys : (cs : List Child) → length cs < 65536 → Ascends d cs → Good cs → quick_keys d x cs ≡ search_keys d x cs
  unfolding quick_keys
  quick-keys cs few a good = halved-list (ask_key d x) no_child cs few (parted-keys cs a good)

  -- ---- a leaf is asked by its first and its last key

  -- all from the first on come after x where the first does
  from_first : (cs : List Child) → Ascends d cs → Stands Greater (first_child cs) → (c : Child) → Memᴰ c cs → Stands Greater c
  from_first [] a e c i = absurd (Memᴰ.not-nil i)
  from_first (b ∷ cs) (more f a) e c i =
      ⊎_elim (λ (s : c ≡ b). subst (Stands Greater) (sym s) e) (λ j. after_on x (name_at d b.at) (name_at d c.at) (rw e) (f c j))
      (Memᴰ.cases_cons i)

  -- all up to the last come before x where the last does
  to_last : (cs : List Child) → Ascends d cs → Stands Less (last_child cs) → (c : Child) → Memᴰ c cs → Stands Less c
  to_last [] a e c i = absurd (Memᴰ.not-nil i)
  to_last (b ∷ []) a e c i = ⊎_elim (λ (s : c ≡ b). subst (Stands Less) (sym s) e) (λ j. absurd (Memᴰ.not-nil j)) (Memᴰ.cases_cons i)
  to_last (b ∷ y ∷ cs) (more f a) e c i =
      let l = subst (Stands Less) (last-at b y cs) e in
      let r = f (last_child (y ∷ cs)) (at_in (y ∷ cs) (length (y ∷ cs) - 1) no_child (omega arith)) in
      ⊎_elim (λ (s : c ≡ b). subst (Stands Less) (sym s) (transitive (name_at d b.at) (name_at d (last_child (y ∷ cs)).at) x r l))
      (λ j. to_last (y ∷ cs) a l c j) (Memᴰ.cases_cons i)

  module _ (cs : List Child) (some : 0 < length cs) (good : Good cs) where
    first-in : Memᴰ (first_child cs) cs
    first-in = at_in cs 0 no_child some

    last-in : Memᴰ (last_child cs) cs
    last-in = at_in cs (length cs - 1) no_child (omega arith)

    asks-left : Stands Greater (first_child cs) → ask_keys d x cs ≡ Left
    unfolding ask_keys
    asks-left e = rw (good (first_child cs) first-in, e)

    module _ (e : is_after (compare (name_at d (first_child cs).at) x) ≡ false) where
      asks-right : Stands Less (last_child cs) → ask_keys d x cs ≡ Right
      unfolding ask_keys
      asks-right f = rw (good (first_child cs) first-in, e, good (last_child cs) last-in, f)

      asks-stop : is_before (compare (name_at d (last_child cs).at) x) ≡ false → ask_keys d x cs ≡ Stop (quick_keys d x cs)
      unfolding ask_keys
      asks-stop f = rw (good (first_child cs) first-in, e, good (last_child cs) last-in, f)

-- ---- the leaves of a key
module _ (d : List ℕ) where
  -- `Ascends` of the joined children splits into that of each leaf, and all of one leaf stand before all of the next
  ascends_front : (cs es : List Child) → Ascends d (cs ++ es) → Ascends d cs
  ascends_front [] es a = none
  ascends_front (c ∷ cs) es (more f a) = more (λ e i. f e (Memᴰ.append_left es i)) (ascends_front cs es a)

  ascends-rest : (cs es : List Child) → Ascends d (cs ++ es) → Ascends d es
  ascends-rest [] es a = a
  ascends-rest (c ∷ cs) es (more f a) = ascends-rest cs es a

  ascends-across : (cs es : List Child) → Ascends d (cs ++ es) → (c e : Child) → Memᴰ c cs → Memᴰ e es
      → compare (name_at d c.at) (name_at d e.at) ≡ Less
  ascends-across [] es a c e i j = absurd (Memᴰ.not-nil i)
  ascends-across (b ∷ cs) es (more f a) c e i j =
      ⊎_elim (λ (s : c ≡ b). subst (λ (o : Child). compare (name_at d o.at) (name_at d e.at) ≡ Less) (sym s) (f e (Memᴰ.append_right cs j)))
      (λ k. ascends-across cs es a c e k j) (Memᴰ.cases_cons i)

  abbrev keys_of : Offset → List Child
  keys_of l = leaf_children (data_at d l)

  -- a leaf that passes: not empty, and with fewer keys than 2^16
  pub record Passes (l : Offset) : Type 0 where
    pub sound : leaf_fault Header d [] l ≡ Ok tt
    pub few : length (keys_of l) < 65536

  module _ (x : List ℕ) where
    module _ (l : Offset) (p : Passes l) where
      leaf-asks : ask_leaf d x l ≡ ask_keys d x (keys_of l)
      unfolding ask_leaf
      leaf-asks = rw p.sound

      leaf-searched : search_leaf d x l ≡ search_keys d x (keys_of l)
      unfolding search_leaf
      leaf-searched = rw p.sound

      leaf-full : 0 < length (keys_of l)
      leaf-full = leaf-some Header d [] l p.sound

    abbrev AllPass : List Offset → Type 0
    AllPass ls = (l : Offset) → Memᴰ l ls → Passes l

    -- leaves whose keys all come after x
    module _ (ls : List Offset) (pass : AllPass ls) (good : Good d x (children_in d ls))
        (after : (c : Child) → Memᴰ c (children_in d ls) → Stands d x Greater c) where
      leaves-left : (l : Offset) → Memᴰ l ls → ask_leaf d x l ≡ Left
      leaves-left l i =
          let full = leaf-full l (pass l i) in
          leaf-asks l (pass l i) ∙ asks-left d x (keys_of l) full (λ c j. good c (in-leaves d ls i j))
          (after (first_child (keys_of l)) (in-leaves d ls i (at_in (keys_of l) 0 no_child full)))

      leaves-missing : search_leaves d x ls ≡ Ok None
      leaves-missing = none_answers (search_leaf d x) ls
          (λ l i. leaf-searched l (pass l i) ∙ keys-after d x (keys_of l) (λ c j. good c (in-leaves d ls i j)) (λ c j. after c (in-leaves d ls i j)))

    -- one leaf in front of others
    module _ (l : Offset) (ls : List Offset) (pass : AllPass (l ∷ ls)) (a : Ascends d (keys_of l ++ children_in d ls))
        (good : Good d x (keys_of l ++ children_in d ls)) where
      here : Passes l
      here = pass l (Memᴰ.head refl)

      others : AllPass ls
      others y i = pass y (Memᴰ.tail i)

      good-here : Good d x (keys_of l)
      good-here c i = good c (Memᴰ.append_left (children_in d ls) i)

      good_others : Good d x (children_in d ls)
      good_others c i = good c (Memᴰ.append_right (keys_of l) i)

      ordered : Ascends d (keys_of l)
      ordered = ascends_front (keys_of l) (children_in d ls) a

      -- all behind a key of this leaf that is not before x
      behind : (b : Child) → Memᴰ b (keys_of l) → is_before (compare (name_at d b.at) x) ≡ false → (c : Child) → Memᴰ c (children_in d ls)
          → Stands d x Greater c
      behind b i n c j = after_on x (name_at d b.at) (name_at d c.at) n (ascends-across (keys_of l) (children_in d ls) a b c i j)

      -- its first comes after x: so do all
      at_gap : Stands d x Greater (first_child (keys_of l)) → Parted (ask_leaf d x) (l ∷ ls) (search_leaves d x (l ∷ ls))
      at_gap e =
          let full = leaf-full l here in
          let after = behind (first_child (keys_of l)) (at_in (keys_of l) 0 no_child full) (rw e) in
          let left = leaf-asks l here ∙ asks-left d x (keys_of l) full good-here e in
          let missing = leaf-searched l here ∙ keys-after d x (keys_of l) good-here (from_first d x (keys_of l) ordered e) in
          parted-as (first-only (search_leaf d x) l ls (leaves-missing ls others good_others after) ∙ missing)
          (gap (λ y i. ⊎_elim (λ (s : y ≡ l). ap (ask_leaf d x) s ∙ left) (λ j. leaves-left ls others good_others after y j) (Memᴰ.cases_cons i)))

      module _ (e : is_after (compare (name_at d (first_child (keys_of l)).at) x) ≡ false) where
        -- its last comes before x: so do all, and the others decide
        at_on : Stands d x Less (last_child (keys_of l)) → Parted (ask_leaf d x) ls (search_leaves d x ls)
            → Parted (ask_leaf d x) (l ∷ ls) (search_leaves d x (l ∷ ls))
        at_on f p =
            let missing = leaf-searched l here ∙ keys-before d x (keys_of l) good-here (to_last d x (keys_of l) ordered f) in
            parted-as (first-skips (search_leaf d x) l ls missing)
            (on (leaf-asks l here ∙ asks-right d x (keys_of l) (leaf-full l here) good-here e f) p)

        -- else it is the one
        at-stop : is_before (compare (name_at d (last_child (keys_of l)).at) x) ≡ false → Parted (ask_leaf d x) (l ∷ ls) (search_leaves d x (l ∷ ls))
        at-stop f =
            let full = leaf-full l here in
            let after = behind (last_child (keys_of l)) (at_in (keys_of l) (length (keys_of l) - 1) no_child (omega arith)) f in
            let answer = ap Stop (quick-keys d x (keys_of l) here.few ordered good-here) in
            parted-as (first-only (search_leaf d x) l ls (leaves-missing ls others good_others after) ∙ leaf-searched l here)
            (stop (leaf-asks l here ∙ asks-stop d x (keys_of l) full good-here e f ∙ answer) (leaves-left ls others good_others after))

    parted-leaves : (ls : List Offset) → AllPass ls → Ascends d (children_in d ls) → Good d x (children_in d ls)
        → Parted (ask_leaf d x) ls (search_leaves d x ls)
    unfolding children_in
    parted-leaves [] pass a good =
        parted-as (none_answers (search_leaf d x) [] (λ y i. absurd (Memᴰ.not-nil i)))
        (gap (λ y i. absurd (Memᴰ.not-nil i)))
    parted-leaves (l ∷ ls) pass a good =
        by (parted-leaves ls (others l ls pass a good) (ascends-rest (keys_of l) (children_in d ls) a) (good_others l ls pass a good))
        (is_after (compare (name_at d (first_child (keys_of l)).at) x)) refl (is_before (compare (name_at d (last_child (keys_of l)).at) x)) refl
      where
        by : Parted (ask_leaf d x) ls (search_leaves d x ls) → (t : Bool) → is_after (compare (name_at d (first_child (keys_of l)).at) x) ≡ t
            → (u : Bool) → is_before (compare (name_at d (last_child (keys_of l)).at) x) ≡ u → Parted (ask_leaf d x) (l ∷ ls) (search_leaves d x (l ∷ ls))
        by p true e u f = at_gap l ls pass a good (is-after _ e)
        by p false e true f = at_on l ls pass a good e (before-is _ f) p
        by p false e false f = at-stop l ls pass a good e f

    pub quick-leaves : (ls : List Offset) → length ls < 65536 → AllPass ls → Ascends d (children_in d ls) → Good d x (children_in d ls)
        → halving (ask_leaf d x) nowhere ls ≡ search_leaves d x ls
    quick-leaves ls few pass a good = halved-list (ask_leaf d x) nowhere ls few (parted-leaves ls pass a good)

-- ---- below a key whose tree stands, in a hive of bytes
module _ (d : List ℕ) (bytes : (i : ℕ) → get_or d i 0 < 256) where
  -- counts have 16 bits
  leaf-few : (l : Offset) → leaf_fault Header d [] l ≡ Ok tt → length (leaf_children (data_at d l)) < 65536
  leaf-few l s =
      let r = (leaf-tested Header d [] l s).holds.room in
      rw (leaf-children-length (data_at d l)) (data-small d l 2 (omega arith) bytes)

  list-few : (o : Offset) → head_fault Header d [] o ≡ Ok tt → length (leaves_of d o) < 65536
  list-few o s =
      let n = named-length d (leaves_at d o) (leaves-lie Header d [] o s) in
      rw (sym (leaves-are d o), n) (leaves-few Header d [] o s bytes)

  module _ (hive : Hive) (tiles : BinsTile d 0) where
    pub quick-below : (n : ℕ) (o : Offset) → TreeStands d hive n o → (x : List ℕ) → quick_below d x (key_of d o) ≡ search_below d x (key_of d o)
    unfolding quick_below search_below children_below leaves_below
    quick-below Prim.Native.Nat.zero o x3 x = elim x3 [ ]
    quick-below (suc n) o (key s a ch tree) x = by (eqb (key_of d o).subkeys 0) refl
      where
        by : (t : Bool) → eqb (key_of d o).subkeys 0 ≡ t → quick_below d x (key_of d o) ≡ search_below d x (key_of d o)
        by true e = rw e
        by false e =
            let ls = leaves_of d (key_of d o).list in
            let stands = s.lists (eqb-false _ _ e) in
            let head = list-head d hive tiles (key_of d o).list stands in
            let good = leaves-good d hive tiles (key_of d o).list stands in
            let pass : AllPass d x ls = λ l i. record { sound = good l i; few = leaf-few l (good l i) } in
            let rises : Ascends d (children_in d ls) = rw e at a in
            rw (e, head) (quick-leaves d x ls (list-few (key_of d o).list head) pass rises
            (λ c i. key-good d hive tiles n c.at (tree c (in-children d o e i))))
