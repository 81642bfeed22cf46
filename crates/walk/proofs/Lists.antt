-- In an accepted hive a walk gives the events of its tree, and then it is over. What is left to come is told by the open levels: a step gives its head and
-- leaves its tail.
use Prim.Native.Nat.{ℕ, zero, suc, ◌+◌, ◌-◌, ◌*◌, ◌<◌, ◌≤◌}
use native.Mathlib.Omega.{arith}
use native.Mathlib.Nat.{zero-add, suc-add}
use mathlib.Core.Path.{◌≡◌, refl, sym, ap, ap₂, ◌∙◌, subst}
use mathlib.Core.Bool.{Bool, true, false}
use mathlib.Core.List.Memᴰ
use mathlib.Core.List.{List, [], ◌∷◌, ◌++◌, Memᴰ, append_assoc, append-nil}
use mathlib.Core.Logic.{⊎_elim}
use lib.Dec.{ltb}
use lib.ListN.{length, get_or, set, replicate, length-append, length-set}
use lib.Seq.{sets, length-sets, get_or-set_same, get_or-set_other}
use borrow.Author.Tests.{ltb-true, ltb-false}
use Rattle.fields.specs.declared.Offset.{Offset}
use Rattle.fields.specs.declared.Refusal.{Refusal}
use Rattle.base.specs.Block.{bins_data, base_fault}
use Rattle.base.proofs.Laws.{facts-base}
use Rattle.cells.specs.Rule.{Header}
use Rattle.records.specs.declared.Child.{Child}
use Rattle.records.specs.Keys.{key_fault, key_of, called}
use Rattle.records.specs.Listed.{joined, keys_in}
use Rattle.records.specs.Lists.{leaves_below, children_below, children}
use Rattle.tree.specs.Tree.{levels, hive_of, keys_of}
use Rattle.tree.specs.WellFormed.{KeyStands, TreeStands, key, CleanAndWellFormed}
use Rattle.search.proofs.Finds.{key-good}
use Rattle.listing.specs.Members.{entry_of}
use Rattle.walk.specs.declared.Mark.{Mark}
use Rattle.walk.specs.declared.Walked.TheVariants.{Opens, Closes}
use Rattle.walk.specs.Answers.{key_at, mark_at, next_below, step_at, answer_of, levels_after, step_answer, step_levels, begin_answer, begin_levels}
use Rattle.walk.specs.Events.{events_over, events_in, events_of, opened, children_left, coming, depth_after, steps_from, walk_of}
use Rattle.walk.proofs.Ways.{enter-on, open-on, at-end, at_on, in-over, in_on, step-on, root-on, begin-on}
use Rattle.walk.proofs.Among.{Inside, NextIs, no_more, one_more, inside-first, below-good, next-stands}
use Rattle.fields.specs.declared.Flaw.{Flaw}
use Rattle.std.specs.Prelude.{Err, None, Ok, Option, Result, Some}
use Rattle.walk.specs.declared.Offer.{Offer}
use Rattle.walk.specs.declared.Walked.{Walked}

-- ---- the events of a tree, whatever stands in it: each key opens once, in pre-order, and closes

opened-append : (xs ys : List (Result (Option Walked) Refusal)) → opened (xs ++ ys) ≡ opened xs ++ opened ys
unfolding opened
opened-append [] ys = refl
opened-append (Ok (Some (Opens e)) ∷ xs) ys = ap (λ (os : List Offset). e.at ∷ os) (opened-append xs ys)
opened-append (Ok (Some (Closes k)) ∷ xs) ys = opened-append xs ys
opened-append ((Ok None) ∷ xs) ys = opened-append xs ys
opened-append (Err r ∷ xs) ys = opened-append xs ys

opened-over : (f : Offset → List (Result (Option Walked) Refusal)) (g : Offset → List Offset) → ((o : Offset) → opened (f o) ≡ g o) → (cs : List Child)
    → opened (events_over f cs) ≡ joined g cs
unfolding events_over opened joined
opened-over f g e [] = refl
opened-over f g e (c ∷ cs) = opened-append (f c.at) (events_over f cs) ∙ ap₂ (λ (xs ys : List Offset). xs ++ ys) (e c.at) (opened-over f g e cs)

opened_in : (d : List ℕ) (n : ℕ) (at : Offset) → opened (events_in d n at) ≡ keys_in d n at
unfolding events_in keys_in opened entry_of
opened_in d zero at = refl
opened_in d (suc n) at =
    let xs = events_over (events_in d n) (children d at) in
    ap (λ (os : List Offset). at ∷ os)
    (opened-append xs (Ok (Some (Closes at)) ∷ []) ∙ append-nil (opened xs) ∙ opened-over (events_in d n) (keys_in d n) (opened_in d n) (children d at))

counted-over : (f : Offset → List (Result (Option Walked) Refusal)) (g : Offset → List Offset) → ((o : Offset) → length (f o) ≡ 2 * length (g o)) → (cs : List Child)
    → length (events_over f cs) ≡ 2 * length (joined g cs)
unfolding events_over joined
counted-over f g e [] = refl
counted-over f g e (c ∷ cs) =
    let a = length-append (f c.at) (events_over f cs) in
    let b = length-append (g c.at) (joined g cs) in
    let x = e c.at in
    let y = counted-over f g e cs in
    omega arith

counted-in : (d : List ℕ) (n : ℕ) (at : Offset) → length (events_in d n at) ≡ 2 * length (keys_in d n at)
unfolding events_in keys_in
counted-in d zero at = refl
counted-in d (suc n) at =
    let xs = events_over (events_in d n) (children d at) in
    let a = length-append xs (Ok (Some (Closes at)) ∷ []) in
    let b = counted-over (events_in d n) (keys_in d n) (counted-in d n) (children d at) in
    omega arith

-- "the keys of its Opens, in order, are `keys_of h`; so there are 2 x keys events"
pub opens-listed : (h : List ℕ) → (opened (events_of h) ≡ keys_of h) × (length (events_of h) ≡ 2 * length (keys_of h))
opens-listed h = (opened_in (bins_data h) levels (hive_of h).root, counted-in (bins_data h) levels (hive_of h).root)

-- ---- words that are set

set_below : (vs ws : List ℕ) (i j : ℕ) → j < i → get_or (sets ws i vs) j 0 ≡ get_or ws j 0
set_below [] ws i j p = refl
set_below (v ∷ vs) ws i j p = set_below vs (set ws i v) (suc i) j (omega arith) ∙ get_or-set_other ws i j v 0 (λ q. omega arith)

pub set_at : (vs ws : List ℕ) (i k x : ℕ) → x ≡ i + k → k < length vs → i + k < length ws → get_or (sets ws i vs) x 0 ≡ get_or vs k 0
set_at [] ws i k x e p q = absurd (omega arith)
set_at (v ∷ vs) ws i zero x e p q =
    let z : x ≡ i = omega arith in
    ap (λ (y : ℕ). get_or (sets ws i (v ∷ vs)) y 0) z ∙ set_below vs (set ws i v) (suc i) i (omega arith) ∙ get_or-set_same ws i v 0 (omega arith)
set_at (v ∷ vs) ws i (suc k) x e p q = let l = length-set ws i v in set_at vs (set ws i v) (suc i) k x (omega arith) (omega arith) (omega arith)

-- where the words of the key at level n stand, from 0 on
abbrev pub place : ℕ → ℕ
place n = 3 * (suc n - 1)

-- the words after a step that opens c below the key at level n, and marks what comes next of it
record Moved (ws ws' : List ℕ) (n : ℕ) (c : Offset) (m : Mark) : Type 0 where
  size : length ws' ≡ length ws
  low : (i : ℕ) → i < 3 * n + 1 → get_or ws' i 0 ≡ get_or ws i 0
  leaf : get_or ws' (place n + 1) 0 ≡ m.leaf
  element : get_or ws' (place n + 2) 0 ≡ m.element
  at : get_or ws' (place (suc n)) 0 ≡ c.0
  first : get_or ws' (place (suc n) + 1) 0 ≡ 0
  none : get_or ws' (place (suc n) + 2) 0 ≡ 0

moved : (ws : List ℕ) (n : ℕ) (c : Offset) (m : Mark) → 3 * n + 6 ≤ length ws
    → Moved ws (sets (sets ws (place n + 1) (m.leaf ∷ m.element ∷ [])) (3 * suc n) (c.0 ∷ 0 ∷ 0 ∷ [])) n c m
moved ws n c m p =
    let vs = m.leaf ∷ m.element ∷ [] in
    let us = c.0 ∷ 0 ∷ 0 ∷ [] in
    let mid = sets ws (place n + 1) vs in
    let l = length-sets ws (place n + 1) vs in
    record {
      size = length-sets mid (3 * suc n) us ∙ l;
      low = λ i q. set_below us mid (3 * suc n) i (omega arith) ∙ set_below vs ws (place n + 1) i (omega arith);
      leaf = set_below us mid (3 * suc n) (place n + 1) (omega arith)
          ∙ set_at vs ws (place n + 1) 0 (place n + 1) (omega arith) (omega arith) (omega arith);
      element = set_below us mid (3 * suc n) (place n + 2) (omega arith)
          ∙ set_at vs ws (place n + 1) 1 (place n + 2) (omega arith) (omega arith) (omega arith);
      at = set_at us mid (3 * suc n) 0 (place (suc n)) (omega arith) (omega arith) (omega arith);
      first = set_at us mid (3 * suc n) 1 (place (suc n) + 1) (omega arith) (omega arith) (omega arith);
      none = set_at us mid (3 * suc n) 2 (place (suc n) + 2) (omega arith) (omega arith) (omega arith);
    }

-- ---- what is left to come

-- of the first n keys it is told by their words alone
coming-same : (d ws ws' : List ℕ) (n : ℕ) → ((i : ℕ) → i < 3 * n → get_or ws' i 0 ≡ get_or ws i 0) → coming d ws' n ≡ coming d ws n
unfolding coming
coming-same d ws ws' zero f = refl
coming-same d ws ws' (suc n) f =
    rw (f (place n) (omega arith), f (place n + 1) (omega arith), f (place n + 2) (omega arith), coming-same d ws ws' n (λ i p. f i (omega arith)))

module _ (d ws : List ℕ) (n : ℕ) where
  close-coming : children_left d (key_at ws (suc n)) (mark_at ws (suc n)) ≡ [] → coming d ws (suc n) ≡ Ok (Some (Closes (key_at ws (suc n)))) ∷ coming d ws n
  unfolding coming events_over
  close-coming e = rw e

  module _ (ws' : List ℕ) (c : Child) (m : Mark) (b : ℕ) (lv : levels - suc n ≡ suc b) where
    inner : List (Result (Option Walked) Refusal)
    inner = events_over (events_in d b) (children d c.at)

    rest : List (Result (Option Walked) Refusal)
    rest = events_over (events_in d (suc b)) (children_left d (key_at ws (suc n)) m)

    before : children_left d (key_at ws (suc n)) (mark_at ws (suc n)) ≡ c ∷ children_left d (key_at ws (suc n)) m
        → coming d ws (suc n)
        ≡ Ok (Some (Opens (entry_of c.at (key_of d c.at).name))) ∷ (((inner ++ (Ok (Some (Closes c.at)) ∷ [])) ++ rest) ++ (Ok (Some (Closes (key_at ws (suc n)))) ∷ coming d ws n))
    unfolding coming events_over events_in inner rest
    before e = rw (lv, e)

    after : Moved ws ws' n c.at m → coming d ws' (suc (suc n)) ≡ inner ++ (Ok (Some (Closes c.at)) ∷ (rest ++ (Ok (Some (Closes (key_at ws (suc n)))) ∷ coming d ws n)))
    unfolding coming children_below inner rest
    after mv =
        let r : levels - suc (suc n) ≡ b = omega arith in
        rw (
          mv.at,
          mv.first,
          mv.none,
          mv.low (place n) (omega arith),
          mv.leaf,
          mv.element,
          lv,
          r,
          coming-same d ws ws' n (λ i p. mv.low i (omega arith)),
        )

    open-coming : children_left d (key_at ws (suc n)) (mark_at ws (suc n)) ≡ c ∷ children_left d (key_at ws (suc n)) m → Moved ws ws' n c.at m
        → coming d ws (suc n) ≡ Ok (Some (Opens (entry_of c.at (key_of d c.at).name))) ∷ coming d ws' (suc (suc n))
    open-coming e mv =
        let z = Ok (Some (Closes (key_at ws (suc n)))) ∷ coming d ws n in
        let s : ((inner ++ (Ok (Some (Closes c.at)) ∷ [])) ++ rest) ++ z ≡ inner ++ (Ok (Some (Closes c.at)) ∷ (rest ++ z)) = simp append_assoc in
        before e ∙ ap (λ (xs : List (Result (Option Walked) Refusal)). Ok (Some (Opens (entry_of c.at (key_of d c.at).name))) ∷ xs) (s ∙ sym (after mv))

-- ---- the invariant, and one step

module _ (h : List ℕ) where
  -- an open key: the keys from it on form a tree, and its mark stands at an element
  pub record Open (ws : List ℕ) (n : ℕ) : Type 0 where
    pub below : ℕ
    pub level : below + n ≡ 512
    pub tree : TreeStands (bins_data h) (hive_of h) (suc below) (key_at ws (suc n))
    pub mark : Inside (bins_data h) (leaves_below (bins_data h) (key_of (bins_data h) (key_at ws (suc n)))) (mark_at ws (suc n))

  pub record Standing (ws : List ℕ) (n : ℕ) : Type 0 where
    pub words : 1539 ≤ length ws
    pub each : (i : ℕ) → i < n → Open ws i

  -- "a step gives its head and leaves its tail"
  pub record Stepped (ws : List ℕ) (n : ℕ) : Type 0 where
    pub gives : coming (bins_data h) ws n ≡ step_answer h ws n ∷ coming (bins_data h) (step_levels h ws n) (depth_after (step_answer h ws n) n)
    pub stands : Standing (step_levels h ws n) (depth_after (step_answer h ws n) n)
    pub fine : (r : Refusal) → step_answer h ws n ≡ Err r → ⊥
    pub on : step_answer h ws n ≡ Ok None → ⊥

  -- an open key is told by its words
  open-same : (ws ws' : List ℕ) (n : ℕ) → get_or ws' (place n) 0 ≡ get_or ws (place n) 0 → get_or ws' (place n + 1) 0 ≡ get_or ws (place n + 1) 0
      → get_or ws' (place n + 2) 0 ≡ get_or ws (place n + 2) 0 → Open ws n → Open ws' n
  open-same ws ws' n a b c o = record { below = o.below; level = o.level; tree = rw a o.tree; mark = rw (a, b, c) o.mark }

module _ (h : List ℕ) (w : CleanAndWellFormed h) where
  base : base_fault h ≡ Ok tt
  base = facts-base h w.is-clean w.inside

  key-stands : (m : ℕ) {o : Offset} → TreeStands (bins_data h) (hive_of h) m o → KeyStands (bins_data h) (hive_of h).minor o
  key-stands zero {o = o} x' = elim x' [ ]
  key-stands (suc m) (key s a ch tree) = s

  some_level : (m : ℕ) {o : Offset} → TreeStands (bins_data h) (hive_of h) m o → (b : ℕ) × (m ≡ suc b)
  some_level zero {o = o} x' = elim x' [ ]
  some_level (suc b) (key s a ch tree) = (b, refl)

  child-stands : (m : ℕ) {o : Offset} → TreeStands (bins_data h) (hive_of h) (suc m) o → (c : Child) → Memᴰ c (children (bins_data h) o)
      → TreeStands (bins_data h) (hive_of h) m c.at
  child-stands m (key s a ch tree) c i = tree c i

  whole : (m : ℕ) {o : Offset} → TreeStands (bins_data h) (hive_of h) m o
      → called (key_fault Header (bins_data h) [] o) (key_of (bins_data h) o).name ≡ Ok (key_of (bins_data h) o).name
  whole m {o} t = rw (key-good (bins_data h) (hive_of h) w.formed.tiled m o t)

  -- a key that opens stands at its first child
  first-open : (ws : List ℕ) (n b : ℕ) (o : Offset) → get_or ws (place n) 0 ≡ o.0 → get_or ws (place n + 1) 0 ≡ 0 → get_or ws (place n + 2) 0 ≡ 0
      → b + n ≡ 512 → TreeStands (bins_data h) (hive_of h) (suc b) o → Open h ws n
  first-open ws n b o p q r l t =
      record {
        below = b;
        level = l;
        tree = rw p t;
        mark =
            rw (p, q, r)
            (inside-first (bins_data h) (leaves_below (bins_data h) (key_of (bins_data h) o))
            (below-good (bins_data h) (hive_of h) w.formed.tiled o (key-stands (suc b) t)) 0);
      }

  -- from a step as it is said of the last open key
  step_is : (ws : List ℕ) (n : ℕ) → 3 * suc n ≤ length ws → {s : Result (Option Offer) Refusal} → step_at (bins_data h) ws (suc n) ≡ s
      → (step_answer h ws (suc n) ≡ answer_of s) × (step_levels h ws (suc n) ≡ levels_after ws (suc n) s)
  step_is ws n p {s} e =
      let a = step-on h ws (suc n) base in
      let b = in_on (bins_data h) ws (suc n) (λ z. omega arith) p ∙ e in
      (a.0 ∙ ap answer_of b, a.1 ∙ ap (levels_after ws (suc n)) b)

  module _ (ws : List ℕ) (n : ℕ) (st : Standing h ws (suc n)) where
    top : Open h ws n
    top = st.each n (omega arith)

    room : 3 * suc n ≤ length ws
    room = let a = top.level in let b = st.words in omega arith

    closes : children_left (bins_data h) (key_at ws (suc n)) (mark_at ws (suc n)) ≡ []
        → next_below (bins_data h) (key_of (bins_data h) (key_at ws (suc n))) (mark_at ws (suc n)) ≡ Ok None → Stepped h ws (suc n)
    closes e q =
        let s = step_is ws n room (at-end (bins_data h) ws (suc n) (key_at ws (suc n)) refl (key-good (bins_data h) (hive_of h) w.formed.tiled (suc top.below) (key_at ws (suc n)) top.tree) refl q) in
        let z : n ≡ suc n - 1 = omega arith in
        record {
          gives =
              rw (s.0, s.1)
              (subst (λ (x : ℕ). coming (bins_data h) ws (suc n) ≡ Ok (Some (Closes (key_at ws (suc n)))) ∷ coming (bins_data h) ws x) z
              (close-coming (bins_data h) ws n e));
          stands = rw (s.0, s.1) (subst (λ (x : ℕ). Standing h ws x) z (record { words = st.words; each = λ i p. st.each i (omega arith) }));
          fine = λ r f. let g : Ok (Some (Closes (key_at ws (suc n)))) ≡ Err r = sym s.0 ∙ f in let y : ◌≡◌ {A = ℕ} 0 1 = cc in omega arith;
          on = λ f. let g : Ok (Some (Closes (key_at ws (suc n)))) ≡ (Ok None) = sym s.0 ∙ f in let y : ◌≡◌ {A = ℕ} 0 1 = cc in omega arith;
        }

    -- the levels after a child opened
    module _ (c : Child) (m : Mark) (b : ℕ) (lv : top.below ≡ suc b) (i : Memᴰ c (children (bins_data h) (key_at ws (suc n))))
        (inside : Inside (bins_data h) (leaves_below (bins_data h) (key_of (bins_data h) (key_at ws (suc n)))) m) where
      tree-below : TreeStands (bins_data h) (hive_of h) (suc b) c.at
      tree-below = subst (λ (x : ℕ). TreeStands (bins_data h) (hive_of h) x c.at) lv (child-stands top.below top.tree c i)

      parent : (ws' : List ℕ) → Moved ws ws' n c.at m → Open h ws' n
      parent ws' mv =
          record {
            below = top.below;
            level = top.level;
            tree = rw (mv.low (place n) (omega arith)) top.tree;
            mark = rw (mv.low (place n) (omega arith), mv.leaf, mv.element) inside;
          }

      standing : (ws' : List ℕ) → Moved ws ws' n c.at m → Standing h ws' (suc (suc n))
      standing ws' mv = record { words = let a = st.words in let e = mv.size in omega arith; each = one }
        where
          one : (x : ℕ) → x < suc (suc n) → Open h ws' x
          one x p = by (ltb x n) refl (ltb x (suc n)) refl
            where
              by : (s : Bool) → ltb x n ≡ s → (t : Bool) → ltb x (suc n) ≡ t → Open h ws' x
              by true e t f =
                  let y = ltb-true x n e in
                  open-same h ws ws' x (mv.low (place x) (omega arith)) (mv.low (place x + 1) (omega arith)) (mv.low (place x + 2) (omega arith))
                  (st.each x (omega arith))
              by false e true f =
                  let y = ltb-false x n e in
                  let y' = ltb-true x (suc n) f in
                  let z : n ≡ x = omega arith in
                  subst (λ (u : ℕ). Open h ws' u) z (parent ws' mv)
              by false e false f =
                  let y = ltb-false x (suc n) f in
                  let z : suc n ≡ x = omega arith in
                  let l = top.level in
                  subst (λ (u : ℕ). Open h ws' u) z (first-open ws' (suc n) b c.at mv.at mv.first mv.none (omega arith) tree-below)

      opens-child : children_left (bins_data h) (key_at ws (suc n)) (mark_at ws (suc n)) ≡ c ∷ children_left (bins_data h) (key_at ws (suc n)) m
          → next_below (bins_data h) (key_of (bins_data h) (key_at ws (suc n))) (mark_at ws (suc n)) ≡ Ok (Some (c.at, m)) → Stepped h ws (suc n)
      unfolding entry_of
      opens-child e q =
          let d = bins_data h in
          let l = top.level in
          let wd = st.words in
          let x = entry_of c.at (key_of d c.at).name in
          let a = at_on d ws (suc n) (key_at ws (suc n)) refl (key-good (bins_data h) (hive_of h) w.formed.tiled (suc top.below) (key_at ws (suc n)) top.tree) refl q in
          let o = open-on d ws (suc n) (key_at ws (suc n)) c.at m (whole (suc b) tree-below) in
          let g = enter-on ws (suc n) (key_at ws (suc n)) x m (omega arith) (omega arith) in
          let s = step_is ws n room (a ∙ o ∙ g) in
          let mv = moved ws n c.at m (omega arith) in
          let z : suc (suc n) ≡ suc n + 1 = omega arith in
          let lv' : levels - suc n ≡ suc b = omega arith in
          let ws' = sets (sets ws (place n + 1) (m.leaf ∷ m.element ∷ [])) (3 * suc n) (c.at.0 ∷ 0 ∷ 0 ∷ []) in
          record {
            gives = rw (s.0, s.1) (subst (λ (y : ℕ). coming d ws (suc n) ≡ Ok (Some (Opens x)) ∷ coming d ws' y) z (open-coming d ws n ws' c m b lv' e mv));
            stands = rw (s.0, s.1) (subst (λ (y : ℕ). Standing h ws' y) z (standing ws' mv));
            fine = λ r f. let g' : Ok (Some (Opens x)) ≡ Err r = sym s.0 ∙ f in let y : ◌≡◌ {A = ℕ} 0 1 = cc in omega arith;
            on = λ f. let g' : Ok (Some (Opens x)) ≡ (Ok None) = sym s.0 ∙ f in let y : ◌≡◌ {A = ℕ} 0 1 = cc in omega arith;
          }

    by_next : {x : Result (Option (Offset × Mark)) Flaw} → next_below (bins_data h) (key_of (bins_data h) (key_at ws (suc n))) (mark_at ws (suc n)) ≡ x
        → NextIs (bins_data h) (leaves_below (bins_data h) (key_of (bins_data h) (key_at ws (suc n)))) (mark_at ws (suc n)) x → Stepped h ws (suc n)
    unfolding children_below
    by_next q (no_more e) = closes e q
    by_next q (one_more c m e i j) =
        let b = some_level top.below (child-stands top.below top.tree c i) in
        opens-child c m b.0 b.1 i j e q

    -- one step's law
    pub step_gives : Stepped h ws (suc n)
    step_gives =
        by_next refl
        (next-stands (bins_data h) (hive_of h) w.formed.tiled (key_at ws (suc n)) (key-stands (suc top.below) top.tree)
        (mark_at ws (suc n)) top.mark)

  -- with no key open
  pub step-over : (ws : List ℕ) → (step_answer h ws 0 ≡ Ok None) × (step_levels h ws 0 ≡ ws)
  step-over ws =
      let a = step-on h ws 0 base in
      let b = in-over (bins_data h) ws 0 refl in
      (a.0 ∙ ap answer_of b, a.1 ∙ ap (levels_after ws 0) b)

  -- ---- the walk

  overs : (x : ℕ) (ws : List ℕ) → steps_from h x ws 0 ≡ replicate x (Ok None)
  unfolding steps_from
  overs zero ws = refl
  overs (suc x) ws = let o = step-over ws in rw (o.0, o.1) (ap (λ (rs : List (Result (Option Walked) Refusal)). (Ok None) ∷ rs) (overs x ws))

  no-coming : (ws : List ℕ) → coming (bins_data h) ws 0 ≡ []
  unfolding coming
  no-coming ws = refl

  steps : (m x : ℕ) (ws : List ℕ) (n : ℕ) → Standing h ws n → length (coming (bins_data h) ws n) ≡ m
      → steps_from h (m + x) ws n ≡ coming (bins_data h) ws n ++ replicate x (Ok None)
  unfolding steps_from
  steps zero x ws zero st e =
      ap (λ (y : ℕ). steps_from h y ws 0) (zero-add x) ∙ overs x ws ∙ ap (λ (rs : List (Result (Option Walked) Refusal)). rs ++ replicate x (Ok None)) (sym (no-coming ws))
  steps zero x ws (suc n) st e = absurd (let a = ap length (step_gives ws n st).gives in omega arith)
  steps (suc m) x ws zero st e = absurd (let a = ap length (no-coming ws) in omega arith)
  steps (suc m) x ws (suc n) st e =
      let s = step_gives ws n st in
      let a = ap length s.gives in
      ap (λ (y : ℕ). steps_from h y ws (suc n)) (suc-add m x)
      ∙ ap (λ (rs : List (Result (Option Walked) Refusal)). step_answer h ws (suc n) ∷ rs)
      (steps m x (step_levels h ws (suc n)) (depth_after (step_answer h ws (suc n)) (suc n)) s.stands (omega arith))
      ∙ ap (λ (rs : List (Result (Option Walked) Refusal)). rs ++ replicate x (Ok None)) (sym s.gives)

  quiet : (m : ℕ) (ws : List ℕ) (n : ℕ) → Standing h ws n → (r : Refusal) → Memᴰ (Err r) (steps_from h m ws n) → ⊥
  unfolding steps_from
  quiet zero ws n st r i = Memᴰ.not-nil i
  quiet (suc m) ws zero st r i =
      let o = step-over ws in
      ⊎_elim (λ e. let y : ◌≡◌ {A = ℕ} 0 1 = cc o.0 in omega arith) (λ j. quiet m ws zero st r (rw (o.0, o.1) at j)) (Memᴰ.cases_cons i)
  quiet (suc m) ws (suc n) st r i =
      let s = step_gives ws n st in
      ⊎_elim (λ e. s.fine r (sym e)) (λ j. quiet m _ _ s.stands r j) (Memᴰ.cases_cons i)

  module _ (ws : List ℕ) (room : 1539 ≤ length ws) where
    abbrev root : Offset
    root = (hive_of h).root

    unfoldable pub begun : List ℕ
    begun = sets ws 0 (root.0 ∷ 0 ∷ 0 ∷ [])

    begins : (begin_answer h ws ≡ Ok (Some (Opens (entry_of root (key_of (bins_data h) root).name)))) × (begin_levels h ws ≡ begun)
    unfolding begun
    begins =
        let a = begin-on h ws base in
        let g = root-on (bins_data h) ws root (whole levels w.formed.tree) (omega arith) in
        (a.0 ∙ rw g, a.1 ∙ rw g)

    pub begun-stands : Standing h begun 1
    unfolding begun
    begun-stands =
        let us = root.0 ∷ 0 ∷ 0 ∷ [] in
        let l = length-sets ws 0 us in
        record {
          words = omega arith;
          each = λ i p. let z : 0 ≡ i = omega arith in
              subst (λ (u : ℕ). Open h (sets ws 0 us) u) z
              (first-open (sets ws 0 us) 0 512 root (set_at us ws 0 0 (place 0) (omega arith) (omega arith) (omega arith))
              (set_at us ws 0 1 (place 0 + 1) (omega arith) (omega arith) (omega arith))
              (set_at us ws 0 2 (place 0 + 2) (omega arith) (omega arith) (omega arith)) (omega arith) w.formed.tree);
        }

    pub begun-coming : events_of h ≡ Ok (Some (Opens (entry_of root (key_of (bins_data h) root).name))) ∷ coming (bins_data h) begun 1
    unfolding events_in coming children_below begun
    begun-coming =
        let us = root.0 ∷ 0 ∷ 0 ∷ [] in
        rw (
          set_at us ws 0 0 (place 0) (omega arith) (omega arith) (omega arith),
          set_at us ws 0 1 (place 0 + 1) (omega arith) (omega arith) (omega arith),
          set_at us ws 0 2 (place 0 + 2) (omega arith) (omega arith) (omega arith),
        )

    -- "begin and then steps give exactly `events_of h` [..]; then Over"
    pub events : (x : ℕ) → walk_of h (length (events_of h) + x) ws ≡ events_of h ++ replicate x (Ok None)
    unfolding walk_of
    events x =
        let b = begins in
        let e = Ok (Some (Opens (entry_of root (key_of (bins_data h) root).name))) in
        let m = length (coming (bins_data h) begun 1) in
        ap (λ (y : ℕ). walk_of h y ws) (ap (λ (rs : List (Result (Option Walked) Refusal)). length rs + x) begun-coming ∙ suc-add m x)
        ∙ rw (b.0, b.1) (ap (λ (rs : List (Result (Option Walked) Refusal)). e ∷ rs) (steps m x begun 1 begun-stands refl))
        ∙ ap (λ (rs : List (Result (Option Walked) Refusal)). rs ++ replicate x (Ok None)) (sym begun-coming)

    -- "and never a refusal"
    pub never-refused : (m : ℕ) (r : Refusal) → Memᴰ (Err r) (walk_of h m ws) → ⊥
    unfolding walk_of
    never-refused zero r i = Memᴰ.not-nil i
    never-refused (suc m) r i =
        let b = begins in
        ⊎_elim (λ e. let y : ◌≡◌ {A = ℕ} 0 1 = cc b.0 in omega arith)
        (λ j. quiet m begun 1 begun-stands r (rw (b.0, b.1) at j)) (Memᴰ.cases_cons i)
