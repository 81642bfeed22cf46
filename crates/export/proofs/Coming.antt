-- In an accepted hive the frame that is due is the first of those still to come, and the move behind it leaves the others.
use Prim.Native.Nat.{ℕ, zero, suc, ◌+◌, ◌-◌, ◌*◌, ◌≤◌, ◌<◌}
use native.Mathlib.Omega.{arith}
use mathlib.Core.Path.{◌≡◌, refl, sym, ap, ap₂, ◌∙◌, subst}
use mathlib.Core.Bool.{Bool, true, false}
use mathlib.Core.List.{List, [], ◌∷◌, ◌++◌, append_assoc}
use lib.Dec.{eqb, leb}
use lib.ListN.{length, get_or, drop, length-take, length-drop}
use lib.Seq.{sets, length-sets, drop-cons}
use borrow.Author.Tests.{eqb-true, eqb-false, eq-eqb, leb-true, leb-false}
use Rattle.fields.specs.declared.Offset.{Offset}
use Rattle.fields.specs.Faults.{nowhere}
use Rattle.fields.proofs.Firsts.{sound}
use Rattle.fields.proofs.Loops.{drop_all}
use Rattle.base.specs.Block.{bins_limit, bins_data, base_fault}
use Rattle.base.proofs.Laws.{facts-base, base-facts}
use Rattle.cells.specs.Rule.{Header}
use Rattle.cells.proofs.Parts.{data-short}
use Rattle.records.specs.declared.Child.{Child}
use Rattle.records.specs.Keys.{key_fault, key_of}
use Rattle.records.specs.Lists.{children}
use Rattle.records.proofs.Elements.{at_in}
use Rattle.values.specs.Records.{value_of}
use Rattle.values.specs.Lists.{values_of, value_list_fault}
use Rattle.tree.specs.Tree.{hive_of, levels}
use Rattle.tree.specs.WellFormed.{KeyStands, TreeStands, key, CleanAndWellFormed}
use Rattle.search.proofs.Finds.{key-good}
use Rattle.lookup.proofs.ValueFinds.{list-good, each-good}
use Rattle.listing.specs.declared.Entry.{Entry}
use Rattle.listing.specs.Members.{entry_of}
use Rattle.walk.specs.declared.Mark.{Mark}
use Rattle.walk.specs.declared.Offer.TheVariants as ahead
use Rattle.walk.specs.declared.Walked.TheVariants as walked
use Rattle.walk.specs.Answers.{key_at, step_in, answer_of, levels_after, step_answer, step_levels}
use Rattle.walk.specs.Events.{events_over, events_in, coming, depth_after}
use Rattle.walk.proofs.Lists.{Open, Standing, Stepped, step_gives, set_at, begun, begun-coming}
use Rattle.walk.proofs.Moves.{moves-below}
use Rattle.walk.proofs.Ways.{step-on}
use Rattle.stream.proofs.Whole.{values-many, own-many}
use Rattle.stream.specs.Stream.{Framed, holds, opens, closes, value_frames, own_frames, frames_over, frames_in, frames_of}
use Rattle.export.specs.declared.Cursor.{Cursor}
use Rattle.export.specs.declared.Frame.{Frame}
use Rattle.export.specs.declared.What.TheVariants as what
use Rattle.export.specs.Due.{bytes_due, framed_due, value_due, past, walk_due, top_due, due_at, words_behind, depth_behind}
use Rattle.export.specs.Answers.{no_frame}
use Rattle.export.specs.Coming.{filled, coming_frames}
use Rattle.export.proofs.Ways.{frame_of, due-on, value-is, walk_is}
use Rattle.fields.specs.declared.Refusal.{Refusal}
use Rattle.std.specs.Prelude.{Err, None, Ok, Option, Result, Some}
use Rattle.walk.specs.declared.Offer.{Offer}
use Rattle.walk.specs.declared.Walked.{Walked}

-- ---- the walk's events with the values put in

module _ (d : List ℕ) (minor : ℕ) where
  filled-append : (xs ys : List (Result (Option Walked) Refusal)) → filled d minor (xs ++ ys) ≡ filled d minor xs ++ filled d minor ys
  unfolding filled
  filled-append [] ys = refl
  filled-append (Ok (Some (walked.Opens e)) ∷ xs) ys =
      ap (λ (r : List Framed). own_frames d minor e.at ++ r) (filled-append xs ys)
      ∙ sym (append_assoc (own_frames d minor e.at) (filled d minor xs) (filled d minor ys))
  filled-append (Ok (Some (walked.Closes k)) ∷ xs) ys = ap (λ (r : List Framed). closes k ∷ r) (filled-append xs ys)
  filled-append ((Ok None) ∷ xs) ys = filled-append xs ys
  filled-append (Err r ∷ xs) ys = filled-append xs ys

  filled-over : (f : Offset → List (Result (Option Walked) Refusal)) (g : Offset → List Framed) → ((o : Offset) → filled d minor (f o) ≡ g o) → (cs : List Child)
      → filled d minor (events_over f cs) ≡ frames_over g cs
  unfolding events_over frames_over filled
  filled-over f g e [] = refl
  filled-over f g e (c ∷ cs) =
      filled-append (f c.at) (events_over f cs) ∙ ap₂ (λ (x y : List Framed). x ++ y) (e c.at) (filled-over f g e cs)

  -- "`frames_in` is the walk's events with the values put in"
  pub filled_in : (n : ℕ) (k : Offset) → filled d minor (events_in d n k) ≡ frames_in d minor n k
  unfolding events_in frames_in filled entry_of
  filled_in zero k = refl
  filled_in (suc n) k =
      let xs = events_over (events_in d n) (children d k) in
      ap (λ (r : List Framed). own_frames d minor k ++ r)
      (filled-append xs (Ok (Some (walked.Closes k)) ∷ [])
      ∙ ap (λ (r : List Framed). r ++ (closes k ∷ [])) (filled-over (events_in d n) (frames_in d minor n) (filled_in n) (children d k)))

-- ---- a key's own frames

module _ (d : List ℕ) (minor : ℕ) (k : Offset) where
  value-at : (vs : List Offset) (i : ℕ) → i < length vs → get_or (value_frames d minor k vs) i no_frame ≡ holds d minor k (get_or vs i nowhere)
  unfolding value_frames
  value-at [] i p = absurd (omega arith)
  value-at (v ∷ vs) zero p = refl
  value-at (v ∷ vs) (suc i) p = value-at vs i (omega arith)

  own_at : (i : ℕ) → i < (key_of d k).values → get_or (own_frames d minor k) (suc i) no_frame ≡ holds d minor k (get_or (values_of d (key_of d k)) i nowhere)
  unfolding own_frames
  own_at i p = let m = values-many d minor k in value-at (values_of d (key_of d k)) i (omega arith)

  -- all of it from 0 on, and nothing of it behind its last
  pub own_first : own_frames d minor k ≡ opens d k ∷ drop 1 (own_frames d minor k)
  unfolding own_frames
  own_first = refl

  own-next : (i : ℕ) → i < (key_of d k).values
      → drop (suc i) (own_frames d minor k) ≡ holds d minor k (get_or (values_of d (key_of d k)) i nowhere) ∷ drop (suc (suc i)) (own_frames d minor k)
  own-next i p =
      let m = own-many d minor k in
      drop-cons (own_frames d minor k) (suc i) no_frame (omega arith)
      ∙ ap (λ (x : Framed). x ∷ drop (suc (suc i)) (own_frames d minor k)) (own_at i p)

  pub own-none : (n : ℕ) → (key_of d k).values < n → drop n (own_frames d minor k) ≡ []
  own-none n p = let m = own-many d minor k in drop_all (own_frames d minor k) n (omega arith)

-- ---- one frame

module _ (h : List ℕ) (w : CleanAndWellFormed h) where
  abbrev d : List ℕ
  d = bins_data h

  abbrev minor : ℕ
  minor = (hive_of h).minor

  base : base_fault h ≡ Ok tt
  base = facts-base h w.is-clean w.inside

  small : length d ≤ bins_limit
  small = let b = base-facts h base in simp (length-take, length-drop) (omega (arith, b.size.limit))

  stands : (n : ℕ) (o : Offset) → TreeStands d (hive_of h) (suc n) o → KeyStands d minor o
  stands n o (key s a ch tree) = s

  few : (o : Offset) → KeyStands d minor o → (key_of d o).values < past
  few o s = by (eqb (key_of d o).values 0) refl
    where
      by : (t : Bool) → eqb (key_of d o).values 0 ≡ t → (key_of d o).values < past
      by true e = let z = eqb-true (key_of d o).values 0 e in omega arith
      by false e =
          let r = s.values.list (eqb-false (key_of d o).values 0 e) in
          let l = data-short d (key_of d o).value_list in
          omega (arith, r.room, small)

  -- what is due, what it leaves, and where the walk then stands
  pub record Gives (ws : List ℕ) (n due : ℕ) : Type 0 where
    pub frame : Frame
    pub is : due_at d minor ws (record { depth = n; due = due }) ≡ Ok (Some frame)
    pub gives : coming_frames d minor ws n due
        ≡ framed_due d frame ∷ coming_frames d minor (words_behind ws n frame.what) (depth_behind n frame.what) frame.due
    pub standing : Standing h (words_behind ws n frame.what) (depth_behind n frame.what)

  module _ (ws : List ℕ) (n due : ℕ) (st : Standing h ws (suc n)) where
    abbrev k : Offset
    k = key_at ws (suc n)

    abbrev c : Cursor
    c = record { depth = suc n; due = due }

    top : Open h ws n
    top = st.each n (omega arith)

    tested : key_fault Header d [] k ≡ Ok tt
    tested = key-good d (hive_of h) w.formed.tiled (suc top.below) k top.tree

    key-stands : KeyStands d minor k
    key-stands = stands top.below k top.tree

    of-top : due_at d minor ws c ≡ top_due d minor ws c k
    of-top = due-on d minor ws c (λ z. omega arith) k refl tested

    -- the top key's own frame
    gives-own : due ≡ 0 → Gives ws (suc n) due
    unfolding coming_frames top_due
    gives-own z =
        record {
          frame = frame_of what.Own k (length (bytes_due d k what.Own)) 1;
          is = of-top ∙ rw (eq-eqb due 0 z);
          gives = rw z (ap (λ (r : List Framed). r ++ filled d minor (coming d ws (suc n))) (own_first d minor k));
          standing = st;
        }

    -- one of its values
    gives-value : (i : ℕ) → due ≡ suc i → i < (key_of d k).values → Gives ws (suc n) due
    unfolding coming_frames value_due
    gives-value i z p =
        let v = get_or (values_of d (key_of d k)) i nowhere in
        let m = values-many d minor k in
        let j = at_in (values_of d (key_of d k)) i nowhere (omega arith) in
        let s = sound (value_list_fault Header d [] (key_of d k)) _ (list-good d w.formed.tiled minor (key_of d k) key-stands.values)
        (each-good d w.formed.tiled minor (key_of d k) key-stands.values v j) in
        let x : due - 1 ≡ i = omega arith in
        let y : suc (suc i) ≡ i + 2 = omega arith in
        record {
          frame = frame_of (what.Value (value_of d minor v)) k (length (bytes_due d k (what.Value (value_of d minor v)))) (i + 2);
          is =
              of-top ∙ value-is d minor ws c k (key_of d k) refl (λ e. omega arith) (omega arith)
              ∙ ap (value_due d minor k) x ∙ rw s;
          gives =
              rw z (ap (λ (r : List Framed). r ++ filled d minor (coming d ws (suc n)))
              (own-next d minor k i p ∙ ap (λ (q : ℕ). holds d minor k v ∷ drop q (own_frames d minor k)) y));
          standing = st;
        }

    -- what the walk does next
    module _ (p : (key_of d k).values < due) where
      s : Stepped h ws (suc n)
      s = step_gives h w ws n st

      nothing : coming_frames d minor ws (suc n) due ≡ filled d minor (coming d ws (suc n))
      unfolding coming_frames
      nothing = ap (λ (r : List Framed). r ++ filled d minor (coming d ws (suc n))) (own-none d minor k due p)

      by-walk : due_at d minor ws c ≡ walk_due d (step_in d ws (suc n))
      by-walk = of-top ∙ walk_is d minor ws c k (key_of d k) refl (λ e. omega arith) p

      module _ {x : Result (Option Offer) Refusal} (q : step_in d ws (suc n) ≡ x) where
        answers : step_answer h ws (suc n) ≡ answer_of x
        answers = (step-on h ws (suc n) base).0 ∙ ap answer_of q

        moves : step_levels h ws (suc n) ≡ levels_after ws (suc n) x
        moves = (step-on h ws (suc n) base).1 ∙ ap (levels_after ws (suc n)) q

        events : coming d ws (suc n) ≡ answer_of x ∷ coming d (levels_after ws (suc n) x) (depth_after (answer_of x) (suc n))
        events = s.gives ∙ rw (answers, moves)

        after : Standing h (levels_after ws (suc n) x) (depth_after (answer_of x) (suc n))
        after = let a = s.stands in subst (λ (u : Result (Option Walked) Refusal). Standing h (levels_after ws (suc n) x) (depth_after u (suc n))) answers (subst (λ (u : List ℕ). Standing h u (depth_after (step_answer h ws (suc n)) (suc n))) moves a)

      gives-opens : {e : Entry} {m : Mark} → step_in d ws (suc n) ≡ Ok (Some (ahead.Opens e m)) → Gives ws (suc n) due
      unfolding coming_frames filled
      gives-opens {e} {m} q =
          let b = moves-below d ws (suc n) q in
          let ws' = levels_after ws (suc n) (Ok (Some (ahead.Opens e m))) in
          let us = e.at.0 ∷ 0 ∷ 0 ∷ [] in
          let l = length-sets ws (3 * (suc n - 1) + 1) (m.leaf ∷ m.element ∷ []) in
          let o : get_or ws' (3 * (suc (suc n) - 1)) 0 ≡ e.at.0 = set_at us (sets ws (3 * (suc n - 1) + 1) (m.leaf ∷ m.element ∷ [])) (3 * suc n) 0 (3 * (suc (suc n) - 1)) (omega arith) (omega arith) (omega (arith, b.room)) in
          let z : suc n + 1 ≡ suc (suc n) = omega arith in
          let e₁ = events q in
          record {
            frame = frame_of (what.Child e m) e.at (length (bytes_due d e.at (what.Child e m))) 1;
            is = by-walk ∙ ap (walk_due d) q;
            gives =
                nothing ∙ ap (filled d minor) e₁
                ∙ rw z
                (ap (λ (r : List Framed). r ++ filled d minor (coming d ws' (suc (suc n)))) (own_first d minor e.at)
                ∙ sym (ap (λ (i : ℕ). opens d e.at ∷ (drop 1 (own_frames d minor (record { 0 = i })) ++ filled d minor (coming d ws' (suc (suc n))))) o));
            standing = after q;
          }

      gives-closes : {x : Offset} → step_in d ws (suc n) ≡ Ok (Some (ahead.Closes x)) → Gives ws (suc n) due
      unfolding filled coming_frames coming
      gives-closes {x} q =
          let z : suc n - 1 ≡ n = omega arith in
          let e₁ = events q in
          record {
            frame = frame_of what.Closing x (length (bytes_due d x what.Closing)) past;
            is = by-walk ∙ ap (walk_due d) q;
            gives =
                nothing ∙ ap (filled d minor) e₁
                ∙ ap (λ (r : List Framed). closes x ∷ r)
                (ap (λ (i : ℕ). filled d minor (coming d ws i)) z ∙ sym (left n refl) ∙ ap (λ (i : ℕ). coming_frames d minor ws i past) (sym z));
            standing = after q;
          }
        where
          left : (i : ℕ) → i ≡ n → coming_frames d minor ws i past ≡ filled d minor (coming d ws i)
          left zero e = refl
          left (suc i) e =
              let u = st.each i (omega arith) in
              ap (λ (r : List Framed). r ++ filled d minor (coming d ws (suc i)))
              (own-none d minor (key_at ws (suc i)) past (few (key_at ws (suc i)) (stands u.below (key_at ws (suc i)) u.tree)))

      by-offer : (x : Result (Option Offer) Refusal) → step_in d ws (suc n) ≡ x → Gives ws (suc n) due
      by-offer (Ok (Some (ahead.Opens e m))) q = gives-opens q
      by-offer (Ok (Some (ahead.Closes x))) q = gives-closes q
      by-offer (Ok None) q = absurd (s.on (answers q))
      by-offer (Err r) q = absurd (s.fine r (answers q))

    pub one-frame : Gives ws (suc n) due
    one-frame = by due refl
      where
        by : (i : ℕ) → due ≡ i → Gives ws (suc n) due
        by zero e = gives-own e
        by (suc i) e = test (leb (suc i) (key_of d k).values) refl
          where
            test : (t : Bool) → leb (suc i) (key_of d k).values ≡ t → Gives ws (suc n) due
            test true q = let r = leb-true (suc i) (key_of d k).values q in gives-value i e (omega arith)
            test false q =
                let r = leb-false (suc i) (key_of d k).values q in
                let g : (key_of d k).values < due = omega arith in
                by-offer g (step_in d ws (suc n)) refl

  -- from the start on all frames come
  module _ (ws : List ℕ) (room : 1539 ≤ length ws) where
    pub all-coming : coming_frames d minor (begun h w ws room) 1 0 ≡ frames_of h
    unfolding coming_frames filled begun entry_of
    all-coming =
        let root = (hive_of h).root in
        let o : get_or (sets ws 0 (root.0 ∷ 0 ∷ 0 ∷ [])) (3 * (1 - 1)) 0 ≡ root.0 =
        set_at (root.0 ∷ 0 ∷ 0 ∷ []) ws 0 0 (3 * (1 - 1)) (omega arith) (omega arith) (omega arith) in
        ap (λ (i : ℕ). own_frames d minor (record { 0 = i }) ++ filled d minor (coming d (sets ws 0 (root.0 ∷ 0 ∷ 0 ∷ [])) 1)) o
        ∙ sym (sym (filled_in d minor levels root) ∙ ap (filled d minor) (begun-coming h w ws room))
