-- Every refusal of a walk says why, and leaves the words.
use Prim.Native.Nat.{ℕ, ◌+◌, ◌*◌, ◌<◌}
use native.Mathlib.Omega.{arith}
use mathlib.Core.Path.{◌≡◌, refl, sym, ap, subst}
use mathlib.Core.Bool.{Bool, true, false, cond}
use mathlib.Core.List.{List, [], Memᴰ}
use lib.Dec.{eqb, leb, ltb}
use lib.ListN.{length, get_or}
use borrow.Author.Tests.{eqb-false, leb-false, ltb-false}
use Rattle.fields.specs.declared.Fault.TheVariants.{Level, OutputShort}
use Rattle.fields.specs.declared.Flaw.{Flaw}
use Rattle.fields.specs.declared.Offset.{Offset}
use Rattle.fields.specs.declared.Refusal.{Refusal}
use Rattle.fields.specs.Faults.{flaw, unless, nowhere, no_key, refusal_of, Because, Keyless, Verdict}
use Rattle.fields.proofs.Every.{Every, every-unless, every-next}
use Rattle.base.specs.Block.{bins_data, base_fault}
use Rattle.base.proofs.Refusals.{base-refuses}
use Rattle.cells.specs.Rule.{Header}
use Rattle.cells.specs.Named.{data_at}
use Rattle.cells.proofs.Refusals.{Ruled, by-header}
use Rattle.records.specs.declared.Child.{Child}
use Rattle.records.specs.Keys.{key_fault, key_of}
use Rattle.records.specs.Lists.{leaf_fault, head_fault, leaf_children, leaves_of, children}
use Rattle.records.specs.Terms.{no_child}
use Rattle.records.proofs.Elements.{at_in}
use Rattle.values.specs.Refused.{a_key, Fit, one_of, its-list, its-leaf, its-child}
use Rattle.values.proofs.Refusals.{key-fit, key-unfit, list-fit, list-unfit, leaf-unfit}
use Rattle.tree.specs.Tree.{levels, hive_of}
use Rattle.search.proofs.Refusals.{in-leaves, in-children}
use Rattle.listing.specs.declared.Entry.{Entry}
use Rattle.listing.specs.Members.{entry_of}
use Rattle.walk.specs.declared.Offer.TheVariants as ahead
use Rattle.walk.specs.declared.Mark.{Mark}
use Rattle.walk.specs.Answers.{key_at, mark_at, next_where, next_of, next_in, next_below, step_where, step_on, room_fault, entering, opening, step_at, step_in, step_of, answer_of, levels_after, step_answer, step_levels, root_fault, begin_fault, begun_where, begun_levels, begin_answer, begin_levels}
use Rattle.walk.specs.Refused.{OfBegin, begin-base, of-root, no_start, OfStep, of-base, no_words, of-key, of-named, too-deep, no_room}
use Rattle.std.specs.Prelude.{Err, None, Ok, Option, Result, Some}
use Rattle.walk.specs.declared.Offer.{Offer}

-- ---- a refusal leaves the words

stays-so : (s : Result (Option Offer) Refusal) (ws : List ℕ) (n : ℕ) {r : Refusal} → answer_of s ≡ Err r → levels_after ws n s ≡ ws
stays-so (Ok (Some (ahead.Closes k))) ws n e = refl
stays-so (Ok None) ws n e = refl
stays-so (Err x) ws n e = refl
stays-so (Ok (Some (ahead.Opens x m))) ws n e = absurd (let z : ◌≡◌ {A = ℕ} 0 1 = cc in omega arith)

pub step_stays : (h ws : List ℕ) (n : ℕ) {r : Refusal} → step_answer h ws n ≡ Err r → step_levels h ws n ≡ ws
unfolding step_answer step_levels
step_stays h ws n e = stays-so (step_of h ws n) ws n e

begun-stays : (v : Verdict) (ws : List ℕ) (root : Offset) (x : Entry) {r : Refusal} → begun_where v x ≡ Err r → begun_levels ws root v ≡ ws
begun-stays (Ok tt) ws root x e = absurd (let z : ◌≡◌ {A = ℕ} 0 1 = cc in omega arith)
begun-stays (Err f) ws root x e = refl

pub begin-stays : (h ws : List ℕ) {r : Refusal} → begin_answer h ws ≡ Err r → begin_levels h ws ≡ ws
unfolding begin_answer begin_levels
begin-stays h ws e = begun-stays (begin_fault h ws) ws (hive_of h).root _ e

-- ---- what comes next: a fault has a reason, and a child is one of the key's

record Tells (P : Flaw → Type 0) (Q : Offset → Type 0) (x : Result (Option (Offset × Mark)) Flaw) : Type 0 where
  bad : (f : Flaw) → x ≡ Err f → P f
  child : (c : Offset) (m : Mark) → x ≡ Ok (Some (c, m)) → Q c

module _ (P : Flaw → Type 0) (Q : Offset → Type 0) where
  tells-end : Tells P Q (Ok None)
  tells-end =
      record {
        bad = λ f e. absurd (let z : ◌≡◌ {A = ℕ} 0 1 = cc in omega arith);
        child = λ c m e. absurd (let z : ◌≡◌ {A = ℕ} 0 1 = cc in omega arith);
      }

  tells-comes : (c : Offset) (m : Mark) → Q c → Tells P Q (Ok (Some (c, m)))
  tells-comes c m q =
      record {
        bad = λ f e. absurd (let z : ◌≡◌ {A = ℕ} 0 1 = cc in omega arith);
        child = λ o m' e. let p : (c, m) ≡ (o, m') = cc in let z = ap (λ (x : Offset × Mark). x.0) p in subst Q z q;
      }

  tells-cond : (t : Bool) (x y : Result (Option (Offset × Mark)) Flaw) → (t ≡ true → Tells P Q x) → (t ≡ false → Tells P Q y) → Tells P Q (cond t x y)
  tells-cond true x y p q = p refl
  tells-cond false x y p q = q refl

  tells-where : (v : Verdict) (x : Result (Option (Offset × Mark)) Flaw) → Every P v → (v ≡ Ok tt → Tells P Q x) → Tells P Q (next_where v x)
  tells-where (Ok tt) x p q = q refl
  tells-where (Err g) x p q =
      record {
        bad = λ f e. p f (let z : g ≡ f = cc in ap Err z);
        child = λ c m e. absurd (let z : ◌≡◌ {A = ℕ} 0 1 = cc in omega arith);
      }

-- ---- a step

module _ (h ws : List ℕ) (n : ℕ) where
  abbrev d : List ℕ
  d = bins_data h

  abbrev k : Offset
  k = key_at ws n

  ruled : Ruled Header d []
  ruled = by-header d []

  -- one of the key's children
  abbrev Below : Offset → Type 0
  Below o = (c : Child) × Memᴰ c (children d k) × (o ≡ c.at)

  module _ (fit : Fit Header d a_key k) where
    leaf-tells : (z : eqb (key_of d k).subkeys 0 ≡ false) (s : head_fault Header d [] (key_of d k).list ≡ Ok tt) (m : Mark)
        → Tells (OfStep h ws n k) Below (next_in d (leaves_of d (key_of d k).list) m)
    unfolding next_in next_of
    leaf-tells z s m =
        let ls = leaves_of d (key_of d k).list in
        let l = get_or ls m.leaf nowhere in
        let cs = leaf_children (data_at d l) in
        tells-cond (OfStep h ws n k) Below (leb (length ls) m.leaf) (Ok None) _ (λ t. tells-end (OfStep h ws n k) Below) (λ t.
        let i = at_in ls m.leaf nowhere (leb-false _ _ t) in
        tells-where (OfStep h ws n k) Below (leaf_fault Header d [] l) _
        (λ f e. of-named fit (one_of (its-leaf (eqb-false _ _ z) (list-fit Header d [] ruled (key_of d k).list s) i) (leaf-unfit Header d [] ruled l f e)))
        (λ g. tells-cond (OfStep h ws n k) Below (leb (length cs) m.element) (Ok None) _ (λ u. tells-end (OfStep h ws n k) Below) (λ u.
        tells-comes (OfStep h ws n k) Below (get_or cs m.element no_child).at _
        (get_or cs m.element no_child, in-children d k z (in-leaves d ls i (at_in cs m.element no_child (leb-false _ _ u))), refl))))

    next-tells : (m : Mark) → Tells (OfStep h ws n k) Below (next_below d (key_of d k) m)
    unfolding next_below
    next-tells m =
        tells-cond (OfStep h ws n k) Below (eqb (key_of d k).subkeys 0) (Ok None) _ (λ z. tells-end (OfStep h ws n k) Below) (λ z.
        tells-where (OfStep h ws n k) Below (head_fault Header d [] (key_of d k).list) _
        (λ f e. of-named fit (one_of (its-list (eqb-false _ _ z)) (list-unfit Header d [] ruled (key_of d k).list f e)))
        (λ s. leaf-tells z s m))

  -- all refusals of a step
  abbrev pub Why : Result (Option Offer) Refusal → Type 0
  Why s = (r : Refusal) → answer_of s ≡ Err r → Because (OfStep h ws n) r

  why-where : (o : Offset) (v : Verdict) (s : Result (Option Offer) Refusal) → Every (OfStep h ws n o) v → (v ≡ Ok tt → Why s) → Why (step_where o v s)
  why-where o (Ok tt) s p q = q refl
  why-where o (Err g) s p q = λ r e. (o, g, let z : refusal_of o g ≡ r = cc in sym z, p g refl)

  why-opens : (e : Entry) (m : Mark) → Why (Ok (Some (ahead.Opens e m)))
  why-opens e m r q = absurd (let z : ◌≡◌ {A = ℕ} 0 1 = cc in omega arith)

  short : (i : ℕ) (P : Flaw → Type 0) → (length ws < 3 * i → P (flaw OutputShort nowhere)) → Every P (room_fault ws i)
  unfolding room_fault
  short i P p = every-unless P (leb (3 * i) (length ws)) (flaw OutputShort nowhere) (λ t. p (leb-false _ _ t))

  enter-why : (c : Child) → Memᴰ c (children d k) → (x : Entry) → x.at ≡ c.at → (m : Mark) → Why (entering ws n k x m)
  unfolding entering
  enter-why c i x at m =
      why-where x.at (unless (ltb n levels) (flaw Level x.at)) _
      (every-unless (OfStep h ws n x.at) (ltb n levels) (flaw Level x.at) (λ t. rw at (too-deep i (ltb-false _ _ t))))
      (λ s. why-where k (room_fault ws (n + 1)) _ (short (n + 1) (OfStep h ws n k) (λ p. no_room p)) (λ s'. why-opens x m))

  open-why : Fit Header d a_key k → (o : Offset) → Below o → (m : Mark) → Why (opening d ws n k o m)
  unfolding opening entry_of
  open-why fit o below m =
      why-where k (key_fault Header d [] o) _
      (λ f e. of-named fit (one_of (rw below.2 (its-child below.1)) (key-unfit Header d [] ruled o f e)))
      (λ s. enter-why below.0 below.1 (entry_of o (key_of d o).name) below.2 m)

  on-why : Fit Header d a_key k → (x : Result (Option (Offset × Mark)) Flaw) → Tells (OfStep h ws n k) Below x → Why (step_on k x (opening d ws n k))
  on-why fit (Ok (Some (c, m))) t = open-why fit c (t.child c m refl) m
  on-why fit (Ok None) t = λ r e. absurd (let z : ◌≡◌ {A = ℕ} 0 1 = cc in omega arith)
  on-why fit (Err g) t = λ r e. (k, g, let z : refusal_of k g ≡ r = cc in sym z, t.bad g refl)

  at-why : Why (step_at d ws n)
  unfolding step_at
  at-why =
      why-where no_key (key_fault Header d [] k) _ (λ f e. of-key (key-unfit Header d [] ruled k f e))
      (λ s. let fit = key-fit Header d [] ruled k s in on-why fit (next_below d (key_of d k) (mark_at ws n)) (next-tells fit (mark_at ws n)))

  pub in-why : Why (step_in d ws n)
  unfolding step_in
  in-why = by (eqb n 0)
    where
      by : (t : Bool) → Why (cond t (Ok None) (step_where no_key (room_fault ws n) (step_at d ws n)))
      by true = λ r e. absurd (let z : ◌≡◌ {A = ℕ} 0 1 = cc in omega arith)
      by false = why-where no_key (room_fault ws n) (step_at d ws n) (short n (OfStep h ws n no_key) (λ p. no_words p)) (λ s. at-why)

  pub step-refuses : {r : Refusal} → step_answer h ws n ≡ Err r → Because (OfStep h ws n) r
  unfolding step_answer step_of
  step-refuses {r} = why-where no_key (base_fault h) (step_in d ws n) (λ f e. of-base (base-refuses h f e)) (λ s. in-why) r

-- ---- the start

begun-refuses : (P : Flaw → Type 0) (v : Verdict) (x : Entry) → Every P v → {r : Refusal} → begun_where v x ≡ Err r → Keyless P r
begun-refuses P (Ok tt) x p e = absurd (let z : ◌≡◌ {A = ℕ} 0 1 = cc in omega arith)
begun-refuses P (Err g) x p {r} e = (g, let z : refusal_of no_key g ≡ r = cc in sym z, p g refl)

pub begin-refuses : (h ws : List ℕ) {r : Refusal} → begin_answer h ws ≡ Err r → Keyless (OfBegin h ws) r
unfolding begin_answer begin_fault root_fault room_fault
begin-refuses h ws e =
    let P = OfBegin h ws in
    let root = (hive_of h).root in
    begun-refuses P (begin_fault h ws) _
    (every-next P (base_fault h) _ (λ f q. begin-base (base-refuses h f q))
    (λ s. every-next P (key_fault Header (bins_data h) [] root) _ (λ f q. of-root (key-unfit Header (bins_data h) [] (by-header (bins_data h) []) root f q))
    (λ s'. every-unless P (leb 3 (length ws)) (flaw OutputShort nowhere) (λ t. no_start (leb-false _ _ t)))))
    e
