-- Every refusal of an export says why, and leaves what was lent.
use Prim.Native.Nat.{ℕ, zero, suc, ◌-◌, ◌*◌, ◌<◌}
use native.Mathlib.Omega.{arith}
use mathlib.Core.Path.{◌≡◌, refl, sym, ap, ◌∙◌}
use mathlib.Core.Bool.{Bool, true, false, cond, ◌&&◌}
use mathlib.Core.List.{List, [], ◌∷◌}
use lib.Dec.{eqb, leb}
use lib.ListN.{length, get_or}
use borrow.Author.Tests.{eqb-false, leb-true, leb-false}
use Rattle.fields.specs.declared.Fault.TheVariants.{OutputShort}
use Rattle.fields.specs.declared.Flaw.{Flaw}
use Rattle.fields.specs.declared.Offset.{Offset}
use Rattle.fields.specs.declared.Refusal.{Refusal}
use Rattle.fields.specs.Faults.{flaw, nowhere, no_key, refusal_of, Because, Verdict}
use Rattle.fields.proofs.Every.{Every, every-unless, every-next}
use Rattle.fields.proofs.Firsts.{stop}
use Rattle.base.specs.Block.{bins_data, base_fault}
use Rattle.base.proofs.Refusals.{base-refuses}
use Rattle.cells.specs.Rule.{Header}
use Rattle.cells.proofs.Refusals.{Ruled, by-header}
use Rattle.records.specs.Keys.{key_fault, key_of}
use Rattle.records.proofs.Elements.{at_in}
use Rattle.values.specs.Records.{value_fault, data_in}
use Rattle.values.specs.Lists.{values_of, value_list_fault, whole_value_fault}
use Rattle.values.specs.Refused.{one_of}
use Rattle.values.proofs.Refusals.{key-fit, key-unfit, value-fit, value-unfit, value-list-unfit, value-named, data-unfit}
use Rattle.tree.specs.Tree.{hive_of, check_answer}
use Rattle.tree.proofs.Tells.{check-tells}
use Rattle.walk.specs.declared.Offer.TheVariants as ahead
use Rattle.walk.specs.Answers.{key_at, step_in, answer_of}
use Rattle.walk.proofs.Refusals.{in-why}
use Rattle.stream.specs.Stream.{Framed, frames_of}
use Rattle.stream.proofs.Whole.{values-many, joined-none}
use Rattle.export.specs.declared.Cursor.{Cursor}
use Rattle.export.specs.declared.Frame.{Frame}
use Rattle.export.specs.declared.What.TheVariants as what
use Rattle.export.specs.Due.{words, run_fault, comes, due_where, value_due, walk_due, top_due, due_at}
use Rattle.export.specs.Answers.{short, no_frame, step_from, step_answer, out_after, step_out, begin_answer, levels_begun, begin_levels, ran_of, Packed, none, packed, run_packed, run_answer, run_out, run_levels}
use Rattle.export.specs.Refused.{OfFrame, OfBegun, OfRun, of-base, no_words, of-key, of_values, of-data, of-walk}
use Rattle.export.specs.Refused as why
use Rattle.export.proofs.Ways.{due-lies}
use Rattle.export.proofs.Turns.{some_bytes, packed_more}
use Rattle.std.specs.Prelude.{Err, None, Ok, Option, Result, Some}
use Rattle.tree.specs.declared.Report.{Report}
use Rattle.walk.specs.declared.Offer.{Offer}

-- ---- a step

module _ (h m : List ℕ) where
  frame-from : (fs : List Framed) (n room : ℕ) (r : Refusal) → step_from fs n room ≡ Err r
      → (n < length fs) × (room < length (get_or fs n no_frame).bytes) × (short (get_or fs n no_frame).key ≡ r)
  unfolding step_from
  frame-from fs n room r e = by (leb (length fs) n) refl (leb (length (get_or fs n no_frame).bytes) room) refl
    where
      f : Framed
      f = get_or fs n no_frame

      by : (t : Bool) → leb (length fs) n ≡ t → (u : Bool) → leb (length f.bytes) room ≡ u
          → (n < length fs) × (room < length f.bytes) × (short f.key ≡ r)
      by true p u q = absurd (let y = rw p at e in let z : ◌≡◌ {A = ℕ} 0 1 = cc in omega arith)
      by false p true q = absurd (let y = rw (p, q) at e in let z : ◌≡◌ {A = ℕ} 0 1 = cc in omega arith)
      by false p false q = let y : Err (short f.key) ≡ Err r = rw (p, q) at e in (leb-false _ _ p, leb-false _ _ q, cc)

  pub step-refuses : (n room : ℕ) {r : Refusal} → step_answer h m n room ≡ Err r → Because (OfFrame h m n room) r
  unfolding step_answer
  step-refuses n room {r} e = by (check_answer h m) refl
    where
      by : (x : Result Report Refusal) → check_answer h m ≡ x → Because (OfFrame h m n room) r
      by (Err s) p =
          let y : Err s ≡ Err r = rw p at e in
          let i : s ≡ r = cc in
          let b = check-tells h m (p ∙ ap Err i) in
          (b.0, b.1, b.2, why.of-check b.3)
      by (Ok s) p =
          let y = frame-from (frames_of h) n room r (rw p at e) in
          ((get_or (frames_of h) n no_frame).key, flaw OutputShort nowhere, sym y.2, why.too-long y.0 y.1)

  -- it leaves the buffer, and so does a step past the last frame
  out_stays : (s : Result (Option ℕ) Refusal) (b out : List ℕ) → ((k : ℕ) → s ≡ Ok (Some k) → ⊥) → out_after s b out ≡ out
  out_stays (Ok (Some k)) b out f = absurd (f k refl)
  out_stays (Ok None) b out f = refl
  out_stays (Err r) b out f = refl

  pub step-leaves : (n : ℕ) (out : List ℕ) {r : Refusal} → step_answer h m n (length out) ≡ Err r → step_out h m n out ≡ out
  unfolding step_out
  step-leaves n out e = out_stays (step_answer h m n (length out)) _ out (λ k f. let q = sym e ∙ f in let z : ◌≡◌ {A = ℕ} 0 1 = cc in omega arith)

  pub done-leaves : (n : ℕ) (out : List ℕ) → step_answer h m n (length out) ≡ Ok None → step_out h m n out ≡ out
  unfolding step_out
  done-leaves n out e = out_stays (step_answer h m n (length out)) _ out (λ k f. let q = sym e ∙ f in let z : ◌≡◌ {A = ℕ} 0 1 = cc in omega arith)

  -- ---- begin

  pub begin-refuses : (ws : List ℕ) {r : Refusal} → begin_answer h m ws ≡ Err r → Because (OfBegun h m ws) r
  unfolding begin_answer
  begin-refuses ws {r} e = by (check_answer h m) refl (leb words (length ws)) refl
    where
      by : (x : Result Report Refusal) → check_answer h m ≡ x → (t : Bool) → leb words (length ws) ≡ t → Because (OfBegun h m ws) r
      by (Err s) p t q =
          let y : Err s ≡ Err r = rw p at e in
          let i : s ≡ r = cc in
          let b = check-tells h m (p ∙ ap Err i) in
          (b.0, b.1, b.2, why.of-check b.3)
      by (Ok s) p true q = absurd (let y = rw (p, q) at e in let z : ◌≡◌ {A = ℕ} 0 1 = cc in omega arith)
      by (Ok s) p false q =
          let y : Err (short no_key) ≡ Err r = rw (p, q) at e in
          (no_key, flaw OutputShort nowhere, let z : short no_key ≡ r = cc in sym z, why.few_words (leb-false _ _ q))

  begun-stays : (b : Result Cursor Refusal) (root : Offset) (ws : List ℕ) {r : Refusal} → b ≡ Err r → levels_begun b root ws ≡ ws
  begun-stays (Ok c) root ws e = absurd (let z : ◌≡◌ {A = ℕ} 0 1 = cc in omega arith)
  begun-stays (Err s) root ws e = refl

  pub begin-leaves : (ws : List ℕ) {r : Refusal} → begin_answer h m ws ≡ Err r → begin_levels h m ws ≡ ws
  unfolding begin_levels
  begin-leaves ws e = begun-stays (begin_answer h m ws) (hive_of h).root ws e

-- ---- a run

module _ (h ws : List ℕ) (c : Cursor) (room : ℕ) where
  abbrev d : List ℕ
  d = bins_data h

  abbrev minor : ℕ
  minor = (hive_of h).minor

  abbrev k : Offset
  k = key_at ws c.depth

  abbrev P : Offset → Flaw → Type 0
  P = OfRun h ws c room

  ruled : Ruled Header d []
  ruled = by-header d []

  -- a due frame that is refused
  abbrev Why : Result (Option Frame) Refusal → Type 0
  Why x = (r : Refusal) → x ≡ Err r → Because P r

  why-where : (o : Offset) (v : Verdict) (x : Result (Option Frame) Refusal) → Every (P o) v → (v ≡ Ok tt → Why x) → Why (due_where o v x)
  why-where o (Ok tt) x p q = q refl
  why-where o (Err g) x p q = λ r e. (o, g, let z : refusal_of o g ≡ r = cc in sym z, p g refl)

  why-comes : {x : Result (Option Frame) Refusal} {f : Frame} → x ≡ Ok (Some f) → Why x
  why-comes e r q = let y = sym e ∙ q in absurd (let z : ◌≡◌ {A = ℕ} 0 1 = cc in omega arith)

  walk-why : (x : Result (Option Offer) Refusal) → step_in d ws c.depth ≡ x → Why (walk_due d x)
  walk-why (Ok (Some (ahead.Opens e m))) p = why-comes refl
  walk-why (Ok (Some (ahead.Closes o))) p = why-comes refl
  walk-why (Ok None) p = λ r q. absurd (let z : ◌≡◌ {A = ℕ} 0 1 = cc in omega arith)
  walk-why (Err s) p = λ r q.
      let i : s ≡ r = cc in
      let b = in-why h ws c.depth r (ap answer_of p ∙ ap Err i) in
      (b.0, b.1, b.2, of-walk b.3)

  module _ (s : key_fault Header d [] k ≡ Ok tt) where
    value-why : (i : ℕ) → i < (key_of d k).values → Why (value_due d minor k i)
    unfolding value_due whole_value_fault
    value-why i p =
        let v = get_or (values_of d (key_of d k)) i nowhere in
        let n = values-many d minor k in
        let j = at_in (values_of d (key_of d k)) i nowhere (omega arith) in
        let fit = key-fit Header d [] ruled k s in
        why-where k _ _
        (every-next (P k) (value_list_fault Header d [] (key_of d k)) _ (λ f e. of_values fit (value-list-unfit Header d [] ruled k f e))
        (λ a. every-next (P k) (value_fault Header d [] v) _
        (λ f e. of_values fit (one_of (value-named Header d [] ruled k v a j) (value-unfit Header d [] ruled v f e)))
        (λ b f e. of-data (value-fit Header d [] ruled v b) j (data-unfit Header d [] ruled (data_in d minor v) f e))))
        (λ a. why-comes refl)

    top-why : Why (top_due d minor ws c k)
    unfolding top_due
    top-why = by (eqb c.due 0) refl (leb c.due (key_of d k).values) refl
      where
        by : (t : Bool) → eqb c.due 0 ≡ t → (u : Bool) → leb c.due (key_of d k).values ≡ u
            → Why (cond t (comes d what.Own k 1) (cond u (value_due d minor k (c.due - 1)) (walk_due d (step_in d ws c.depth))))
        by true p u q = why-comes refl
        by false p true q =
            let z = eqb-false c.due 0 p in
            let l = leb-true c.due (key_of d k).values q in
            value-why (c.due - 1) (omega arith)
        by false p false q = walk-why (step_in d ws c.depth) refl

  due-why : Why (due_at d minor ws c)
  unfolding due_at
  due-why = by (eqb c.depth 0)
    where
      by : (t : Bool) → Why (cond t (Ok None) (due_where no_key (key_fault Header d [] k) (top_due d minor ws c k)))
      by true = λ r e. absurd (let z : ◌≡◌ {A = ℕ} 0 1 = cc in omega arith)
      by false = why-where no_key (key_fault Header d [] k) (top_due d minor ws c k) (λ f e. of-key (key-unfit Header d [] ruled k f e)) top-why

  -- where nothing is packed all stays
  packed-empty : (n : ℕ) → (packed d minor n ws c room).frames ≡ [] → packed d minor n ws c room ≡ none ws c
  unfolding packed
  packed-empty zero e = refl
  packed-empty (suc n) e = by (due_at d minor ws c) refl
    where
      by : (x : Result (Option Frame) Refusal) → due_at d minor ws c ≡ x → packed d minor (suc n) ws c room ≡ none ws c
      by (Ok None) p = rw p
      by (Err s) p = rw p
      by (Ok (Some f)) p = test (leb f.len room) refl
        where
          test : (t : Bool) → leb f.len room ≡ t → packed d minor (suc n) ws c room ≡ none ws c
          test true q = absurd (let y = ap length (rw (p, q) at e) in omega arith)
          test false q = rw (p, q)

  -- what is due does not fit where nothing is packed
  no_room : (f : Frame) → due_at d minor ws c ≡ Ok (Some f) → (n : ℕ) → room ≡ n → (packed d minor n ws c room).frames ≡ [] → room < f.len
  no_room f p zero z e = let a = some_bytes d f.key f.what in let b = (due-lies d minor ws c p).len in omega arith
  no_room f p (suc n) z e = test (leb f.len room) refl
    where
      test : (t : Bool) → leb f.len room ≡ t → room < f.len
      test true q = absurd (let y = ap length (sym (ap (λ (x : Packed). x.frames) (packed_more d minor n ws c room f p (leb-true f.len room q))) ∙ e) in omega arith)
      test false q = leb-false f.len room q

  ran-why : (x : Result (Option Frame) Refusal) → due_at d minor ws c ≡ x → (fs : List Framed) → (run_packed h ws c room).frames ≡ fs → (y : Cursor) (r : Refusal)
      → ran_of x fs y ≡ Err r → Because P r
  ran-why (Ok (Some f)) p [] e y r q =
      let z : short f.key ≡ r = cc in
      (f.key, flaw OutputShort nowhere, sym z, why.too-long p (no_room f p room refl e))
  ran-why (Ok None) p [] e y r q = absurd (let z : ◌≡◌ {A = ℕ} 0 1 = cc in omega arith)
  ran-why (Err s) p [] e y r q = let z : s ≡ r = cc in due-why r (p ∙ ap Err z)
  ran-why x p (g ∷ fs) e y r q = absurd (let z : ◌≡◌ {A = ℕ} 0 1 = cc in omega arith)

  fault-why : Every (P no_key) (run_fault h ws c)
  unfolding run_fault
  fault-why =
      every-next (P no_key) (base_fault h) _ (λ f e. of-base (base-refuses h f e))
      (λ s. every-unless (P no_key) (leb words (length ws) && leb (3 * c.depth) (length ws)) (flaw OutputShort nowhere) (by (leb words (length ws)) refl))
    where
      by : (t : Bool) → leb words (length ws) ≡ t → t && leb (3 * c.depth) (length ws) ≡ false → P no_key (flaw OutputShort nowhere)
      by true p q = no_words (leb-false _ _ q)
      by false p q = why.few_words (leb-false _ _ p)

  pub run-refuses : {r : Refusal} → run_answer h ws c room ≡ Err r → Because P r
  unfolding run_answer
  run-refuses {r} e = by (run_fault h ws c) refl
    where
      by : (v : Verdict) → run_fault h ws c ≡ v → Because P r
      by (Err f) p =
          let y : Err (refusal_of no_key f) ≡ Err r = rw p at e in
          (no_key, f, let z : refusal_of no_key f ≡ r = cc in sym z, fault-why f p)
      by (Ok tt) p = ran-why (due_at d minor ws c) refl (run_packed h ws c room).frames refl (run_packed h ws c room).behind r (rw p at e)

  ran-none : (x : Result (Option Frame) Refusal) (fs : List Framed) (y : Cursor) {r : Refusal} → ran_of x fs y ≡ Err r → fs ≡ []
  ran-none x [] y e = refl
  ran-none x (g ∷ fs) y e = absurd (let z : ◌≡◌ {A = ℕ} 0 1 = cc in omega arith)

module _ (h ws : List ℕ) (c : Cursor) (out : List ℕ) where
  pub run-leaves : {r : Refusal} → run_answer h ws c (length out) ≡ Err r → (run_out h ws c out ≡ out) × (run_levels h ws c (length out) ≡ ws)
  unfolding run_answer run_out run_levels
  run-leaves e = by (run_fault h ws c) refl
    where
      by : (v : Verdict) → run_fault h ws c ≡ v → (run_out h ws c out ≡ out) × (run_levels h ws c (length out) ≡ ws)
      by (Err f) p = (rw p, rw p)
      by (Ok tt) p =
          let k = run_packed h ws c (length out) in
          let z = ran-none h ws c (length out) (due_at (bins_data h) (hive_of h).minor ws c) k.frames k.behind (rw p at e) in
          let y = packed-empty h ws c (length out) (length out) z in
          (rw (p, z, joined-none), rw (p, y))

-- ---- of a hive that is refused before anything is read

module _ (h m : List ℕ) {r : Refusal} (e : check_answer h m ≡ Err r) where
  pub step-unread : (n : ℕ) (out : List ℕ) → (step_answer h m n (length out) ≡ Err r) × (step_out h m n out ≡ out)
  unfolding step_answer step_out
  step-unread n out = (rw e, rw e)

  pub begin-unread : (ws : List ℕ) → (begin_answer h m ws ≡ Err r) × (begin_levels h m ws ≡ ws)
  unfolding begin_answer begin_levels
  begin-unread ws = (rw e, rw e)

pub run-unread : (h ws : List ℕ) (c : Cursor) (out : List ℕ) {f : Flaw} → base_fault h ≡ Err f
    → (run_answer h ws c (length out) ≡ Err (refusal_of no_key f)) × (run_out h ws c out ≡ out) × (run_levels h ws c (length out) ≡ ws)
unfolding run_answer run_out run_levels run_fault
run-unread h ws c out {f} e =
    let z : run_fault h ws c ≡ Err f = stop (base_fault h) _ e in
    (rw z, rw z, rw z)

-- ---- by these names the attributes in the code cite them

pub ruleset unread = (step-unread, begin-unread, run-unread)
