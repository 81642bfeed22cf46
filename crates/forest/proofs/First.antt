-- The fault that a stream answers is that of the earliest frame at fault, and the one with the lowest number there.
use Prim.Native.Nat.{ℕ, zero, suc, ◌+◌, ◌≤◌, ◌<◌}
use native.Mathlib.Omega.{arith}
use mathlib.Core.Path.{◌≡◌, refl, sym, ap, subst, ◌∙◌}
use mathlib.Core.Logic.{◌↔◌}
use mathlib.Core.Bool.{Bool, true, false}
use mathlib.Core.List.{List, []}
use lib.Dec.{eqb}
use lib.ListN.{length, drop, length-drop}
use lib.Seq.{drop-drop}
use borrow.Author.Tests.{eqb-true, eqb-false}
use Rattle.fields.specs.declared.Flaw.{Flaw}
use Rattle.fields.specs.declared.Fault.TheVariants.{Unbalanced}
use Rattle.fields.specs.Faults.{number_of, flaw, nowhere, Verdict}
use Rattle.forest.specs.Faults.{frame_len, shape_of, State, within, over, behind, frame_fault, Judged, Wrong, ended, judged, judge, stream_fault}
use Rattle.forest.specs.First.{Comes, start, past, FirstFault, in_frame, at-end}
use Rattle.forest.proofs.Judge.{judge-step, judge-end, judge-stop, judge-on}
use Rattle.forest.proofs.Lowest.{flawed-lowest, lowest-number}
use Rattle.forest.proofs.Tests.{sound-fits}
use Rattle.std.specs.Prelude.{Err, Ok}

module _ (s : List ℕ) where
  -- where none was at fault before, what is left answers
  pub comes-judged : {at : ℕ} {st : State} → Comes s at st → stream_fault s ≡ judge (drop at s) at st
  comes-judged start = refl
  comes-judged (past {at = at} {st = st} c e) =
      let r = drop at s in
      let f = sound-fits r st e in
      comes-judged c ∙ judge-on r at st (omega arith) e
      ∙ ap (λ (l : List ℕ). judge l (at + frame_len r) (behind (shape_of r) st)) (drop-drop (frame_len r) at s)

  module _ (f : Flaw) (p : ℕ) where
    -- nothing is left
    ended-first : (at : ℕ) (st : State) → Comes s at st → at ≡ length s → ended st at ≡ Wrong f p → FirstFault s f p
    ended-first at over c l e = absurd (let z : ◌≡◌ {A = ℕ} 0 1 = cc in omega arith)
    ended-first at (within ks) c l e =
        let place : at ≡ p = cc in
        let same : flaw Unbalanced nowhere ≡ f = cc in
        at-end (subst (λ (n : ℕ). Comes s n (within ks)) place c) (sym place ∙ l) (sym same)

    -- a frame is left
    judged-first : (at : ℕ) (st : State) → Comes s at st → at < length s → (go : Judged) → (frame_fault (shape_of (drop at s)) st ≡ Ok tt → go ≡ Wrong f p → FirstFault s f p)
        → (v : Verdict) → frame_fault (shape_of (drop at s)) st ≡ v → judged v at go ≡ Wrong f p → FirstFault s f p
    judged-first at st c l go rest (Ok tt) g e = rest g e
    judged-first at st c l go rest (Err h) g e =
        let place : at ≡ p = cc in
        let same : h ≡ f = cc in
        let fault = g ∙ ap Err same in
        subst (FirstFault s f) place (in_frame c l fault (flawed-lowest (shape_of (drop at s)) st f fault))

    seek : (m at : ℕ) (st : State) → Comes s at st → at ≤ length s → length s ≤ at + m → judge (drop at s) at st ≡ Wrong f p → FirstFault s f p
    seek zero at st c l n e =
        let a = length-drop at s in
        ended-first at st c (omega arith) (sym (judge-end (drop at s) at st (omega arith)) ∙ e)
    seek (suc m) at st c l n e = by (seek m) (eqb (length (drop at s)) 0) refl
      where
        by : ((at : ℕ) (st : State) → Comes s at st → at ≤ length s → length s ≤ at + m → judge (drop at s) at st ≡ Wrong f p → FirstFault s f p)
            → (t : Bool) → eqb (length (drop at s)) 0 ≡ t → FirstFault s f p
        by rest true q =
            let a = length-drop at s in
            let z = eqb-true (length (drop at s)) 0 q in
            ended-first at st c (omega arith) (sym (judge-end (drop at s) at st z) ∙ e)
        by rest false q =
            let r = drop at s in
            let a = length-drop at s in
            let some : 0 < length r = omega (arith, eqb-false (length r) 0 q) in
            let go = judge (drop (frame_len r) r) (at + frame_len r) (behind (shape_of r) st) in
            judged-first at st c (omega arith) go
            (λ g w. let k = sound-fits r st g in
            rest (at + frame_len r) (behind (shape_of r) st) (past c g) (omega arith) (omega arith)
            (sym (ap (λ (l : List ℕ). judge l (at + frame_len r) (behind (shape_of r) st)) (drop-drop (frame_len r) at s)) ∙ w))
            (frame_fault (shape_of r) st) refl (sym (judge-step r at st some) ∙ e)

    -- the theorem, one way: what a stream answers is its first fault
    pub wrong_first : stream_fault s ≡ Wrong f p → FirstFault s f p
    wrong_first e = seek (length s) 0 (within []) start (omega arith) (omega arith) e

    -- its number is one of those of a stream
    number-of : FirstFault s f p → (30 ≤ number_of f.fault) × (number_of f.fault ≤ 38)
    number-of (in_frame {st = st} c l e w) = lowest-number (shape_of (drop p s)) st w
    number-of (at-end c l e) = let n = ap (λ (g : Flaw). number_of g.fault) e in (omega arith, omega arith)

    pub wrong-number : stream_fault s ≡ Wrong f p → (30 ≤ number_of f.fault) × (number_of f.fault ≤ 38)
    wrong-number e = number-of (wrong_first e)

    -- the other way: a first fault is what the stream answers, so there is no other
    pub first-wrong : FirstFault s f p → stream_fault s ≡ Wrong f p
    first-wrong (in_frame {st = st} c l e w) =
        let a = length-drop p s in
        comes-judged c ∙ judge-stop (drop p s) p st (omega arith) e
    first-wrong (at-end {ks = ks} c l e) =
        let a = length-drop p s in
        comes-judged c ∙ judge-end (drop p s) p (within ks) (omega arith) ∙ ap (λ (g : Flaw). Wrong g p) (sym e)

-- the theorem
pub first-fault : (s : List ℕ) (f : Flaw) (at : ℕ) → (stream_fault s ≡ Wrong f at) ↔ FirstFault s f at
first-fault s f at = (wrong_first s f at, first-wrong s f at)
