-- Every refusal has its reason.
use Prim.Native.Nat.{ℕ}
use native.Mathlib.Omega.{arith}
use mathlib.Core.Path.{◌≡◌, refl, sym, ap, subst, ◌∙◌}
use mathlib.Core.Bool.{Bool}
use mathlib.Core.List.{List}
use lib.ListN.{length}
use Rattle.fields.specs.declared.Fault.{Fault}
use Rattle.fields.specs.declared.Fault.TheVariants.{NoFrame, ValueLate, Unbalanced, Unsorted, Repeated, NameSize, DataSize, Depth, Subkeys, OutputShort, HiveSize}
use Rattle.fields.specs.declared.Flaw.{Flaw}
use Rattle.fields.specs.Faults.{flaw, nowhere, unless, ◌next◌, Verdict}
use Rattle.fields.proofs.Every.{Every, every-unless, every-next}
use Rattle.forest.specs.Faults.{Shape, State, is_laid, is_timely, is_inside, is_sorted, is_single, is_named, is_small, is_shallow, is_few, frame_fault, Wrong, stream_fault}
use Rattle.forest.specs.First.{FirstFault, in_frame, at-end}
use Rattle.forest.proofs.First.{wrong_first}
use Rattle.build_answers.specs.declared.Unbuilt.{Unbuilt}
use Rattle.build_answers.specs.Answers.{unbuilt, measure_answer, build_answer}
use Rattle.build_answers.specs.Refused.{InStream, OfMeasure, of-frames, too_large, OfBuild, of-measure, too-long}
use Rattle.build_answers.proofs.Cases.{Measured, sized, over-limit, at-fault, measured, Answered, done, long, large, wrong, answered}
use Rattle.std.specs.Prelude.{Err, Result}

-- ---- the flaw of a frame has no place of its own

abbrev Nowhere : Flaw → Type 0
Nowhere f = f ≡ flaw f.fault nowhere

test-nowhere : (t : Bool) (c : Fault) → Every Nowhere (unless t (flaw c nowhere))
test-nowhere t c = every-unless Nowhere t (flaw c nowhere) (λ z. refl)

more-nowhere : (t : Bool) (c : Fault) (v : Verdict) → Every Nowhere v → Every Nowhere (unless t (flaw c nowhere) next v)
more-nowhere t c v p = every-next Nowhere (unless t (flaw c nowhere)) v (test-nowhere t c) (λ z. p)

frame-nowhere : (f : Shape) (st : State) → Every Nowhere (frame_fault f st)
unfolding frame_fault
frame-nowhere f st =
    more-nowhere (is_laid f) NoFrame _ (more-nowhere (is_timely f st) ValueLate _ (more-nowhere (is_inside f st) Unbalanced _
    (more-nowhere (is_sorted f st) Unsorted _ (more-nowhere (is_single f st) Repeated _ (more-nowhere (is_named f) NameSize _
    (more-nowhere (is_small f) DataSize _ (more-nowhere (is_shallow f st) Depth _ (test-nowhere (is_few f st) Subkeys))))))))

first-nowhere : {s : List ℕ} {f : Flaw} {at : ℕ} → FirstFault s f at → Nowhere f
first-nowhere {f = f} (in_frame c l e w) = frame-nowhere _ _ f e
first-nowhere (at-end c l e) = e ∙ ap (λ (g : Flaw). flaw g.fault nowhere) (sym e)

pub wrong-nowhere : (s : List ℕ) {f : Flaw} {at : ℕ} → stream_fault s ≡ Wrong f at → FirstFault s (flaw f.fault nowhere) at × (f ≡ flaw f.fault nowhere)
wrong-nowhere s {f} {at} e =
    let w = wrong_first s f at e in
    (subst (λ (g : Flaw). FirstFault s g at) (first-nowhere w) w, first-nowhere w)

-- ---- the theorems

same-refusal : {u v : Unbuilt} → ◌≡◌ {A = Result ℕ Unbuilt} (Err u) (Err v) → v ≡ u
same-refusal e = cc

module _ (s : List ℕ) where
  of-wrong : {f : Flaw} {at : ℕ} {u : Unbuilt} → stream_fault s ≡ Wrong f at → unbuilt f at ≡ Err u → (n : ℕ) → InStream (OfMeasure s n) u
  of-wrong {f} {at} e q n =
      let w = wrong-nowhere s e in
      (f.fault, at, same-refusal (ap (λ (g : Flaw). unbuilt g at) (sym w.1) ∙ q), of-frames w.0)

  measure-why : {n : ℕ} {a : Result ℕ Unbuilt} {u : Unbuilt} → Measured s n a → a ≡ Err u → InStream (OfMeasure s n) u
  measure-why (sized e h) q = absurd (let z : ◌≡◌ {A = ℕ} 0 1 = cc in omega arith)
  measure-why (over-limit e h) q = (HiveSize, 0, same-refusal q, too_large e h)
  measure-why {n = n} (at-fault e) q = of-wrong e q n

  pub measure-refuses : (n : ℕ) {u : Unbuilt} → measure_answer s n ≡ Err u → InStream (OfMeasure s n) u
  measure-refuses n e = measure-why (measured s n) e

  module _ (sd : List ℕ) (room : ℕ) where
    build-why : {a : Result ℕ Unbuilt} {u : Unbuilt} → Answered s sd room a → a ≡ Err u → InStream (OfBuild s (length sd) room) u
    build-why (done z h) q = absurd (let y : ◌≡◌ {A = ℕ} 0 1 = cc in omega arith)
    build-why (long z h) q = let e = z.is in (OutputShort, 0, same-refusal q, too-long z.fine z.limit (omega arith))
    build-why (large e h) q = (HiveSize, 0, same-refusal q, of-measure (too_large e h))
    build-why (wrong e) q = let w = of-wrong e q (length sd) in (w.0, w.1, w.2, of-measure w.3)

    pub build-refuses : {u : Unbuilt} → build_answer s sd room ≡ Err u → InStream (OfBuild s (length sd) room) u
    build-refuses e = build-why (answered s sd room) e
