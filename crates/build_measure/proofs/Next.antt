-- The next frame of a key that is open, a law for each way out of the code.
use Prim.Native.Nat.{ℕ, ◌<◌}
use native.Mathlib.Omega.{arith}
use mathlib.Core.Path.{◌≡◌, sym, ap, subst, ◌∙◌}
use mathlib.Core.List.{List, ◌∷◌}
use lib.ListN.{length, drop, length-drop}
use borrow.Author.Tests.{eqb-true}
use Rattle.fields.specs.declared.Flaw.{Flaw}
use Rattle.fields.specs.declared.Fault.TheVariants.{Unbalanced}
use Rattle.fields.specs.Faults.{flaw, nowhere, Verdict}
use Rattle.forest.specs.Faults.{Shape as Said, holds, shape_of, Open, within, subkeys_seen, is_timely, frame_fault}
use Rattle.forest.proofs.Judge.{judge-end, judge-stop}
use Rattle.forest.proofs.Tests.{sound-passes, unlaid-flawed}
use Rattle.build_frames.specs.declared.Held.{Held}
use Rattle.build_frames.specs.declared.Shape.{Shape}
use Rattle.build_frames.specs.declared.Shape.TheVariants.{Unlaid, Holds}
use Rattle.build_frames.specs.Terms.{item_in, shape_in, ReadAs}
use Rattle.build_frames.proofs.Arms.{said-nothing, said-holds}
use Rattle.build_measure.specs.declared.Here.{Here}
use Rattle.build_measure.specs.Terms.{item_of, Stands, FaultHere, StepFits, WrongHere}
use Rattle.std.specs.Prelude.{Err, Ok}

module _ (s : List ℕ) (p : ℕ) (h : Here) where
  pub at-end : p ≡ length s → WrongHere s p h (flaw Unbalanced nowhere)
  at-end e k ks x = judge-end (drop p s) p (within (k ∷ ks)) (let l = length-drop p s in omega arith)

  module _ {f : Shape} (r : ReadAs s (shape_of (drop p s)) f) where
    -- what was told of the frame that was read
    told : {v : Verdict} → FaultHere s (shape_in s f) h v → FaultHere s (shape_of (drop p s)) h v
    told {v} t = subst (λ (q : Said). FaultHere s q h v) r.is t

    pub at-fault : {v : Verdict} {x : Flaw} → p < length s → FaultHere s (shape_in s f) h v → v ≡ Err x → WrongHere s p h x
    at-fault some t e k ks st =
        let l = length-drop p s in
        judge-stop (drop p s) p (within (k ∷ ks)) (omega arith) (sym (told t k ks st) ∙ e)

    module _ (t : FaultHere s (shape_in s f) h (Ok tt)) where
      sound-here : (k : Open) (ks : List Open) → Stands s (shape_of (drop p s)) h k ks → frame_fault (shape_of (drop p s)) (within (k ∷ ks)) ≡ Ok tt
      sound-here k ks st = sym (told t k ks st)

      pub at-unlaid : {x : Flaw} → f ≡ Unlaid → WrongHere s p h x
      at-unlaid e k ks st =
          absurd (unlaid-flawed (within (k ∷ ks)) (ap (λ (q : Said). frame_fault q (within (k ∷ ks))) (sym (said-nothing r e)) ∙ sound-here k ks st))

      pub at_value : {v : Held} {x : Flaw} → StepFits s p h → f ≡ Holds v → WrongHere s p h x
      unfolding is_timely subkeys_seen item_of
      at_value {v} w e k ks st =
          let q = said-holds r e in
          let is = q ∙ ap holds (sym (ap item_of q)) in
          let a = sound-passes (shape_of (drop p s)) (within (k ∷ ks)) (sound-here k ks st) in
          let b = sound-passes (holds (item_in s v)) (within (k ∷ ks)) (ap (λ (g : Said). frame_fault g (within (k ∷ ks))) (sym q) ∙ sound-here k ks st) in
          let z = eqb-true (length k.subkeys) 0 b.timely in
          absurd (w.no_value (sym st.elders.count ∙ z) (record { is = is; named = a.named; small = a.small }))
