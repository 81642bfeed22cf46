-- A frame that was read and is not of one kind: what a caller knows of it.
use Prim.Native.Nat.{ℕ, ◌≤◌}
use mathlib.Core.Path.{◌≡◌, refl}
use mathlib.Core.List.{List}
use native.Mathlib.Omega.{arith}
use lib.ListN.{length, drop}
use Rattle.fields.specs.declared.Fault.TheVariants.{Unbalanced}
use Rattle.fields.specs.Faults.{flaw, nowhere, Verdict}
use Rattle.forest.specs.Forest.{Item}
use Rattle.forest.specs.Faults.{Shape as Said, holds, shape_of}
use Rattle.build_frames.specs.declared.Held.{Held}
use Rattle.build_frames.specs.declared.Shape.{Shape}
use Rattle.build_frames.specs.declared.Shape.TheVariants.{Unlaid, Opens, Holds, Closes}
use Rattle.build_frames.specs.Terms.{ReadAs}
use Rattle.build_frames.proofs.Arms.{said-nothing, said-opens, said-holds, said-closes}
use Rattle.build_measure.specs.Terms.{AfterAs}
use Rattle.build_measure.proofs.Repeats.{not-opens, not-closes, not-laid}
use Rattle.build_measure.proofs.Entire.{after-opens, after_holds, after-closes}
use Rattle.fields.specs.declared.Flaw.{Flaw}
use Rattle.build_measure.specs.declared.StreamFlaw.{StreamFlaw}
use Rattle.std.specs.Prelude.{Ok, Err, Result, MatchResult}

-- it holds no value
pub other-held : {s : List ℕ} {f : Said} (r : Shape) → ReadAs s f r → ((v : Held) → r ≡ Holds v → ⊥) → (v : Item) → f ≡ holds v → ⊥
other-held Unlaid x n = not-laid (said-nothing x refl)
other-held (Opens o) x n = not-opens (said-opens x refl)
other-held (Holds v) x n = absurd (n v refl)
other-held Closes x n = not-closes (said-closes x refl)

-- behind the root's closing frame
pub other-after : (s : List ℕ) (p : ℕ) → p ≤ length s → (p ≡ length s → ⊥) → (r : Shape) → ReadAs s (shape_of (drop p s)) r → (r ≡ Unlaid → ⊥)
    → {v : Verdict} → v ≡ Err (flaw Unbalanced nowhere) → AfterAs s p v
other-after s p h n Unlaid x m e = absurd (m refl)
other-after s p h n (Opens o) x m e = after-opens s p h n (said-opens x refl) e
other-after s p h n (Holds v) x m e = after_holds s p h n (said-holds x refl) e
other-after s p h n Closes x m e = after-closes s p h n (said-closes x refl) e

-- an error that was given a position
pub placed : {A : Type 0} (a : Result A Flaw) (at : ℕ) {b : Result A StreamFlaw} {r : StreamFlaw}
    → MatchResult a (λ n. b ≡ Ok n) (λ f. b ≡ Err (record { flaw = f; at = at })) → b ≡ Err r → (f : Flaw) × (a ≡ Err f) × (r ≡ record { flaw = f; at = at })
placed (Ok n) at h e = absurd (let z : ◌≡◌ {A = ℕ} 0 1 = cc in omega arith)
placed (Err f) at h e = (f, refl, cc)
