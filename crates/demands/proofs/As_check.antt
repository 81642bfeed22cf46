-- A survey of what was left refuses as the check does, where 1 to 10 answer.
use Prim.Native.Nat.{ℕ, ◌/◌, ◌≤◌}
use native.Mathlib.Omega.{arith}
use mathlib.Core.Path.{◌≡◌, refl, sym, ap, ◌∙◌}
use mathlib.Core.Logic.{◌↔◌}
use mathlib.Core.List.{List}
use lib.ListN.{length}
use Rattle.fields.specs.declared.Flaw.{Flaw}
use Rattle.fields.specs.declared.Refusal.{Refusal}
use Rattle.fields.specs.Faults.{number_of, no_key, refusal_of, Verdict}
use Rattle.base.specs.Block.{sector, bins_of, bins_data}
use Rattle.cells.specs.Survey.{front_fault, survey_answer}
use Rattle.cells.proofs.Fronts.{survey-front, survey-on}
use Rattle.cells.proofs.Refusals.{front-number, bins-refuse, bins-number}
use Rattle.tree.specs.Tree.{on_tiled, check_answer}
use Rattle.tree.proofs.Tells.{walk-number}
use Rattle.remnants.specs.Remnants.{flaw_in, tiles_fault, remnant_answer}
use Rattle.remnants.proofs.Refusals.{same_tests, next-stops, next-tests}
use Rattle.cells.specs.declared.Tally.{Tally}
use Rattle.std.specs.Prelude.{Err, Ok, Result}

module _ (h m : List ℕ) where
  -- the survey's numbers are 1 to 10
  early : {f : Flaw} → survey_answer h (length m) ≡ Err f → number_of f.fault ≤ 10
  early {f} e = by (front_fault h (length m)) refl
    where
      by : (v : Verdict) → front_fault h (length m) ≡ v → number_of f.fault ≤ 10
      by (Ok tt) p = (bins-number (bins_data h) (bins-refuse (bins_data h) (sym (survey-on h m (bins_data h) _ p refl refl).0 ∙ e))).1
      by (Err g) p =
          let q = sym (survey-front h m p).0 ∙ e in
          let s : g ≡ f = cc in
          let n : number_of g.fault ≡ number_of f.fault = ap (λ (x : Flaw). number_of x.fault) s in
          omega (arith, front-number h (length m) p)

  check-is : (s : Result Tally Flaw) → survey_answer h (length m) ≡ s → check_answer h m ≡ on_tiled h m s
  unfolding check_answer
  check-is s e = rw e

  module _ (from : ℕ) (room : bins_of (sector h) / 64 ≤ length m) (r : Refusal) where
    by-survey : (s : Result Tally Flaw) → survey_answer h (length m) ≡ s
        → (remnant_answer h from ≡ Err r) ↔ ((check_answer h m ≡ Err r) × (number_of r.fault ≤ 10))
    by-survey (Err f) e = (to, back)
      where
        tests : tiles_fault h ≡ Err f
        tests = same_tests h (length m) room ∙ ap flaw_in e

        to : remnant_answer h from ≡ Err r → (check_answer h m ≡ Err r) × (number_of r.fault ≤ 10)
        to q =
            let p = sym (next-stops h tests from) ∙ q in
            let s : refusal_of no_key f ≡ r = cc in
            let n : number_of f.fault ≡ number_of r.fault = ap (λ (x : Refusal). number_of x.fault) s in
            (check-is _ e ∙ ap Err s, omega (arith, early e))

        back : (check_answer h m ≡ Err r) × (number_of r.fault ≤ 10) → remnant_answer h from ≡ Err r
        back q =
            let p = sym (check-is _ e) ∙ q.0 in
            let s : refusal_of no_key f ≡ r = cc in
            next-stops h tests from ∙ ap Err s
    by-survey (Ok t) e = (to, back)
      where
        tests : tiles_fault h ≡ Ok tt
        tests = same_tests h (length m) room ∙ ap flaw_in e

        to : remnant_answer h from ≡ Err r → (check_answer h m ≡ Err r) × (number_of r.fault ≤ 10)
        to q =
            let x = next-tests h from q in
            let p = sym tests ∙ x.2 in
            let z : ◌≡◌ {A = ℕ} 0 1 = cc in
            absurd (omega arith)

        back : (check_answer h m ≡ Err r) × (number_of r.fault ≤ 10) → remnant_answer h from ≡ Err r
        back q =
            absurd (omega (arith, q.1, walk-number h m e (sym (check-is _ e) ∙ q.0)))

pub refuses-as-check : (h m : List ℕ) (from : ℕ) → bins_of (sector h) / 64 ≤ length m → (r : Refusal)
    → (remnant_answer h from ≡ Err r) ↔ ((check_answer h m ≡ Err r) × (number_of r.fault ≤ 10))
refuses-as-check h m from room r = by-survey h m from room r (survey_answer h (length m)) refl
