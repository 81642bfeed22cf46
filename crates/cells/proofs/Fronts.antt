-- The tests 1 to 8, a law for each way out.
use Prim.Native.Nat.{ℕ, ◌/◌, ◌≤◌, ◌<◌}
use native.Mathlib.Omega.{arith}
use mathlib.Core.Path.{◌≡◌, ◌∙◌}
use mathlib.Core.List.{List}
use lib.Dec.{leb}
use lib.ListN.{length, length-take, length-drop}
use borrow.Author.Tests.{le-leb, lt-leb, leb-true}
use Rattle.fields.specs.declared.Flaw.{Flaw}
use Rattle.fields.specs.declared.Fault.TheVariants.{MapSmall}
use Rattle.fields.specs.Faults.{flaw, nowhere}
use Rattle.fields.proofs.Firsts.{on, stop, both, held, holds, fails}
use Rattle.base.specs.Block.{sector, bins_of, base_fault, bins_data}
use Rattle.base.proofs.Laws.{base-facts}
use Rattle.cells.specs.Tiling.{layout, survey_of}
use Rattle.cells.specs.Terms.{Pages, Data}
use Rattle.cells.specs.Map.{map_after}
use Rattle.cells.specs.Survey.{front_fault, survey_answer, map_left}
use Rattle.cells.specs.declared.Tally.{Tally}
use Rattle.std.specs.Prelude.{Err, Ok, Result}

module _ (h : List ℕ) (room : ℕ) where
  pub front-base : {f : Flaw} → base_fault h ≡ Err f → front_fault h room ≡ Err f
  unfolding front_fault
  front-base e = stop _ _ e

  pub front-small : base_fault h ≡ Ok tt → room < bins_of (sector h) / 64 → front_fault h room ≡ Err (flaw MapSmall nowhere)
  unfolding front_fault
  front-small e p = on _ _ e ∙ fails _ (lt-leb _ _ p)

  pub front-good : base_fault h ≡ Ok tt → bins_of (sector h) / 64 ≤ room → front_fault h room ≡ Ok tt
  unfolding front_fault
  front-good e p = on _ _ e ∙ holds _ (le-leb _ _ p)

  pub front-facts : front_fault h room ≡ Ok tt → (base_fault h ≡ Ok tt) × (bins_of (sector h) / 64 ≤ room)
  unfolding front_fault
  front-facts e =
      let a = both (base_fault h) _ e in
      (a.0, leb-true _ _ (held (leb (bins_of (sector h) / 64) room) (flaw MapSmall nowhere) a.1))

-- what a pass over the bins asks, and what one that marks them asks
pub base-pages : (h : List ℕ) → base_fault h ≡ Ok tt → Pages (bins_data h)
base-pages h e =
    let b = base-facts h e in
    record { pages = simp (length-take, length-drop) (omega arith); small = simp (length-take, length-drop) (omega arith) }

pub front-data : (h m : List ℕ) → front_fault h (length m) ≡ Ok tt → Data (bins_data h) m
front-data h m e =
    let f = front-facts h (length m) e in
    let b = base-facts h f.0 in
    let room = f.1 in
    record { whole = base-pages h f.0; room = simp (length-take, length-drop) (omega arith) }

-- The survey: refused by 1 to 8 with the map untouched, or as the bins data say.
module _ (h m : List ℕ) where
  pub survey-front : {f : Flaw} → front_fault h (length m) ≡ Err f → (survey_answer h (length m) ≡ Err f) × (map_left h m ≡ m)
  unfolding survey_answer map_left
  survey-front e = (rw e, rw e)

  pub survey-on : (d : List ℕ) (r : Result Tally Flaw) → front_fault h (length m) ≡ Ok tt → d ≡ bins_data h → r ≡ survey_of (layout d 0) 0 0 0
      → (survey_answer h (length m) ≡ r) × (map_left h m ≡ map_after d r m)
  unfolding survey_answer map_left
  survey-on d r e p q = (rw (e, q, p), rw (e, q, p))
