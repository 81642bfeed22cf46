-- What a loop over the versions knows at each: what they say of page p, by the version at hand and those after it.
use Prim.Native.Nat.{ℕ, ◌<◌}
use native.Mathlib.Omega.{arith}
use mathlib.Core.Path.{◌≡◌, ap, ◌∙◌}
use mathlib.Core.Bool.{Bool, true, cond, ◌||◌}
use mathlib.Core.List.{List}
use lib.ListN.{length}
use borrow.Author.Tests.{eq-eqb, ne_eqb}
use Rattle.log_versions.specs.declared.Cursor.{Cursor}
use Rattle.log_versions.specs.Versions.{names, last_place}
use Rattle.log_versions.specs.Terms.{rest, Stands, Moves}
use Rattle.log_versions.proofs.Steps.{past, past_split}

-- the loop ends
pub fewer : (l : List ℕ) (c d : Cursor) → Moves l c d → length (rest l d) < length (rest l c)
fewer l c d m = omega (arith, ap length m.split)

module _ (l : List ℕ) (p : ℕ) (c : Cursor) where
  pub named_here : 0 < c.pages → Stands l c → c.page ≡ p → names p (rest l c) ≡ true
  unfolding names
  named_here some stands e = ap (names p) (past_split l c some stands) ∙ ap (λ (b : Bool). b || names p (rest l (past c))) (eq-eqb c.page p e)

  module _ (d : Cursor) (m : Moves l c d) where
    pub named-beside : (c.page ≡ p → ⊥) → names p (rest l c) ≡ names p (rest l d)
    unfolding names
    named-beside e = ap (names p) m.split ∙ ap (λ (b : Bool). b || names p (rest l d)) (ne_eqb c.page p e)

    pub place_here : (z : ℕ) → c.page ≡ p → last_place z p (rest l c) ≡ last_place c.place p (rest l d)
    unfolding last_place
    place_here z e = ap (last_place z p) m.split ∙ ap (λ (b : Bool). last_place (cond b c.place z) p (rest l d)) (eq-eqb c.page p e)

    pub place-beside : (z : ℕ) → (c.page ≡ p → ⊥) → last_place z p (rest l c) ≡ last_place z p (rest l d)
    unfolding last_place
    place-beside z e = ap (last_place z p) m.split ∙ ap (λ (b : Bool). last_place (cond b c.place z) p (rest l d)) (ne_eqb c.page p e)
