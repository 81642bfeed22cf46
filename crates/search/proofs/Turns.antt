-- The first of some things that answers, found by a loop: the invariant is that what is left answers as the whole does.
use Prim.Native.Nat.{ℕ, ◌+◌, ◌<◌, ◌≤◌}
use native.Mathlib.Numerals.{add-one}
use mathlib.Core.Path.{◌≡◌, refl, ◌∙◌}
use mathlib.Core.List.{List, [], ◌∷◌}
use lib.ListN.{length, get_or, drop}
use lib.Seq.{drop-cons}
use Rattle.fields.specs.declared.Flaw.{Flaw}
use Rattle.fields.specs.declared.Offset.{Offset}
use Rattle.fields.proofs.Loops.{drop_all}
use Rattle.search.specs.Search.{or_else, first_of}
use Rattle.std.specs.Prelude.{Err, None, Ok, Option, Result, Some}

module _ {A : Type 0} (each : A → Result (Option Offset) Flaw) where
  first_found : (x : A) (xs : List A) {o : Offset} → each x ≡ Ok (Some o) → first_of each (x ∷ xs) ≡ Ok (Some o)
  unfolding first_of or_else
  first_found x xs e = rw e

  first-faulty : (x : A) (xs : List A) {f : Flaw} → each x ≡ Err f → first_of each (x ∷ xs) ≡ Err f
  unfolding first_of or_else
  first-faulty x xs e = rw e

  first_on : (x : A) (xs : List A) → each x ≡ Ok None → first_of each (x ∷ xs) ≡ first_of each xs
  unfolding first_of or_else
  first_on x xs e = rw e

  first-none : first_of each [] ≡ Ok None
  unfolding first_of
  first-none = refl

  -- `d` is what stands past the end of the list
  module _ (xs : List A) (i : ℕ) (d : A) (inv : first_of each xs ≡ first_of each (drop i xs)) where
    pub turn_end : length xs ≤ i → first_of each xs ≡ Ok None
    turn_end p = inv ∙ rw (drop_all xs i p) first-none

    module _ (x : A) (more : i < length xs) (is : x ≡ get_or xs i d) where
      pub turn-found : {o : Offset} → each x ≡ Ok (Some o) → first_of each xs ≡ Ok (Some o)
      turn-found e = inv ∙ rw (drop-cons xs i d more, ← is) (first_found x _ e)

      pub turn-faulty : {f : Flaw} → each x ≡ Err f → first_of each xs ≡ Err f
      turn-faulty e = inv ∙ rw (drop-cons xs i d more, ← is) (first-faulty x _ e)

      pub turn_on : each x ≡ Ok None → first_of each xs ≡ first_of each (drop (i + 1) xs)
      turn_on e = inv ∙ rw (drop-cons xs i d more, ← is, add-one i) (first_on x _ e)
