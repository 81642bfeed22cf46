-- What is wrong with one frame, a law for each test that fails behind others that pass.
use Prim.Native.Nat.{ℕ, suc, ◌≤◌, ◌<◌}
use native.Mathlib.Omega.{arith}
use mathlib.Core.Path.{◌≡◌, refl, sym, ap, ◌∙◌}
use mathlib.Core.Bool.{true, false}
use mathlib.Core.List.{List, [], ◌∷◌}
use lib.ListN.{length}
use borrow.Author.Tests.{eq-eqb, ne_eqb, le-leb, lt-leb}
use Rattle.fields.specs.declared.Fault.TheVariants.{NoFrame, ValueLate, Unsorted, NameSize, DataSize, Depth, Subkeys}
use Rattle.fields.specs.Faults.{flaw, nowhere, ◌next◌}
use Rattle.names.specs.Comparison.{compare}
use Rattle.tree.specs.Tree.{is_before}
use Rattle.forest.specs.Forest.{Item}
use Rattle.forest.specs.Faults.{Shape as Said, unlaid, opens, holds, Open, State, within, values_seen, subkeys_seen, level_of, is_over, is_laid, is_timely, is_inside, is_above, is_sorted, is_single, is_named, is_small, is_shallow, is_few, frame_fault}
use Rattle.forest.proofs.Tests.{passes-sound}
use Rattle.build_frames.specs.Terms.{name_in}
use Rattle.build_measure.specs.declared.Here.{Here}
use Rattle.build_measure.specs.Terms.{Elders, Stands}
use Rattle.std.specs.Prelude.{Err, Ok}

-- ---- in this order

module _ (f : Said) (st : State) where
  no-frame : is_laid f ≡ false → frame_fault f st ≡ Err (flaw NoFrame nowhere)
  unfolding frame_fault ◌next◌
  no-frame e = rw e

  module _ (laid : is_laid f ≡ true) where
    late : is_timely f st ≡ false → frame_fault f st ≡ Err (flaw ValueLate nowhere)
    unfolding frame_fault ◌next◌
    late e = rw (laid, e)

    module _ (timely : is_timely f st ≡ true) (inside : is_inside f st ≡ true) where
      unsorted : is_sorted f st ≡ false → frame_fault f st ≡ Err (flaw Unsorted nowhere)
      unfolding frame_fault ◌next◌
      unsorted e = rw (laid, timely, inside, e)

      module _ (sorted : is_sorted f st ≡ true) (single : is_single f st ≡ true) where
        misnamed : is_named f ≡ false → frame_fault f st ≡ Err (flaw NameSize nowhere)
        unfolding frame_fault ◌next◌
        misnamed e = rw (laid, timely, inside, sorted, single, e)

        module _ (named : is_named f ≡ true) where
          large : is_small f ≡ false → frame_fault f st ≡ Err (flaw DataSize nowhere)
          unfolding frame_fault ◌next◌
          large e = rw (laid, timely, inside, sorted, single, named, e)

          module _ (small : is_small f ≡ true) where
            deep : is_shallow f st ≡ false → frame_fault f st ≡ Err (flaw Depth nowhere)
            unfolding frame_fault ◌next◌
            deep e = rw (laid, timely, inside, sorted, single, named, small, e)

            module _ (shallow : is_shallow f st ≡ true) where
              many : is_few f st ≡ false → frame_fault f st ≡ Err (flaw Subkeys nowhere)
              unfolding frame_fault ◌next◌
              many e = rw (laid, timely, inside, sorted, single, named, small, shallow, e)

pub unlaid-here : (st : State) → frame_fault unlaid st ≡ Err (flaw NoFrame nowhere)
unfolding is_laid
unlaid-here st = no-frame unlaid st refl

-- ---- a value

module _ {s : List ℕ} {v : Item} {h : Here} {k : Open} {ks : List Open} (x : Stands s (holds v) h k ks) where
  abbrev here : State
  here = within (k ∷ ks)

  pub value-late : (h.subkeys ≡ 0 → ⊥) → frame_fault (holds v) here ≡ Err (flaw ValueLate nowhere)
  unfolding is_laid is_timely subkeys_seen
  value-late n = late (holds v) here refl (ne_eqb (length k.subkeys) 0 (λ e. n (sym x.elders.count ∙ e)))

  module _ (z : h.subkeys ≡ 0) where
    timely-here : is_timely (holds v) here ≡ true
    unfolding is_timely subkeys_seen
    timely-here = eq-eqb (length k.subkeys) 0 (x.elders.count ∙ z)

    inside-here : is_inside (holds v) here ≡ true
    unfolding is_inside level_of
    inside-here = le-leb 1 (suc (length ks)) (omega arith)

    single-here : is_single (holds v) here ≡ true
    unfolding is_single values_seen
    single-here = x.new v refl z

    pub value-misnamed : is_named (holds v) ≡ false → frame_fault (holds v) here ≡ Err (flaw NameSize nowhere)
    unfolding is_laid is_sorted
    value-misnamed e = misnamed (holds v) here refl timely-here inside-here refl single-here e

    pub value-large : is_named (holds v) ≡ true → is_small (holds v) ≡ false → frame_fault (holds v) here ≡ Err (flaw DataSize nowhere)
    unfolding is_laid is_sorted
    value-large n e = large (holds v) here refl timely-here inside-here refl single-here n e

    pub value-sound : is_named (holds v) ≡ true → is_small (holds v) ≡ true → frame_fault (holds v) here ≡ Ok tt
    unfolding is_laid is_sorted is_shallow is_few
    value-sound n m =
        passes-sound (holds v) here (record {
          laid = refl;
          timely = timely-here;
          inside = inside-here;
          sorted = refl;
          single = single-here;
          named = n;
          small = m;
          shallow = refl;
          few = refl;
        })

-- ---- a subkey

-- the one before it
pub first_key : (s : List ℕ) (h : Here) (x : List ℕ) (ys : List (List ℕ)) → Elders s h ys → h.subkeys ≡ 0 → is_above x ys ≡ true
unfolding is_above
first_key s h x [] e z = refl
first_key s h x (y ∷ ys) e z = absurd (let c = e.count in omega arith)

pub later-key : (s : List ℕ) (h : Here) (x : List ℕ) (ys : List (List ℕ)) → Elders s h ys → (h.subkeys ≡ 0 → ⊥)
    → is_above x ys ≡ is_before (compare (name_in s h.elder) x)
unfolding is_above
later-key s h x [] e n = absurd (n (sym e.count))
later-key s h x (y ∷ ys) e n = ap (λ (w : List ℕ). is_before (compare w x)) (e.latest y ys refl)

module _ {s : List ℕ} {n : ℕ} {x : List ℕ} {h : Here} {k : Open} {ks : List Open} (p : Stands s (opens n x) h k ks) where
  abbrev at_key : State
  at_key = within (k ∷ ks)

  pub key-unsorted : is_above x k.subkeys ≡ false → frame_fault (opens n x) at_key ≡ Err (flaw Unsorted nowhere)
  unfolding is_laid is_timely is_inside is_over is_sorted subkeys_seen
  key-unsorted e = unsorted (opens n x) at_key refl refl refl e

  module _ (above : is_above x k.subkeys ≡ true) where
    pub key-misnamed : is_named (opens n x) ≡ false → frame_fault (opens n x) at_key ≡ Err (flaw NameSize nowhere)
    unfolding is_laid is_timely is_inside is_over is_sorted is_single subkeys_seen
    key-misnamed e = misnamed (opens n x) at_key refl refl refl above refl e

    module _ (named : is_named (opens n x) ≡ true) where
      pub key-deep : 512 ≤ h.level → frame_fault (opens n x) at_key ≡ Err (flaw Depth nowhere)
      unfolding is_laid is_timely is_inside is_over is_sorted is_single is_small is_shallow subkeys_seen level_of
      key-deep d = let l = p.level in deep (opens n x) at_key refl refl refl above refl named refl (lt-leb (suc (length ks)) 512 (omega arith))

      module _ (level : h.level < 512) where
        shallow-here : is_shallow (opens n x) at_key ≡ true
        unfolding is_shallow level_of
        shallow-here = let l = p.level in le-leb (suc (length ks)) 512 (omega arith)

        pub key-many : 65535 ≤ h.subkeys → frame_fault (opens n x) at_key ≡ Err (flaw Subkeys nowhere)
        unfolding is_laid is_timely is_inside is_over is_sorted is_single is_small is_few subkeys_seen
        key-many d =
            let c = p.elders.count in
            many (opens n x) at_key refl refl refl above refl named refl shallow-here (lt-leb (suc (length k.subkeys)) 65535 (omega arith))

        pub key-sound : h.subkeys < 65535 → frame_fault (opens n x) at_key ≡ Ok tt
        unfolding is_laid is_timely is_inside is_over is_sorted is_single is_small is_few subkeys_seen
        key-sound d =
            let c = p.elders.count in
            passes-sound (opens n x) at_key (record {
              laid = refl;
              timely = refl;
              inside = refl;
              sorted = above;
              single = refl;
              named = named;
              small = refl;
              shallow = shallow-here;
              few = le-leb (suc (length k.subkeys)) 65535 (omega arith);
            })
