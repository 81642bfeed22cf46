-- A name that a path can have as one part, and a step below a key: a law for each way out.
use Prim.Native.Nat.compare
use Prim.Native.Nat.{ℕ, suc, ◌+◌, ◌<◌, ◌≤◌}
use native.Mathlib.Nat.{zero-add}
use native.Mathlib.Omega.{arith}
use mathlib.Core.Path.{◌≡◌, refl}
use mathlib.Core.Bool.{Bool, true, false, not, cond, ◌||◌}
use mathlib.Core.List.{List, [], ◌∷◌}
use lib.Dec.{eqb}
use lib.ListN.{length, drop}
use borrow.Author.Tests.{ne_eqb, le-leb, lt-leb, leb-true, not-true}
use Rattle.fields.specs.declared.Flaw.{Flaw}
use Rattle.fields.specs.declared.Offset.{Offset}
use Rattle.fields.specs.Faults.{no_key, refusal_of}
use Rattle.fields.proofs.Bools.{and-inv, and_both}
use Rattle.base.specs.Block.{bins_data}
use Rattle.names.specs.Codes.{has_code, backslash}
use Rattle.search.specs.declared.How.{How}
use Rattle.paths.specs.Paths.{first_part, parts_of, is_part, is_path}
use Rattle.paths.specs.Descent.{lookup_key_by}
use Rattle.paths.specs.Answers.{ask_fault}
use Rattle.paths.specs.Reach.{joined_by}
use Rattle.paths.specs.Children.{is_step, child_look_by}
use Rattle.paths.proofs.Splits.{PartName, no_names, names-on, parts-joined, path-joined}
use Rattle.std.specs.Prelude.{Err, Ok}

-- a name without a backslash is its own first part
whole_part : (x : List ℕ) → eqb (length (first_part x)) (length x) ≡ not (has_code backslash x)
unfolding first_part has_code
whole_part [] = refl
whole_part (u ∷ x) = by (eqb u backslash) refl (whole_part x)
  where
    by : (t : Bool) → eqb u backslash ≡ t → eqb (length (first_part x)) (length x) ≡ not (has_code backslash x)
        → eqb (length (cond (eqb u backslash) [] (u ∷ first_part x))) (length (u ∷ x)) ≡ not (eqb u backslash || has_code backslash x)
    by true e q = rw e (ne_eqb 0 (suc (length x)) (λ z. omega arith))
    by false e q = rw (e, compare.suc-suc) q

module _ (x : List ℕ) where
  pub step-empty : length x ≡ 0 → is_step x ≡ false
  unfolding is_step is_part
  step-empty e = rw e

  pub step-long : 255 < length x → is_step x ≡ false
  unfolding is_step is_part
  step-long p = rw (le-leb 1 (length x) (omega arith), lt-leb (length x) 255 p)

  pub step-plain : (length x ≡ 0 → ⊥) → length x ≤ 255 → {n : ℕ} → n ≡ 0 + length (first_part (drop 0 x)) → eqb n (length x) ≡ is_step x
  unfolding is_step is_part
  step-plain f p e = rw (e, zero-add, le-leb 1 (length x) (omega arith), le-leb (length x) 255 p) (whole_part x)

  -- the same as of a name in a list of names
  pub step-name : is_step x ≡ true → PartName x
  unfolding is_step is_part
  step-name e =
      let p = and-inv (is_part x) _ e in
      let q = and-inv _ _ p.0 in
      record { some = leb-true 1 (length x) q.0; most = leb-true (length x) 255 q.1; plain = not-true (has_code backslash x) p.1 }

  pub name-step : PartName x → is_step x ≡ true
  unfolding is_step is_part
  name-step p = and_both (and_both (le-leb 1 (length x) p.some) (le-leb (length x) 255 p.most)) (rw p.plain)

  -- it is a path of one part
  module _ (e : is_step x ≡ true) where
    pub step-parts : parts_of x ≡ x ∷ []
    unfolding joined_by
    step-parts = parts-joined (x ∷ []) (names-on (step-name e) no_names)

    pub step-path : is_path x ≡ true
    unfolding joined_by
    step-path = path-joined (x ∷ []) (names-on (step-name e) no_names) (omega arith)

-- the child of a key
module _ (how : How) (h : List ℕ) (o : Offset) (x : List ℕ) where
  pub child-stop : {f : Flaw} → ask_fault h (is_step x) ≡ Err f → child_look_by how h o x ≡ Err (refusal_of no_key f)
  unfolding child_look_by
  child-stop e = rw e

  pub child-on : ask_fault h (is_step x) ≡ Ok tt → child_look_by how h o x ≡ lookup_key_by how (bins_data h) o (x ∷ [])
  unfolding child_look_by
  child-on e = rw e
