-- A path's answer is that of its steps, one after the other from the root.
use Prim.Native.Nat.{ℕ, ◌<◌}
use native.Mathlib.Omega.{arith}
use mathlib.Core.Path.{◌≡◌, refl, sym, ap, ◌∙◌}
use mathlib.Core.Bool.{Bool, true, false, cond}
use mathlib.Core.List.{List, [], ◌∷◌, ◌++◌}
use lib.Dec.{eqb}
use lib.ListN.{length, length-append}
use borrow.Author.Tests.{le-leb, leb-true}
use Rattle.fields.specs.declared.Flaw.{Flaw}
use Rattle.fields.specs.declared.Offset.{Offset}
use Rattle.fields.specs.declared.Refusal.{Refusal}
use Rattle.fields.specs.Faults.{no_key, refusal_of, Verdict}
use Rattle.fields.proofs.Bools.{and-inv}
use Rattle.base.specs.Block.{bins_data, base_fault}
use Rattle.cells.specs.Rule.{Header}
use Rattle.names.specs.Codes.{has_code, backslash}
use Rattle.records.specs.Keys.{key_fault, key_of}
use Rattle.tree.specs.Tree.{hive_of}
use Rattle.search.specs.declared.How.{How}
use Rattle.search.specs.Quick.{below_by}
use Rattle.search.proofs.Quick_found.{by-tested}
use Rattle.paths.specs.declared.Way.TheVariants as way
use Rattle.paths.specs.Paths.{join_first, split, parts_of, is_part, are_parts, is_path}
use Rattle.paths.specs.Descent.{on_found, descend_by, opened, lookup_key_by}
use Rattle.paths.specs.Answers.{ask_fault, key_look_by, key_found, find_by}
use Rattle.paths.specs.Children.{is_step, child_by, on_key, steps_by, joined_to}
use Rattle.paths.proofs.Parts.{split-is}
use Rattle.paths.proofs.Splits.{PartNames, no_names, names-on, split-last}
use Rattle.paths.proofs.Opens.{ask-base, ask-good, ask-bad, open_is, look_stop, look-on}
use Rattle.paths.proofs.StepTests.{step-name, name-step, step-parts, child-on}
use Rattle.std.specs.Prelude.{Err, None, Ok, Option, Result, Some}

-- ---- each part of a path is a name for a step

data Plain : List (List ℕ) → Type 0 where
  none : Plain []
  plain : {p : List ℕ} {ps : List (List ℕ)} → has_code backslash p ≡ false → Plain ps → Plain (p ∷ ps)

plain-first : (u : ℕ) (ps : List (List ℕ)) → eqb u backslash ≡ false → Plain ps → Plain (join_first u ps)
unfolding has_code
plain-first u [] e none = plain {p = u ∷ []} (rw e) none
plain-first u (p ∷ ps) e (plain q r) = plain {p = u ∷ p} (rw e q) r

split_plain : (us : List ℕ) → Plain (split us)
unfolding split has_code
split_plain [] = plain refl none
split_plain (u ∷ us) = by (eqb u backslash) refl (split_plain us)
  where
    by : (t : Bool) → eqb u backslash ≡ t → Plain (split us) → Plain (cond (eqb u backslash) ([] ∷ split us) (join_first u (split us)))
    by true e p = rw e (plain refl p)
    by false e p = rw e (plain-first u (split us) e p)

parts-plain : (us : List ℕ) → Plain (parts_of us)
unfolding parts_of
parts-plain [] = none
parts-plain (u ∷ us) = split_plain (u ∷ us)

part-names : (ps : List (List ℕ)) → Plain ps → are_parts ps ≡ true → PartNames ps
unfolding are_parts is_part
part-names [] none e = no_names
part-names (p ∷ ps) (plain q r) e =
    let w = and-inv (is_part p) _ e in
    let s = and-inv _ _ w.0 in
    names-on (record { some = leb-true 1 (length p) s.0; most = leb-true (length p) 255 s.1; plain = q }) (part-names ps r w.1)

path_names : (us : List ℕ) → is_path us ≡ true → PartNames (parts_of us)
unfolding is_path
path_names us e = part-names (parts_of us) (parts-plain us) (and-inv (are_parts (parts_of us)) _ e).0

-- ---- from a key that was tested

steps-refused : (how : How) (h : List ℕ) (r : Refusal) (xs : List (List ℕ)) → steps_by how h (Err r) xs ≡ Err r
unfolding steps_by
steps-refused how h r [] = refl
steps-refused how h r (x ∷ xs) = steps-refused how h r xs

-- a step is one more step
steps-last : (how : How) (h : List ℕ) (a : Result Offset Refusal) (xs : List (List ℕ)) (x : List ℕ)
    → steps_by how h a (xs ++ (x ∷ [])) ≡ on_key (steps_by how h a xs) (λ o. child_by how h o x)
unfolding steps_by
steps-last how h a [] x = refl
steps-last how h a (y ∷ xs) x = steps-last how h (on_key a (λ o. child_by how h o y)) xs x

-- the way of one part
one-part : (how : How) (d : List ℕ) (o : Offset) (x : List ℕ) → key_fault Header d [] o ≡ Ok tt
    → lookup_key_by how d o (x ∷ []) ≡ on_found o (below_by how d x (key_of d o)) (λ (x : Offset). Ok (way.Found x))
unfolding lookup_key_by descend_by
one-part how d o x t = rw t

module _ (how : How) (h : List ℕ) (base : base_fault h ≡ Ok tt) where
  -- a step searches below the key, which is under examination
  pub child-is : (o : Offset) → key_fault Header (bins_data h) [] o ≡ Ok tt → (x : List ℕ) → is_step x ≡ true
      → child_by how h o x ≡ key_found (on_found o (below_by how (bins_data h) x (key_of (bins_data h) o)) (λ (x : Offset). Ok (way.Found x)))
  unfolding child_by
  child-is o t x p = ap key_found (child-on how h o x (ask-good h (is_step x) base p) ∙ one-part how (bins_data h) o x t)

  descend-steps : (xs : List (List ℕ)) → PartNames xs → (o : Offset) → key_fault Header (bins_data h) [] o ≡ Ok tt
      → key_found (descend_by how (bins_data h) o xs) ≡ steps_by how h (Ok o) xs
  unfolding descend_by steps_by on_found
  descend-steps [] n o t = refl
  descend-steps (x ∷ xs) (names-on p n) o t =
      by (below_by how (bins_data h) x (key_of (bins_data h) o)) refl (child-is o t x (name-step x p)) (descend-steps xs n)
    where
      by : (l : Result (Option Offset) Flaw) → below_by how (bins_data h) x (key_of (bins_data h) o) ≡ l → child_by how h o x ≡ key_found (on_found o l (λ (x : Offset). Ok (way.Found x)))
          → ((c : Offset) → key_fault Header (bins_data h) [] c ≡ Ok tt → key_found (descend_by how (bins_data h) c xs) ≡ steps_by how h (Ok c) xs)
          → key_found (on_found o l (λ c. descend_by how (bins_data h) c xs)) ≡ steps_by how h (child_by how h o x) xs
      by (Ok (Some c)) q e rest = rest c (by-tested (bins_data h) x how (key_of (bins_data h) o) q) ∙ ap (λ (a : Result Offset Refusal). steps_by how h a xs) (sym e)
      by (Ok None) q e rest = sym (ap (λ (a : Result Offset Refusal). steps_by how h a xs) e ∙ steps-refused how h _ xs)
      by (Err f) q e rest = sym (ap (λ (a : Result Offset Refusal). steps_by how h a xs) e ∙ steps-refused how h _ xs)

  root-steps : (v : Verdict) → key_fault Header (bins_data h) [] (hive_of h).root ≡ v → (xs : List (List ℕ)) → PartNames xs
      → key_found (opened v (descend_by how (bins_data h) (hive_of h).root xs)) ≡ steps_by how h (key_found (opened v (Ok (way.Found (hive_of h).root)))) xs
  root-steps (Ok tt) t xs n = descend-steps xs n (hive_of h).root t
  root-steps (Err f) t xs n = sym (steps-refused how h (refusal_of no_key f) xs)

-- ---- a path

module _ (how : How) (h : List ℕ) where
  -- where 1 to 7 pass, and 16
  look_is : (us : List ℕ) → base_fault h ≡ Ok tt → is_path us ≡ true
      → key_look_by how h us ≡ opened (key_fault Header (bins_data h) [] (hive_of h).root) (descend_by how (bins_data h) (hive_of h).root (parts_of us))
  unfolding lookup_key_by
  look_is us b p = look-on how h us (open_is h us ∙ ask-good h (is_path us) b p)

  look-bad : (us : List ℕ) {f : Flaw} → ask_fault h (is_path us) ≡ Err f → find_by how h us ≡ Err (refusal_of no_key f)
  unfolding find_by
  look-bad us e = ap key_found (look_stop how h us (open_is h us ∙ e))

  -- of the empty path
  root-alone : base_fault h ≡ Ok tt → find_by how h [] ≡ key_found (opened (key_fault Header (bins_data h) [] (hive_of h).root) (Ok (way.Found (hive_of h).root)))
  unfolding find_by is_path parts_of are_parts descend_by
  root-alone b = ap key_found (look_is [] b refl)

  -- the answer of a path is that of a step for each of its parts, from what the empty path answers
  pub path-steps : (us : List ℕ) → is_path us ≡ true → find_by how h us ≡ steps_by how h (find_by how h []) (parts_of us)
  unfolding find_by
  path-steps us p = by (base_fault h) refl
    where
      steps : Result Offset Refusal → Result Offset Refusal
      steps a = steps_by how h a (parts_of us)

      by : (v : Verdict) → base_fault h ≡ v → find_by how h us ≡ steps_by how h (find_by how h []) (parts_of us)
      by (Ok tt) b =
          ap key_found (look_is us b p) ∙ root-steps how h b (key_fault Header (bins_data h) [] (hive_of h).root) refl (parts_of us) (path_names us p)
          ∙ sym (ap steps (root-alone b))
      by (Err f) b =
          look-bad us (ask-base h (is_path us) b) ∙ sym (ap steps (look-bad [] (ask-base h (is_path []) b)) ∙ steps-refused how h _ (parts_of us))

-- ---- one part more

split-append : (us x : List ℕ) → split (us ++ (backslash ∷ x)) ≡ split us ++ split x
unfolding split
split-append [] x = refl
split-append (u ∷ us) x = by (eqb u backslash) refl (split-append us x)
  where
    first : join_first u (split us ++ split x) ≡ join_first u (split us) ++ split x
    first = rw (split-is us)

    by : (t : Bool) → eqb u backslash ≡ t → split (us ++ (backslash ∷ x)) ≡ split us ++ split x
        → cond (eqb u backslash) ([] ∷ split (us ++ (backslash ∷ x))) (join_first u (split (us ++ (backslash ∷ x))))
        ≡ cond (eqb u backslash) ([] ∷ split us) (join_first u (split us)) ++ split x
    by true e q = rw (e, q)
    by false e q = rw (e, q) first

parts-append : (ps : List (List ℕ)) (x : List ℕ) → is_part x ≡ true → are_parts (ps ++ (x ∷ [])) ≡ are_parts ps
unfolding are_parts
parts-append [] x e = rw e
parts-append (p ∷ ps) x e = rw (parts-append ps x e)

module _ (x : List ℕ) (step : is_step x ≡ true) where
  step-split : split x ≡ x ∷ []
  step-split = split-last x (step-name x step).plain

  pub joined-parts : (us : List ℕ) → parts_of (joined_to us x) ≡ parts_of us ++ (x ∷ [])
  unfolding joined_to parts_of
  joined-parts [] = step-parts x step
  joined-parts (u ∷ us) = split-append (u ∷ us) x ∙ ap (λ (l : List (List ℕ)). split (u ∷ us) ++ l) step-split

  module _ (us : List ℕ) (few : length (parts_of us) < 512) where
    pub joined-path : is_path (joined_to us x) ≡ is_path us
    unfolding is_path is_step
    joined-path =
        let n = length-append (parts_of us) (x ∷ []) in
        let s = le-leb (length (parts_of us ++ (x ∷ []))) 512 (omega arith) in
        let t = le-leb (length (parts_of us)) 512 (omega arith) in
        rw (joined-parts us, parts-append (parts_of us) x (and-inv (is_part x) _ step).0, s, t)

    -- a path with one part more is one step more; what is refused on the way to the key is refused as before
    pub step-last : (how : How) (h : List ℕ) → find_by how h (joined_to us x) ≡ on_key (find_by how h us) (λ o. child_by how h o x)
    step-last how h = by (is_path us) refl
      where
        go : Offset → Result Offset Refusal
        go o = child_by how h o x

        bad : (f : Flaw) → ask_fault h (is_path us) ≡ Err f → find_by how h (joined_to us x) ≡ on_key (find_by how h us) go
        bad f e =
            look-bad how h (joined_to us x) (ap (ask_fault h) joined-path ∙ e) ∙ sym (ap (λ (a : Result Offset Refusal). on_key a go) (look-bad how h us e))

        by : (t : Bool) → is_path us ≡ t → find_by how h (joined_to us x) ≡ on_key (find_by how h us) go
        by true e =
            path-steps how h (joined_to us x) (joined-path ∙ e) ∙ ap (steps_by how h (find_by how h [])) (joined-parts us)
            ∙ steps-last how h (find_by how h []) (parts_of us) x ∙ sym (ap (λ (a : Result Offset Refusal). on_key a go) (path-steps how h us e))
        by false e = either (base_fault h) refl
          where
            either : (v : Verdict) → base_fault h ≡ v → find_by how h (joined_to us x) ≡ on_key (find_by how h us) go
            either (Ok tt) b = bad _ (ask-bad h (is_path us) b e)
            either (Err f) b = bad f (ask-base h (is_path us) b)
