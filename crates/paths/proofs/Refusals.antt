-- Every refusal of the lookup of a key says why.
use Prim.Native.Nat.{ℕ}
use native.Mathlib.Omega.{arith}
use mathlib.Core.Path.{◌≡◌, refl, sym, subst}
use mathlib.Core.List.{List, [], ◌∷◌}
use Rattle.fields.specs.declared.Fault.TheVariants.{NoKey}
use Rattle.fields.specs.declared.Flaw.{Flaw}
use Rattle.fields.specs.declared.Offset.{Offset}
use Rattle.fields.specs.declared.Refusal.{Refusal}
use Rattle.fields.specs.Faults.{flaw, nowhere, no_key, refusal_of, Because, Verdict}
use Rattle.fields.proofs.Every.{Every, every-unless, every-next}
use Rattle.base.specs.Block.{bins_data, base_fault}
use Rattle.base.proofs.Refusals.{base-refuses}
use Rattle.cells.specs.Rule.{Header}
use Rattle.cells.proofs.Refusals.{Ruled, by-header}
use Rattle.records.specs.declared.Child.{Child}
use Rattle.records.specs.Keys.{key_fault, key_of}
use Rattle.values.specs.Refused.{a_key, Fit}
use Rattle.values.proofs.Refusals.{key-fit, key-unfit}
use Rattle.tree.specs.Tree.{hive_of}
use Rattle.search.specs.declared.How.{How}
use Rattle.search.specs.Quick.{below_by}
use Rattle.search.proofs.Quick_found.{by-tested, by-found, by-each}
use Rattle.search.proofs.Refusals.{Each}
use Rattle.paths.specs.declared.Way.TheVariants as way
use Rattle.paths.specs.Paths.{is_path, path_fault, parts_of}
use Rattle.paths.specs.Descent.{on_found, descend_by, opened, lookup_key_by}
use Rattle.paths.specs.Answers.{ask_fault, open_fault, key_look_by, key_found, find_by}
use Rattle.paths.specs.Children.{is_step, child_look_by, child_by}
use Rattle.paths.specs.Refused.{OnWay, the-root, a-child, OfKeyBy, of-base, no-path, of-root, of-lists, no-key, OfChildBy, by-base, no_step, by-given, by-lists, no-child}
use Rattle.paths.specs.declared.Way.{Way}
use Rattle.std.specs.Prelude.{Err, None, Ok, Option, Result, Some}

-- ---- all refusals of a way
module _ (P : Offset → Flaw → Type 0) where
  abbrev pub Ends : Result Way Refusal → Type 0
  Ends w = (r : Refusal) → key_found w ≡ Err r → Because P r

  ends_found : (o : Offset) → Ends (Ok (way.Found o))
  ends_found o r e = absurd (let z : ◌≡◌ {A = ℕ} 0 1 = cc in omega arith)

  ends-opened : (v : Verdict) (w : Result Way Refusal) → Every (P no_key) v → (v ≡ Ok tt → Ends w) → Ends (opened v w)
  ends-opened (Ok tt) w p q r e = q refl r e
  ends-opened (Err g) w p q r e = (no_key, g, let z : refusal_of no_key g ≡ r = cc in sym z, p g refl)

  ends_on : (k : Offset) (l : Result (Option Offset) Flaw) (go : Offset → Result Way Refusal) → Each (P k) l → (l ≡ Ok None → P k (flaw NoKey nowhere)) → ((o : Offset) → l ≡ Ok (Some o) → Ends (go o))
      → Ends (on_found k l go)
  unfolding on_found
  ends_on k (Ok (Some o)) go p s q r e = q o refl r e
  ends_on k (Ok None) go p s q r e = (k, flaw NoKey nowhere, let z : refusal_of k (flaw NoKey nowhere) ≡ r = cc in sym z, s refl)
  ends_on k (Err g) go p s q r e = (k, g, let z : refusal_of k g ≡ r = cc in sym z, p g refl)

-- ---- the way
module _ (how : How) (h us : List ℕ) where
  ruled : Ruled Header (bins_data h) []
  ruled = by-header (bins_data h) []

  descend-each : (k : Offset) (xs : List (List ℕ)) → OnWay h us xs k → Ends (OfKeyBy how h us) (descend_by how (bins_data h) k xs)
  unfolding descend_by
  descend-each k [] w = ends_found (OfKeyBy how h us) k
  descend-each k (x ∷ xs) w =
      ends_on (OfKeyBy how h us) k (below_by how (bins_data h) x (key_of (bins_data h) k)) _ (λ f e. of-lists w (by-each (bins_data h) x how k f e)) (λ e. no-key w e)
      (λ o e. let c = by-found (bins_data h) x how k e in
      let g = key-fit Header (bins_data h) [] ruled o (by-tested (bins_data h) x how (key_of (bins_data h) k) e) in
      descend-each o xs (onto c.0 o (sym c.2) (λ y. a-child w c.1 c.3 y) g))
    where
      onto : (c : Child) (o : Offset) → c.at ≡ o → (Fit Header (bins_data h) a_key c.at → OnWay h us xs c.at) → Fit Header (bins_data h) a_key o → OnWay h us xs o
      onto c o e f g = subst (λ (y : Offset). OnWay h us xs y) e (f (subst (λ (y : Offset). Fit Header (bins_data h) a_key y) (sym e) g))

  open-each : Every (OfKeyBy how h us no_key) (open_fault h us)
  unfolding open_fault path_fault
  open-each =
      every-next (OfKeyBy how h us no_key) (base_fault h) _ (λ f e. of-base (base-refuses h f e))
      (λ s. every-unless (OfKeyBy how h us no_key) (is_path us) _ (λ e. no-path e))

  pub look-each : Ends (OfKeyBy how h us) (key_look_by how h us)
  unfolding key_look_by lookup_key_by
  look-each =
      ends-opened (OfKeyBy how h us) (open_fault h us) _ open-each
      (λ a. ends-opened (OfKeyBy how h us) (key_fault Header (bins_data h) [] (hive_of h).root) _
      (λ f e. of-root (key-unfit Header (bins_data h) [] ruled (hive_of h).root f e))
      (λ b. descend-each (hive_of h).root (parts_of us) (the-root (key-fit Header (bins_data h) [] ruled (hive_of h).root b))))

  -- find_key and quick_key
  pub find-refuses : {r : Refusal} → find_by how h us ≡ Err r → Because (OfKeyBy how h us) r
  unfolding find_by
  find-refuses {r} = look-each r

-- ---- a step
module _ (how : How) (h : List ℕ) (o : Offset) (x : List ℕ) where
  ask-each : Every (OfChildBy how h o x no_key) (ask_fault h (is_step x))
  unfolding ask_fault
  ask-each =
      every-next (OfChildBy how h o x no_key) (base_fault h) _ (λ f e. by-base (base-refuses h f e))
      (λ s. every-unless (OfChildBy how h o x no_key) (is_step x) _ (λ e. no_step e))

  -- child_of and quick_child_of
  pub child-refuses : {r : Refusal} → child_by how h o x ≡ Err r → Because (OfChildBy how h o x) r
  unfolding child_by child_look_by lookup_key_by descend_by
  child-refuses {r} =
      let P = OfChildBy how h o x in
      let d = bins_data h in
      ends-opened P (ask_fault h (is_step x)) _ ask-each
      (λ a. ends-opened P (key_fault Header d [] o) _ (λ f e. by-given (key-unfit Header d [] (by-header d []) o f e))
      (λ b. let g = key-fit Header d [] (by-header d []) o b in
      ends_on P o (below_by how d x (key_of d o)) _ (λ f e. by-lists g (by-each d x how o f e)) (λ e. no-child g e) (λ c e. ends_found P c))) r
