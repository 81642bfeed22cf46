-- Below a key that stands, a search among its values finds the first of that name, and meets no fault.
use Prim.Native.Nat.{ℕ}
use native.Mathlib.Omega.{arith}
use mathlib.Core.Path.{◌≡◌, refl, sym, ◌∙◌, subst}
use mathlib.Core.Bool.{Bool, true, false, cond}
use mathlib.Core.Logic.{◌↔◌}
use mathlib.Core.List.{List, [], ◌∷◌, Memᴰ}
use Rattle.fields.specs.declared.Offset.{Offset}
use Rattle.fields.specs.declared.Flaw.{Flaw}
use Rattle.fields.proofs.Bools.{never}
use Rattle.fields.proofs.Firsts.{both}
use Rattle.cells.specs.Rule.{Header}
use Rattle.cells.specs.Tiled.{BinsTile}
use Rattle.cells.proofs.Mapped.{header-sound}
use Rattle.names.specs.Comparison.{same_name}
use Rattle.names.proofs.LawsOrder.{name-same, same-name}
use Rattle.records.specs.declared.Key.{Key}
use Rattle.records.specs.Keys.{codes_of}
use Rattle.values.specs.Records.{value_fault, data_in, value_of}
use Rattle.values.specs.Segments.{data_fault}
use Rattle.values.specs.Lists.{values_of, value_list_fault, whole_value_fault, values_fault}
use Rattle.tree.specs.WellFormed.{ValuesStand}
use Rattle.tree.proofs.Stands.{of-value, of_values}
use Rattle.search.specs.Search.{on_sound, or_else, first_of}
use Rattle.lookup.specs.Search.{value_named, search_values, lookup_value}
use Rattle.lookup.specs.Reach.{FirstNamed, first, later}
use Rattle.fields.specs.Faults.{Verdict}
use Rattle.std.specs.Prelude.{Err, None, Ok, Option, Result, Some}

module _ (d : List ℕ) (minor : ℕ) (x : List ℕ) where
  -- one value, where its record is good
  named-is : (v : Offset) → value_fault Header d [] v ≡ Ok tt → value_named d minor x v ≡ cond (same_name (codes_of d (value_of d minor v).name) x) (Ok (Some v)) (Ok None)
  unfolding value_named
  named-is v e = rw e

  first_found : (vs : List Offset) → ((v : Offset) → Memᴰ v vs → value_fault Header d [] v ≡ Ok tt) → {v : Offset} → FirstNamed d minor x vs v
      → search_values d minor x vs ≡ Ok (Some v)
  unfolding first_of or_else
  first_found [] ok {v = v} x3 = elim x3 [ ]
  first_found (u ∷ vs) ok (first p) = rw (named-is u (ok u (Memᴰ.head refl)), name-same _ _ p)
  first_found (u ∷ vs) ok (later p f) =
      rw (named-is u (ok u (Memᴰ.head refl)), not_named) (first_found vs (λ v i. ok v (Memᴰ.tail i)) f)
    where
      not_named : same_name (codes_of d (value_of d minor u).name) x ≡ false
      not_named = by (same_name (codes_of d (value_of d minor u).name) x) refl
        where
          by : (t : Bool) → same_name (codes_of d (value_of d minor u).name) x ≡ t → same_name (codes_of d (value_of d minor u).name) x ≡ false
          by true e = absurd (p (same-name _ _ e))
          by false e = e

  pub found_first : (vs : List Offset) {v : Offset} → search_values d minor x vs ≡ Ok (Some v) → FirstNamed d minor x vs v
  unfolding first_of or_else value_named
  found_first [] e = absurd (let z : ◌≡◌ {A = ℕ} 0 1 = cc in omega arith)
  found_first (u ∷ vs) {v} e = by (found_first vs) (value_fault Header d [] u) (same_name (codes_of d (value_of d minor u).name) x) refl e
    where
      by : (search_values d minor x vs ≡ Ok (Some v) → FirstNamed d minor x vs v) → (w : Verdict) (t : Bool) → same_name (codes_of d (value_of d minor u).name) x ≡ t
          → or_else (on_sound w (cond t (Ok (Some u)) (Ok None))) (search_values d minor x vs) ≡ Ok (Some v) → FirstNamed d minor x (u ∷ vs) v
      by rest (Ok tt) true p q = let s : u ≡ v = cc in subst (λ (y : Offset). FirstNamed d minor x (u ∷ vs) y) s (first (same-name _ _ p))
      by rest (Ok tt) false p q = later (λ s. never _ (name-same _ _ s) p) (rest q)
      by rest (Err f) t p q = absurd (let z : ◌≡◌ {A = ℕ} 0 1 = cc in omega arith)

  no-fault : (vs : List Offset) → ((v : Offset) → Memᴰ v vs → value_fault Header d [] v ≡ Ok tt) → {f : Flaw} → search_values d minor x vs ≡ Err f → ⊥
  unfolding first_of or_else
  no-fault [] ok e = let z : ◌≡◌ {A = ℕ} 0 1 = cc in omega arith
  no-fault (u ∷ vs) ok {f} e =
      by (no-fault vs (λ v i. ok v (Memᴰ.tail i))) (same_name (codes_of d (value_of d minor u).name) x) (rw (named-is u (ok u (Memᴰ.head refl))) at e)
    where
      by : (search_values d minor x vs ≡ Err f → ⊥) → (t : Bool) → or_else (cond t (Ok (Some u)) (Ok None)) (search_values d minor x vs) ≡ Err f → ⊥
      by rest true e = let z : ◌≡◌ {A = ℕ} 0 1 = cc in omega arith
      by rest false e = rest e

module _ (d : List ℕ) (tiles : BinsTile d 0) (minor : ℕ) (k : Key) (s : ValuesStand d minor k) where
  pub list-good : value_list_fault Header d [] k ≡ Ok tt
  unfolding values_fault
  list-good = (both _ _ (of_values Header d [] (header-sound d tiles []) minor k s)).0

  pub each-good : (v : Offset) → Memᴰ v (values_of d k) → whole_value_fault Header d [] minor v ≡ Ok tt
  each-good v i = of-value Header d [] (header-sound d tiles []) minor v (s.each v i)

  pub value-good : (v : Offset) → Memᴰ v (values_of d k) → value_fault Header d [] v ≡ Ok tt
  unfolding whole_value_fault
  value-good v i = (both _ _ (each-good v i)).0

  -- the data of each value are whole
  pub data-good : (v : Offset) → Memᴰ v (values_of d k) → data_fault Header d [] (data_in d minor v) ≡ Ok tt
  unfolding whole_value_fault
  data-good v i = (both (value_fault Header d [] v) _ (each-good v i)).1

  search_is : (x : List ℕ) → lookup_value d minor x k ≡ search_values d minor x (values_of d k)
  unfolding lookup_value
  search_is x = rw list-good

  -- the first value of that name is found
  pub value-exactly : (x : List ℕ) (v : Offset) → (lookup_value d minor x k ≡ Ok (Some v)) ↔ FirstNamed d minor x (values_of d k) v
  value-exactly x v =
      (λ e. found_first d minor x (values_of d k) (sym (search_is x) ∙ e), λ f. search_is x ∙ first_found d minor x (values_of d k) value-good f)

  pub value_none : (x : List ℕ) → ((v : Offset) → FirstNamed d minor x (values_of d k) v → ⊥) → lookup_value d minor x k ≡ Ok None
  value_none x f = by (lookup_value d minor x k) refl
    where
      by : (l : Result (Option Offset) Flaw) → lookup_value d minor x k ≡ l → lookup_value d minor x k ≡ Ok None
      by (Ok (Some v)) e = absurd (f v ((value-exactly x v).0 e))
      by (Ok None) e = e
      by (Err g) e = absurd (no-fault d minor x (values_of d k) value-good (sym (search_is x) ∙ e))
