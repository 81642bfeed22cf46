-- The search among values: a law for each way out, and what is known where a value is found.
use Prim.Native.Nat.{ℕ}
use native.Mathlib.Omega.{arith}
use mathlib.Core.Path.{◌≡◌, refl, ap, ◌∙◌, subst}
use mathlib.Core.Bool.{Bool, cond}
use mathlib.Core.List.{List, []}
use Rattle.fields.specs.declared.Fault.TheVariants.{NoKey}
use Rattle.fields.specs.declared.Flaw.{Flaw}
use Rattle.fields.specs.declared.Offset.{Offset}
use Rattle.fields.specs.declared.Refusal.{Refusal}
use Rattle.fields.specs.Faults.{flaw, nowhere, refusal_of}
use Rattle.base.specs.Block.{sector, minor_of, bins_data, base_fault}
use Rattle.cells.specs.Rule.{Header}
use Rattle.names.specs.Comparison.{same_name}
use Rattle.records.specs.declared.Key.{Key}
use Rattle.records.specs.Keys.{key_of, codes_of, NameIn}
use Rattle.values.specs.declared.Entries.{Entries}
use Rattle.values.specs.declared.Value.{Value}
use Rattle.values.specs.Entries.{entries_of}
use Rattle.values.specs.Terms.{Room, entered}
use Rattle.values.specs.Records.{value_fault, value_of, valued}
use Rattle.values.specs.Lists.{values_of, value_list_fault, value_entries}
use Rattle.values.proofs.LawsLists.{list-room, list-values}
use Rattle.values.proofs.LawsValues.{name-inside}
use Rattle.values.proofs.Segment_faults.{entered-whole, entered-flawed}
use Rattle.values.proofs.Valued_at.{is_whole, is-flawed}
use Rattle.search.specs.declared.How.{How}
use Rattle.paths.specs.declared.Way.TheVariants as way
use Rattle.paths.specs.Answers.{key_look_by}
use Rattle.search.proofs.Found.{first-at, sound-found, picked}
use Rattle.search.proofs.Turns.{turn-found, turn-faulty, turn_on, turn_end}
use Rattle.records.proofs.LawsKey.{key-room}
use Rattle.values.proofs.Rooms.{entries-length}
use Rattle.paths.proofs.Opens.{look-facts}
use Rattle.lookup.specs.declared.Spot.TheVariants as spot
use Rattle.lookup.specs.Search.{value_named, search_values, lookup_value}
use Rattle.lookup.specs.Answers.{in_key, on_key, value_look_by}
use Rattle.paths.specs.declared.Way.{Way}
use Rattle.std.specs.Prelude.{Err, None, Ok, Option, Result, Some}

-- one value
module _ (d : List ℕ) (minor : ℕ) (x : List ℕ) (v : Offset) where
  pub value-bad : {f : Flaw} → valued (value_fault Header d [] v) (value_of d minor v) ≡ Err f → value_named d minor x v ≡ Err f
  unfolding value_named
  value-bad e = rw (is-flawed (value_fault Header d [] v) _ e)

  module _ {y : Value} (e : valued (value_fault Header d [] v) (value_of d minor v) ≡ Ok y) where
    whole : (value_fault Header d [] v ≡ Ok tt) × (value_of d minor v ≡ y)
    whole = is_whole (value_fault Header d [] v) _ e

    pub value_room : NameIn d y.name
    value_room = rw (← whole.1) (name-inside Header d [] minor v whole.0)

    pub value-is : {t : Bool} → t ≡ same_name (codes_of d y.name) x → value_named d minor x v ≡ cond t (Ok (Some v)) (Ok None)
    unfolding value_named
    value-is p = rw (whole.0, whole.1, ← p)

-- the values of a key
module _ (d : List ℕ) (minor : ℕ) (x : List ℕ) (k : Key) where
  pub list-bad : {f : Flaw} → entered (value_list_fault Header d [] k) (value_entries k) ≡ Err f → lookup_value d minor x k ≡ Err f
  unfolding lookup_value
  list-bad e = rw (entered-flawed (value_list_fault Header d [] k) _ e)

  module _ {e : Entries} (q : entered (value_list_fault Header d [] k) (value_entries k) ≡ Ok e) where
    pub values-room : Room d e
    values-room = let w = entered-whole (value_list_fault Header d [] k) _ q in list-room Header d [] k w.0 e w.1

    pub values-are : lookup_value d minor x k ≡ search_values d minor x (entries_of d e)
    unfolding lookup_value
    values-are = let w = entered-whole (value_list_fault Header d [] k) _ q in rw (w.0, list-values Header d [] k w.0 e w.1)

  -- a value that is found has passed its tests
  value-tested : {v : Offset} → lookup_value d minor x k ≡ Ok (Some v) → value_fault Header d [] v ≡ Ok tt
  unfolding lookup_value value_named
  value-tested e =
      let c = first-at (value_named d minor x) (values_of d k) (sound-found (value_list_fault Header d [] k) _ e).1 in
      let s = sound-found (value_fault Header d [] c.0) _ c.1 in
      subst (λ (y : Offset). value_fault Header d [] y ≡ Ok tt) (picked (same_name (codes_of d (value_of d minor c.0).name) x) c.0 s.1).1 s.0

-- what is found in a key
in-found : (o : Offset) (l : Result (Option Offset) Flaw) {k v : Offset} → in_key o l ≡ Ok (spot.Found k v) → (o ≡ k) × (l ≡ Ok (Some v))
in-found o (Ok (Some u)) e = (cc, cc)
in-found o (Ok None) e = absurd (let z : ◌≡◌ {A = ℕ} 0 1 = cc in omega arith)
in-found o (Err f) e = absurd (let z : ◌≡◌ {A = ℕ} 0 1 = cc in omega arith)

-- in a hive
module _ (how : How) (h us x : List ℕ) where
  pub value-faulty : {r : Refusal} → key_look_by how h us ≡ Err r → value_look_by how h us x ≡ Err r
  unfolding value_look_by
  value-faulty e = rw e

  pub value-keyless : {k : Offset} → key_look_by how h us ≡ Ok (way.Missing k) → value_look_by how h us x ≡ Err (refusal_of k (flaw NoKey nowhere))
  unfolding value_look_by
  value-keyless e = rw e

  pub value-below : {o : Offset} → key_look_by how h us ≡ Ok (way.Found o)
      → value_look_by how h us x ≡ in_key o (lookup_value (bins_data h) (minor_of (sector h)) x (key_of (bins_data h) o))
  unfolding value_look_by
  value-below e = rw e

  -- the key whose values were searched, and the search
  pub value-key : {k v : Offset} → value_look_by how h us x ≡ Ok (spot.Found k v)
      → (key_look_by how h us ≡ Ok (way.Found k)) × (lookup_value (bins_data h) (minor_of (sector h)) x (key_of (bins_data h) k) ≡ Ok (Some v))
  unfolding value_look_by
  value-key {k} {v} e = by (key_look_by how h us) refl e
    where
      by : (w : Result Way Refusal) → key_look_by how h us ≡ w → on_key w (λ o. lookup_value (bins_data h) (minor_of (sector h)) x (key_of (bins_data h) o)) ≡ Ok (spot.Found k v)
          → (key_look_by how h us ≡ Ok (way.Found k)) × (lookup_value (bins_data h) (minor_of (sector h)) x (key_of (bins_data h) k) ≡ Ok (Some v))
      by (Ok (way.Found o)) p q =
          let f = in-found o (lookup_value (bins_data h) (minor_of (sector h)) x (key_of (bins_data h) o)) q in
          (p ∙ ap (λ (x : Offset). Ok (way.Found x)) f.0, subst (λ (y : Offset). lookup_value (bins_data h) (minor_of (sector h)) x (key_of (bins_data h) y) ≡ Ok (Some v)) f.0 f.1)
      by (Ok (way.Missing y)) p q = absurd (let z : ◌≡◌ {A = ℕ} 0 1 = cc in omega arith)
      by (Err f) p q = absurd (let z : ◌≡◌ {A = ℕ} 0 1 = cc in omega arith)

  pub value-facts : {k v : Offset} → value_look_by how h us x ≡ Ok (spot.Found k v) → (base_fault h ≡ Ok tt) × (value_fault Header (bins_data h) [] v ≡ Ok tt)
  value-facts {k} {v} e =
      let w = value-key e in
      ((look-facts how h us w.0).0, value-tested (bins_data h) (minor_of (sector h)) x (key_of (bins_data h) k) w.1)

-- the ways out, for the tactics
pub ruleset value_ways = (value-bad, value_room, value-is)

pub ruleset list_ways = (list-bad, values-room, values-are)

pub ruleset look_ways = (value-faulty, value-keyless, value-below, look-facts, key-room)

pub ruleset turn_ways = (turn-found, turn-faulty, turn_on, turn_end, entries-length)
