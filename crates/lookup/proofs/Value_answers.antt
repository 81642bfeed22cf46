-- The answers of the value calls: a law for each way out, and what is known where one answers.
use Prim.Native.Nat.{ℕ}
use mathlib.Core.Path.{◌≡◌, refl, sym, ap, ap₂, ◌∙◌}
use mathlib.Core.List.{List, []}
use Rattle.fields.specs.declared.Fault.TheVariants.{NoValue}
use Rattle.fields.specs.declared.Flaw.{Flaw}
use Rattle.fields.specs.declared.Offset.{Offset}
use Rattle.fields.specs.declared.Refusal.{Refusal}
use Rattle.fields.specs.Faults.{flaw, nowhere, refusal_of, ◌next◌, Verdict}
use Rattle.fields.proofs.Firsts.{on, stop}
use Rattle.base.specs.Block.{sector, minor_of, bins_data}
use Rattle.cells.specs.Rule.{Header}
use Rattle.values.specs.declared.Value.{Value}
use Rattle.values.specs.Records.{value_fault, data_in, fields_of, value_of, valued}
use Rattle.values.specs.Segments.{data_fault}
use Rattle.values.specs.Lists.{whole_value_fault}
use Rattle.values.proofs.LawsData.{part-whole, part-near}
use Rattle.values.proofs.Valued_at.{is_whole, is-flawed, whole-stop, whole-on}
use Rattle.search.specs.declared.How.{How}
use Rattle.lookup.specs.declared.Info.{Info}
use Rattle.lookup.specs.declared.Spot.TheVariants.{Found, Missing}
use Rattle.lookup.specs.Answers.{value_look_by, info_of, view_fault, viewed_fault, info_where, info_by, view_by}
use Rattle.lookup.proofs.Value_searches.{value-facts}
use Rattle.std.specs.Prelude.{Err, Ok}

-- a verdict and the answer where it is sound
pub where-sound : (k : Offset) (v : Verdict) (i : Info) → v ≡ Ok tt → info_where k v i ≡ Ok i
where-sound k v i e = rw e

pub where-flawed : (k : Offset) (v : Verdict) (i : Info) {f : Flaw} → v ≡ Err f → info_where k v i ≡ Err (refusal_of k f)
where-flawed k v i e = rw e

-- one value, in the examination of a key: its record, then its data
module _ (d : List ℕ) (minor : ℕ) (k v : Offset) where
  content-is : (value_of d minor v).content ≡ data_in d minor v
  unfolding value_of fields_of data_in
  content-is = refl

  pub info-bad : {f : Flaw} → valued (value_fault Header d [] v) (value_of d minor v) ≡ Err f
      → info_where k (whole_value_fault Header d [] minor v) (info_of (value_of d minor v)) ≡ Err (refusal_of k f)
  info-bad e = where-flawed k _ _ (whole-stop Header d [] minor v e)

  pub view-bad : {f : Flaw} → valued (value_fault Header d [] v) (value_of d minor v) ≡ Err f
      → info_where k (viewed_fault d minor v) (info_of (value_of d minor v)) ≡ Err (refusal_of k f)
  unfolding viewed_fault
  view-bad e = where-flawed k _ _ (stop _ _ (is-flawed (value_fault Header d [] v) _ e))

  module _ {y : Value} (e : valued (value_fault Header d [] v) (value_of d minor v) ≡ Ok y) where
    whole : (value_fault Header d [] v ≡ Ok tt) × (value_of d minor v ≡ y)
    whole = is_whole (value_fault Header d [] v) _ e

    data_is : data_in d minor v ≡ y.content
    data_is = sym content-is ∙ ap (λ (z : Value). z.content) whole.1

    pub info-on : info_where k (whole_value_fault Header d [] minor v) (info_of (value_of d minor v)) ≡ info_where k (data_fault Header d [] y.content) (info_of y)
    info-on = ap₂ (λ (a : Verdict) (b : Value). info_where k a (info_of b)) (whole-on Header d [] minor v e) whole.1

    pub view-segmented : {f : Flaw} → view_fault v y.content ≡ Err f
        → info_where k (viewed_fault d minor v) (info_of (value_of d minor v)) ≡ Err (refusal_of k f)
    unfolding viewed_fault
    view-segmented q = where-flawed k _ _ (on _ _ whole.0 ∙ stop _ _ (ap (view_fault v) data_is ∙ q))

    pub view-on : view_fault v y.content ≡ Ok tt
        → info_where k (viewed_fault d minor v) (info_of (value_of d minor v)) ≡ info_where k (data_fault Header d [] y.content) (info_of y)
    unfolding viewed_fault
    view-on q =
        ap₂ (λ (a : Verdict) (b : Value). info_where k a (info_of b))
        (on _ _ whole.0 ∙ on _ _ (ap (view_fault v) data_is ∙ q) ∙ ap (data_fault Header d []) data_is) whole.1

-- in a hive: the value that is found has passed its own tests
module _ (how : How) (h us x : List ℕ) where
  module _ {k v : Offset} (e : value_look_by how h us x ≡ Ok (Found k v)) where
    pub info-found : info_by how h us x ≡ info_where k (whole_value_fault Header (bins_data h) [] (minor_of (sector h)) v) (info_of (value_of (bins_data h) (minor_of (sector h)) v))
    unfolding info_by whole_value_fault
    info-found = rw (e, on (value_fault Header (bins_data h) [] v) (data_fault Header (bins_data h) [] (data_in (bins_data h) (minor_of (sector h)) v)) (value-facts how h us x e).1)

    pub view-found : view_by how h us x ≡ info_where k (viewed_fault (bins_data h) (minor_of (sector h)) v) (info_of (value_of (bins_data h) (minor_of (sector h)) v))
    unfolding view_by viewed_fault
    view-found =
        rw (
          e,
          on (value_fault Header (bins_data h) [] v)
              (view_fault v (data_in (bins_data h) (minor_of (sector h)) v) next data_fault Header (bins_data h) [] (data_in (bins_data h) (minor_of (sector h)) v))
              (value-facts how h us x e).1,
        )

  module _ {k : Offset} (e : value_look_by how h us x ≡ Ok (Missing k)) where
    pub info-missing : info_by how h us x ≡ Err (refusal_of k (flaw NoValue nowhere))
    unfolding info_by
    info-missing = rw e

    pub view-missing : view_by how h us x ≡ Err (refusal_of k (flaw NoValue nowhere))
    unfolding view_by
    view-missing = rw e

  module _ {r : Refusal} (e : value_look_by how h us x ≡ Err r) where
    pub info-faulty : info_by how h us x ≡ Err r
    unfolding info_by
    info-faulty = rw e

    pub view-faulty : view_by how h us x ≡ Err r
    unfolding view_by
    view-faulty = rw e

-- the ways out, for the tactics
pub ruleset part_ways = (part-whole, part-near)

pub ruleset where_ways = (where-sound, where-flawed, info-bad, info-on, view-bad, view-segmented, view-on)

pub ruleset found_ways = (info-found, view-found, info-missing, view-missing, info-faulty, view-faulty, value-facts)
