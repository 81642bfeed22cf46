-- A path is its steps, and a value by its path is its key's.
use Prim.Native.Nat.{ℕ}
use mathlib.Core.Path.{◌≡◌, refl, sym, ap, ◌∙◌}
use mathlib.Core.List.{List, []}
use Rattle.fields.specs.declared.Offset.{Offset}
use Rattle.fields.specs.Faults.{no_key, Verdict}
use Rattle.base.specs.Block.{sector, minor_of, bins_data, base_fault}
use Rattle.cells.specs.Rule.{Header}
use Rattle.records.specs.Keys.{key_fault, key_of}
use Rattle.values.specs.Records.{value_of}
use Rattle.values.specs.Lists.{whole_value_fault}
use Rattle.search.specs.declared.How.{How}
use Rattle.paths.specs.declared.Way.TheVariants as way
use Rattle.paths.specs.Answers.{key_look_by, key_found, find_by}
use Rattle.paths.specs.Children.{is_step, child_by}
use Rattle.paths.proofs.Opens.{ask-bad, look-facts}
use Rattle.paths.proofs.StepTests.{child-stop}
use Rattle.paths.proofs.Steps.{path-steps, joined-parts, step-last}
use Rattle.paths.proofs.Child.{child-exactly, child-none, quick-child}
use Rattle.lookup.specs.declared.Info.{Info}
use Rattle.lookup.specs.Search.{lookup_value}
use Rattle.lookup.specs.Answers.{in_key, info_of, info_where, info_by}
use Rattle.lookup.specs.Spots.{spot_in, spot_of, spotted, spot_answer}
use Rattle.lookup.proofs.Value_answers.{info-found, info-missing, info-faulty}
use Rattle.lookup.proofs.Value_searches.{value-faulty, value-keyless, value-below}
use Rattle.listing.specs.Members.{info_at}
use Rattle.listing.proofs.Members.{info-in}
use Rattle.demands.specs.StepByStep.{info_on, info_then, under, StepByStep}
use Rattle.fields.specs.declared.Flaw.{Flaw}
use Rattle.fields.specs.declared.Refusal.{Refusal}
use Rattle.paths.specs.declared.Way.{Way}
use Rattle.std.specs.Prelude.{Err, None, Ok, Option, Result, Some}

under-where : (k : Offset) (v : Verdict) (i : Info) → under k (info_where no_key v i) ≡ info_where k v i
under-where k (Ok tt) i = refl
under-where k (Err f) i = refl

module _ (how : How) (h us x : List ℕ) where
  abbrev facts : Offset → Offset → Result Info Refusal
  facts k v = under k (info_at h v)

  abbrev found : Offset → Result (Option Offset) Flaw
  found k = lookup_value (bins_data h) (minor_of (sector h)) x (key_of (bins_data h) k)

  spot_is : (k : Offset) → base_fault h ≡ Ok tt → key_fault Header (bins_data h) [] k ≡ Ok tt → spot_answer h k x ≡ spotted (in_key k (found k))
  unfolding spot_answer spot_of spot_in
  spot_is k b t = rw (b, t)

  in-key : (k : Offset) → key_look_by how h us ≡ Ok (way.Found k) → (l : Result (Option Offset) Flaw) → found k ≡ l → info_by how h us x ≡ info_then (spotted (in_key k l)) (facts k)
  in-key k p (Ok (Some v)) e =
      let i = info_of (value_of (bins_data h) (minor_of (sector h)) v) in
      let t = whole_value_fault Header (bins_data h) [] (minor_of (sector h)) v in
      info-found how h us x (value-below how h us x p ∙ ap (in_key k) e)
      ∙ sym (ap (under k) (info-in h v (look-facts how h us p).0) ∙ under-where k t i)
  in-key k p (Ok None) e = info-missing how h us x (value-below how h us x p ∙ ap (in_key k) e)
  in-key k p (Err f) e = info-faulty how h us x (value-below how h us x p ∙ ap (in_key k) e)

  info-steps : info_by how h us x ≡ info_on (find_by how h us) (λ k. info_then (spot_answer h k x) (facts k))
  unfolding find_by
  info-steps = by (key_look_by how h us) refl
    where
      by : (w : Result Way Refusal) → key_look_by how h us ≡ w → info_by how h us x ≡ info_on (key_found w) (λ k. info_then (spot_answer h k x) (facts k))
      by (Ok (way.Found k)) p =
          let f = look-facts how h us p in
          in-key k p (found k) refl ∙ sym (ap (λ (s : Result Offset Refusal). info_then s (facts k)) (spot_is k f.0 f.1))
      by (Ok (way.Missing k)) p = info-faulty how h us x (value-keyless how h us x p)
      by (Err r) p = info-faulty how h us x (value-faulty how h us x p)

pub step-by-step : StepByStep
unfolding child_by
step-by-step =
    record {
      path = path-steps;
      last = λ how h us x s few. step-last x s us few how h;
      parts = λ us x s. joined-parts x s us;
      no_step = λ how h o x b e. ap key_found (child-stop how h o x (ask-bad h (is_step x) b e));
      info = info-steps;
      child = λ h w o i x s c. child-exactly h w o i x s c;
      none = λ h w o i x s f. child-none h w o i x s f;
      quick = λ h b w o i x. quick-child h w o i b x;
    }
