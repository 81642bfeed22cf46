-- Every refusal of the value calls says why.
use Prim.Native.Nat.{ℕ, ◌<◌}
use native.Mathlib.Omega.{arith}
use mathlib.Core.Path.{◌≡◌, refl, sym, ap, ◌∙◌}
use mathlib.Core.Bool.{Bool, true, false}
use mathlib.Core.List.{List, []}
use lib.Dec.{leb}
use borrow.Author.Tests.{leb-false}
use Rattle.fields.specs.declared.Fault.TheVariants.{NoKey, NoValue, OutputShort}
use Rattle.fields.specs.declared.Flaw.{Flaw}
use Rattle.fields.specs.declared.Offset.{Offset}
use Rattle.fields.specs.declared.Refusal.{Refusal}
use Rattle.fields.specs.Faults.{flaw, nowhere, no_key, refusal_of, Because, ◌next◌, Verdict}
use Rattle.fields.proofs.Every.{Every, every-sound, every-flaw, every-next}
use Rattle.base.specs.Block.{sector, minor_of, bins_data, base_fault}
use Rattle.base.proofs.Refusals.{base-refuses}
use Rattle.cells.specs.Rule.{Header}
use Rattle.cells.proofs.Refusals.{Ruled, by-header}
use Rattle.names.specs.Comparison.{same_name}
use Rattle.records.specs.Keys.{key_fault, key_of, codes_of}
use Rattle.values.specs.declared.ValueData.{ValueData}
use Rattle.values.specs.declared.ValueData.TheVariants.{Inline, OneCell, Segments}
use Rattle.values.specs.Records.{value_fault, data_in, value_of}
use Rattle.values.specs.Segments.{data_fault}
use Rattle.values.specs.Lists.{values_of, value_list_fault}
use Rattle.values.specs.Refused.{one_of, Among, Values}
use Rattle.values.proofs.Refusals.{key-fit, key-unfit, value-fit, value-unfit, value-list-unfit, value-named, data-unfit}
use Rattle.search.specs.declared.How.{How}
use Rattle.paths.specs.declared.Way.TheVariants as way
use Rattle.paths.specs.Answers.{key_look_by, key_found, find_by}
use Rattle.search.proofs.Found.{sound-found}
use Rattle.paths.proofs.Opens.{find_at}
use Rattle.search.proofs.Refusals.{Each, each-found, each-missing, each-cond, each-sound, each_first}
use Rattle.paths.proofs.Refusals.{look-each}
use Rattle.lookup.specs.declared.Info.{Info}
use Rattle.lookup.specs.declared.Spot.TheVariants as spot
use Rattle.lookup.specs.Search.{value_named, lookup_value}
use Rattle.lookup.specs.Answers.{in_key, on_key, value_look_by, view_fault, info_where, value_found, info_by, view_by, copied_to, key_asked, copy_by}
use Rattle.lookup.specs.Spots.{spot_after, spot_in, spot_of, spotted, spot_answer}
use Rattle.lookup.specs.Refused.{FindsBy, OfValueBy, of-key, of_values, of-data, no_value, OfViewBy, as-value, segmented, OfCopyBy, as-info, too_short, OfSpot, by-base, by-given, by_values, no-spot}
use Rattle.lookup.proofs.ValueFinds.{found_first}
use Rattle.lookup.proofs.Answered.{info-answered, found-key}
use Rattle.lookup.proofs.Value_searches.{value-below, value-key, value-facts}
use Rattle.lookup.specs.declared.Spot.{Spot}
use Rattle.paths.specs.declared.Way.{Way}
use Rattle.std.specs.Prelude.{Err, None, Ok, Option, Result, Some}

-- a copy of what was told, in the examination of a key
pub copied-refuses : (P : Offset → Flaw → Type 0) (k : Offset) (n : ℕ) (a : Result Info Refusal) → ((g : Refusal) → a ≡ Err g → Because P g)
    → ((i : Info) → a ≡ Ok i → n < i.len → P k (flaw OutputShort nowhere)) → {r : Refusal} → copied_to k n a ≡ Err r → Because P r
copied-refuses P k n (Err g) p s {r} q = let z : g ≡ r = cc in let w = p g refl in (w.0, w.1, sym z ∙ w.2, w.3)
copied-refuses P k n (Ok i) p s {r} q = cut (leb i.len n) refl
  where
    cut : (t : Bool) → leb i.len n ≡ t → Because P r
    cut true e = absurd (let y = rw e at q in let z : ◌≡◌ {A = ℕ} 0 1 = cc in omega arith)
    cut false e =
        let y = rw e at q in
        (k, flaw OutputShort nowhere, let z : refusal_of k (flaw OutputShort nowhere) ≡ r = cc in sym z, s i refl (leb-false _ _ e))

-- ---- the searches

-- the faults among the values of a key
values-each : (h x : List ℕ) (k : Offset) (P : Flaw → Type 0) → ((f : Flaw) → Among Header (bins_data h) (Values Header (bins_data h) k) f → P f)
    → Each P (lookup_value (bins_data h) (minor_of (sector h)) x (key_of (bins_data h) k))
unfolding lookup_value value_named
values-each h x k P why =
    let d = bins_data h in
    let ruled = by-header d [] in
    each-sound P (value_list_fault Header d [] (key_of d k)) _ (λ f e. why f (value-list-unfit Header d [] ruled k f e))
    (λ s. each_first P (value_named d (minor_of (sector h)) x) (values_of d (key_of d k))
    (λ v i. each-sound P (value_fault Header d [] v) _ (λ f e. why f (one_of (value-named Header d [] ruled k v s i) (value-unfit Header d [] ruled v f e)))
    (λ t. each-cond P (same_name (codes_of d (value_of d (minor_of (sector h)) v).name) x) (Ok (Some v)) (Ok None) (λ y. each-found P v) (λ y. each-missing P))))

module _ (how : How) (h us x : List ℕ) where
  ruled : Ruled Header (bins_data h) []
  ruled = by-header (bins_data h) []

  value-each : (k : Offset) → find_by how h us ≡ Ok k → Each (OfValueBy how h us x k) (lookup_value (bins_data h) (minor_of (sector h)) x (key_of (bins_data h) k))
  value-each k w = values-each h x k (OfValueBy how h us x k) (λ f. of_values w)

  -- the value that is found
  finds : {k v : Offset} → value_look_by how h us x ≡ Ok (spot.Found k v) → FindsBy how h us x k v
  unfolding lookup_value
  finds {k} {v} e =
      let w = value-key how h us x e in
      record {
        found = find_at how h us w.0;
        first_of = found_first (bins_data h) (minor_of (sector h)) x (values_of (bins_data h) (key_of (bins_data h) k)) (sound-found (value_list_fault Header (bins_data h) [] (key_of (bins_data h) k)) _ w.1).1;
        fit = value-fit Header (bins_data h) [] ruled v (value-facts how h us x e).1;
      }

  -- the answers, by the value that is found
  found-refuses : (P : Offset → Flaw → Type 0) → ((k : Offset) (f : Flaw) → OfValueBy how h us x k f → P k f) → (go : Offset → Offset → Result Info Refusal)
      → ((k v : Offset) → FindsBy how h us x k v → (r : Refusal) → go k v ≡ Err r → Because P r)
      → (r : Refusal) → value_found (value_look_by how h us x) go ≡ Err r → Because P r
  unfolding value_look_by
  found-refuses P up go each r e = by (key_look_by how h us) refl e
    where
      -- a refusal on the way to the key
      early : key_found (key_look_by how h us) ≡ Err r → Because P r
      early q = let w = look-each how h us r q in (w.0, w.1, w.2, up w.0 w.1 (of-key w.3))

      in-key : (o : Offset) → key_look_by how h us ≡ Ok (way.Found o) → (l : Result (Option Offset) Flaw) → lookup_value (bins_data h) (minor_of (sector h)) x (key_of (bins_data h) o) ≡ l
          → value_found (in_key o l) go ≡ Err r → Because P r
      in-key o p (Ok (Some v)) s q = each o v (finds (value-below how h us x p ∙ ap (in_key o) s)) r q
      in-key o p (Ok None) s q =
          (o, flaw NoValue nowhere, let z : refusal_of o (flaw NoValue nowhere) ≡ r = cc in sym z, up o (flaw NoValue nowhere) (no_value (find_at how h us p) s))
      in-key o p (Err g) s q = (o, g, let z : refusal_of o g ≡ r = cc in sym z, up o g (value-each o (find_at how h us p) g s))

      by : (w : Result Way Refusal) → key_look_by how h us ≡ w → value_found (on_key w (λ o. lookup_value (bins_data h) (minor_of (sector h)) x (key_of (bins_data h) o))) go ≡ Err r
          → Because P r
      by (Ok (way.Found o)) p q = in-key o p _ refl q
      by (Ok (way.Missing k)) p q = let z : refusal_of k (flaw NoKey nowhere) ≡ r = cc in early (ap key_found p ∙ ap Err z)
      by (Err g) p q = let z : g ≡ r = cc in early (ap key_found p ∙ ap Err z)

  where-refuses : (P : Offset → Flaw → Type 0) (k : Offset) (v : Verdict) (i : Info) → Every (P k) v → (r : Refusal) → info_where k v i ≡ Err r → Because P r
  where-refuses P k (Ok tt) i p r q = absurd (let z : ◌≡◌ {A = ℕ} 0 1 = cc in omega arith)
  where-refuses P k (Err g) i p r q = (k, g, let z : refusal_of k g ≡ r = cc in sym z, p g refl)

  data-each : (k v : Offset) → FindsBy how h us x k v → Every (OfValueBy how h us x k) (data_fault Header (bins_data h) [] (data_in (bins_data h) (minor_of (sector h)) v))
  data-each k v w f e = of-data w (data-unfit Header (bins_data h) [] ruled (data_in (bins_data h) (minor_of (sector h)) v) f e)

  -- value_info
  pub info-refuses : {r : Refusal} → info_by how h us x ≡ Err r → Because (OfValueBy how h us x) r
  unfolding info_by
  info-refuses {r} =
      found-refuses (OfValueBy how h us x) (λ k f p. p) _
      (λ k v w. where-refuses (OfValueBy how h us x) k (data_fault Header (bins_data h) [] (data_in (bins_data h) (minor_of (sector h)) v)) _ (data-each k v w)) r

  view-each : (k v : Offset) → FindsBy how h us x k v → (y : ValueData) → data_in (bins_data h) (minor_of (sector h)) v ≡ y → Every (OfViewBy how h us x k) (view_fault v y)
  unfolding view_fault
  view-each k v w (Inline at len) e = every-sound (OfViewBy how h us x k)
  view-each k v w (OneCell o len) e = every-sound (OfViewBy how h us x k)
  view-each k v w (Segments o len) e = every-flaw (OfViewBy how h us x k) (segmented w e)

  -- view_info
  pub view-refuses : {r : Refusal} → view_by how h us x ≡ Err r → Because (OfViewBy how h us x) r
  unfolding view_by
  view-refuses {r} =
      found-refuses (OfViewBy how h us x) (λ k f p. as-value p) _
      (λ k v w. let y = data_in (bins_data h) (minor_of (sector h)) v in
      where-refuses (OfViewBy how h us x) k (view_fault v y next data_fault Header (bins_data h) [] y) _
      (every-next (OfViewBy how h us x k) (view_fault v y) _ (view-each k v w y refl) (λ s f e. as-value (data-each k v w f e)))) r

  -- value_copy
  copy_key : {i : Info} → info_by how h us x ≡ Ok i → find_by how h us ≡ Ok (key_asked (find_by how h us))
  copy_key p = let f = found-key how h us x (info-answered how h us x p).found in f ∙ sym (ap (λ (k : Result Offset Refusal). Ok (key_asked k)) f)

  pub copy-refuses : (n : ℕ) {r : Refusal} → copy_by how h us x n ≡ Err r → Because (OfCopyBy how h us x n) r
  unfolding copy_by
  copy-refuses n =
      copied-refuses (OfCopyBy how h us x n) (key_asked (find_by how h us)) n (info_by how h us x) (λ g p. let w = info-refuses p in (w.0, w.1, w.2, as-info w.3))
      (λ i p s. too_short (copy_key p) p s)

-- ---- value_of

-- all refusals of a spot
module _ (P : Offset → Flaw → Type 0) where
  after-refuses : (v : Verdict) (s : Result Spot Refusal) → Every (P no_key) v → (r : Refusal) → (v ≡ Ok tt → spotted s ≡ Err r → Because P r)
      → spotted (spot_after v s) ≡ Err r → Because P r
  after-refuses (Ok tt) s p r q e = q refl e
  after-refuses (Err g) s p r q e = (no_key, g, let z : refusal_of no_key g ≡ r = cc in sym z, p g refl)

  in-refuses : (k : Offset) (l : Result (Option Offset) Flaw) → Each (P k) l → (l ≡ Ok None → P k (flaw NoValue nowhere)) → (r : Refusal) → spotted (in_key k l) ≡ Err r
      → Because P r
  in-refuses k (Ok (Some v)) p s r e = absurd (let z : ◌≡◌ {A = ℕ} 0 1 = cc in omega arith)
  in-refuses k (Ok None) p s r e = (k, flaw NoValue nowhere, let z : refusal_of k (flaw NoValue nowhere) ≡ r = cc in sym z, s refl)
  in-refuses k (Err g) p s r e = (k, g, let z : refusal_of k g ≡ r = cc in sym z, p g refl)

pub spot-refuses : (h : List ℕ) (o : Offset) (x : List ℕ) {r : Refusal} → spot_answer h o x ≡ Err r → Because (OfSpot h o x) r
unfolding spot_answer spot_of spot_in
spot-refuses h o x {r} =
    let P = OfSpot h o x in
    let d = bins_data h in
    after-refuses P (base_fault h) _ (λ f e. by-base (base-refuses h f e)) r
    (λ a. after-refuses P (key_fault Header d [] o) _ (λ f e. by-given (key-unfit Header d [] (by-header d []) o f e)) r
    (λ b. let g = key-fit Header d [] (by-header d []) o b in
    in-refuses P o (lookup_value d (minor_of (sector h)) x (key_of d o)) (values-each h x o (P o) (λ f. by_values g)) (λ e. no-spot g e) r))
