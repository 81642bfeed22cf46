-- What is known where a value call answers: the data lie in the bins data, and those of a view in one part of the hive.
use Prim.Native.Nat.{ℕ, ◌+◌, ◌≤◌, ◌<◌}
use native.Mathlib.Omega.{arith}
use mathlib.Core.Path.{◌≡◌, refl, sym, ap, ◌∙◌}
use mathlib.Core.Bool.{Bool, true, false}
use mathlib.Core.List.{List, [], ◌++◌}
use lib.Dec.{leb}
use lib.ListN.{length, take, drop}
use borrow.Author.Tests.{le-leb, lt-leb}
use Rattle.fields.specs.declared.Fault.TheVariants.{OutputShort}
use Rattle.fields.specs.declared.Offset.{Offset}
use Rattle.fields.specs.declared.Refusal.{Refusal}
use Rattle.fields.specs.Faults.{flaw, nowhere, refusal_of, ◌next◌, Verdict}
use Rattle.fields.proofs.Firsts.{both}
use Rattle.base.specs.Block.{sector, minor_of, bins_data, base_fault}
use Rattle.cells.specs.Rule.{Header}
use Rattle.cells.proofs.Parts.{place-room, place-bytes}
use Rattle.values.specs.declared.ValueData.{ValueData}
use Rattle.values.specs.declared.ValueData.TheVariants.{Inline, OneCell, Segments}
use Rattle.values.specs.Records.{data_in, fields_of, value_of}
use Rattle.values.specs.Segments.{data_fault, bytes_of, length_of}
use Rattle.values.specs.Parts.{part_of}
use Rattle.values.specs.Terms.{Lies}
use Rattle.values.proofs.LawsData.{is_one, part-whole, part_lies}
use Rattle.values.proofs.LawsValues.{lies as data-lies}
use Rattle.paths.specs.Answers.{find_by}
use Rattle.paths.proofs.Opens.{find_at}
use Rattle.search.specs.declared.How.{How}
use Rattle.lookup.specs.declared.Info.{Info}
use Rattle.lookup.specs.declared.Spot.TheVariants.{Found, Missing}
use Rattle.lookup.specs.Answers.{value_look_by, place_in, info_of, view_fault, info_where, value_found, info_by, view_by, view_start_by, view_bytes_by, copied_to, key_asked, copy_by, written, copy_out_by}
use Rattle.lookup.proofs.Value_searches.{value-key, value-facts}
use Rattle.lookup.specs.declared.Spot.{Spot}
use Rattle.std.specs.Prelude.{Err, Ok, Result}

pub where-at : (k : Offset) (v : Verdict) (i : Info) {j : Info} → info_where k v i ≡ Ok j → (v ≡ Ok tt) × (i ≡ j)
where-at k (Ok tt) i e = (refl, cc)
where-at k (Err f) i e = absurd (let z : ◌≡◌ {A = ℕ} 0 1 = cc in omega arith)

found_at : (l : Result Spot Refusal) (go : Offset → Offset → Result Info Refusal) {i : Info} → value_found l go ≡ Ok i
    → (k : Offset) × (v : Offset) × (l ≡ Ok (Found k v)) × (go k v ≡ Ok i)
found_at (Ok (Found k v)) go e = (k, v, refl, e)
found_at (Ok (Missing k)) go e = absurd (let z : ◌≡◌ {A = ℕ} 0 1 = cc in omega arith)
found_at (Err f) go e = absurd (let z : ◌≡◌ {A = ℕ} 0 1 = cc in omega arith)

-- the value behind an answer
pub record Answered (how : How) (h us x : List ℕ) (i : Info) : Type 0 where
  pub key : Offset
  pub value : Offset
  pub found : value_look_by how h us x ≡ Ok (Found key value)
  pub info : i ≡ info_of (value_of (bins_data h) (minor_of (sector h)) value)
  pub content : i.content ≡ data_in (bins_data h) (minor_of (sector h)) value
  pub base : base_fault h ≡ Ok tt
  pub lies : Lies (bins_data h) i.content
  pub long : i.len ≡ length_of i.content
  pub place : i.at ≡ place_in i.content

pub content-as : (d : List ℕ) (minor : ℕ) (i : Info) (v : Offset) → info_of (value_of d minor v) ≡ i → i.content ≡ data_in d minor v
unfolding info_of value_of fields_of data_in
content-as d minor i v q = sym (ap (λ (j : Info). j.content) q)

answered-as : (how : How) (h us x : List ℕ) (i : Info) (k v : Offset) → value_look_by how h us x ≡ Ok (Found k v)
    → data_fault Header (bins_data h) [] (data_in (bins_data h) (minor_of (sector h)) v) ≡ Ok tt
    → info_of (value_of (bins_data h) (minor_of (sector h)) v) ≡ i → Answered how h us x i
unfolding info_of value_of fields_of data_in
answered-as how h us x i k v e s q =
    let f = value-facts how h us x e in
    record {
      key = k;
      value = v;
      found = e;
      info = sym q;
      content = content-as (bins_data h) (minor_of (sector h)) i v q;
      base = f.0;
      lies = rw (← q) (data-lies Header (bins_data h) [] (minor_of (sector h)) v f.1 Header [] s);
      long = rw (← q);
      place = rw (← q);
    }

one-case : (v : Offset) (y : ValueData) → view_fault v y ≡ Ok tt → is_one y ≡ true
unfolding view_fault
one-case v (Inline o len) e = refl
one-case v (OneCell o len) e = refl
one-case v (Segments o len) e = absurd (let z : ◌≡◌ {A = ℕ} 0 1 = cc in omega arith)

module _ (how : How) (h us x : List ℕ) {i : Info} where
  pub info-answered : info_by how h us x ≡ Ok i → Answered how h us x i
  unfolding info_by
  info-answered e =
      let f = found_at (value_look_by how h us x) _ e in
      let w = where-at f.0 (data_fault Header (bins_data h) [] (data_in (bins_data h) (minor_of (sector h)) f.1)) _ f.3 in
      answered-as how h us x i f.0 f.1 f.2 w.0 w.1

  pub view-answered : view_by how h us x ≡ Ok i → Answered how h us x i × (is_one i.content ≡ true)
  unfolding view_by
  view-answered e =
      let f = found_at (value_look_by how h us x) _ e in
      let y = data_in (bins_data h) (minor_of (sector h)) f.1 in
      let w = where-at f.0 (view_fault f.1 y next data_fault Header (bins_data h) [] y) _ f.3 in
      let b = both (view_fault f.1 y) _ w.0 in (
        answered-as how h us x i f.0 f.1 f.2 b.1 w.1,
        ap is_one (content-as (bins_data h) (minor_of (sector h)) i f.1 w.1) ∙ one-case f.1 y b.0,
      )

-- where the view's sister answers, value_info gives the same facts
pub view-info-same : (how : How) (h us x : List ℕ) {i : Info} → view_by how h us x ≡ Ok i → info_by how h us x ≡ Ok i
unfolding view_by info_by
view-info-same how h us x e =
    let f = found_at (value_look_by how h us x) _ e in
    let y = data_in (bins_data h) (minor_of (sector h)) f.1 in
    let w = where-at f.0 (view_fault f.1 y next data_fault Header (bins_data h) [] y) _ f.3 in
    rw (f.2, (both (view_fault f.1 y) _ w.0).1) (ap Ok w.1)

-- the part of the hive that a view shows
pub record Shown (h : List ℕ) (i : Info) : Type 0 where
  pub ends : i.at.0 + i.len ≤ length h
  pub bytes : take i.len (drop i.at.0 h) ≡ bytes_of (bins_data h) i.content

pub view-shown : (how : How) (h us x : List ℕ) (i : Info) → Answered how h us x i → is_one i.content ≡ true → Shown h i
unfolding place_in
view-shown how h us x i a t =
    let p = part_of i.content in
    let w = part_lies (bins_data h) i.content t a.lies in
    let len : i.len ≡ p.len = a.long ∙ sym (part-whole i.content) in
    record {
      ends = rw (a.place, len) (place-room p.cell p.at p.len h a.base w.ends);
      bytes = rw (a.place, len) (place-bytes p.cell p.at p.len h a.base w.ends ∙ sym w.bytes);
    }

-- the ways out of a copy of what was told, in the examination of a key
module _ (key : Offset) (out : List ℕ) (i : Info) where
  module _ (p : length out < i.len) where
    pub told-short : copied_to key (length out) (Ok i) ≡ Err (refusal_of key (flaw OutputShort nowhere))
    told-short = rw (lt-leb i.len (length out) p)

    pub short-stays : (d : List ℕ) → written d out (Ok i) ≡ out
    short-stays d = rw (lt-leb i.len (length out) p)

  module _ (p : i.len ≤ length out) where
    pub told-done : copied_to key (length out) (Ok i) ≡ Ok i.len
    told-done = rw (le-leb i.len (length out) p)

    pub told-written : (d : List ℕ) → written d out (Ok i) ≡ bytes_of d i.content ++ drop i.len out
    told-written d = rw (le-leb i.len (length out) p)

-- a refusal changes nothing
pub refused-stays : (k : Offset) (d out : List ℕ) (a : Result Info Refusal) {f : Refusal} → copied_to k (length out) a ≡ Err f → written d out a ≡ out
refused-stays k d out (Err g) e = refl
refused-stays k d out (Ok i) e = cut (leb i.len (length out)) refl
  where
    cut : (t : Bool) → leb i.len (length out) ≡ t → written d out (Ok i) ≡ out
    cut true p = absurd (let s = rw p at e in let z : ◌≡◌ {A = ℕ} 0 1 = cc in omega arith)
    cut false p = rw p

-- the ways out of a view and a copy
module _ (how : How) (h us x : List ℕ) where
  pub view-none : {f : Refusal} → view_by how h us x ≡ Err f → view_bytes_by how h us x ≡ []
  unfolding view_bytes_by
  view-none e = rw e

  pub start_none : {f : Refusal} → view_by how h us x ≡ Err f → view_start_by how h us x ≡ 0
  unfolding view_start_by
  start_none e = rw e

  pub start-part : {i : Info} → view_by how h us x ≡ Ok i → view_start_by how h us x ≡ i.at.0
  unfolding view_start_by
  start-part e = rw e

  pub view-part : {i : Info} → view_by how h us x ≡ Ok i → view_bytes_by how h us x ≡ take i.len (drop i.at.0 h)
  unfolding view_bytes_by
  view-part e = rw e

  module _ (out : List ℕ) where
    module _ {f : Refusal} (e : info_by how h us x ≡ Err f) where
      pub copy-refused : copy_by how h us x (length out) ≡ Err f
      unfolding copy_by
      copy-refused = rw e

      pub copy-untouched : copy_out_by how h us x out ≡ out
      unfolding copy_out_by
      copy-untouched = rw e

    module _ {i : Info} (e : info_by how h us x ≡ Ok i) where
      pub copy_told : {k : Offset} → find_by how h us ≡ Ok k → copy_by how h us x (length out) ≡ copied_to k (length out) (Ok i)
      unfolding copy_by
      copy_told q = rw (q, e)

      pub out-told : copy_out_by how h us x out ≡ written (bins_data h) out (Ok i)
      unfolding copy_out_by
      out-told = rw e

      pub copy-short : {k : Offset} → find_by how h us ≡ Ok k → length out < i.len
          → copy_by how h us x (length out) ≡ Err (refusal_of k (flaw OutputShort nowhere))
      copy-short {k} q p = copy_told q ∙ told-short k out i p

      pub copy_done : i.len ≤ length out → copy_by how h us x (length out) ≡ Ok i.len
      unfolding copy_by
      copy_done p = rw e (told-done (key_asked (find_by how h us)) out i p)

      pub copy_written : i.len ≤ length out → copy_out_by how h us x out ≡ bytes_of (bins_data h) i.content ++ drop i.len out
      copy_written p = out-told ∙ told-written (key_asked (find_by how h us)) out i p (bins_data h)

  -- the key of the value that is found
  pub found-key : {k v : Offset} → value_look_by how h us x ≡ Ok (Found k v) → find_by how h us ≡ Ok k
  found-key e = find_at how h us (value-key how h us x e).0

-- the ways out, for the tactics
pub ruleset view_ways = (view-none, start_none, start-part, view-part)

pub ruleset copy_ways = (info-answered, copy-refused, copy-untouched, copy_told, out-told, found-key)
