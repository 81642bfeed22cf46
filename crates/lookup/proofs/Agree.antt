-- On any bytes: a view and a copy agree, a refusal changes nothing, and a copy changes exactly the first bytes of its output.
use Prim.Native.Nat.{ℕ, ◌≤◌}
use native.Mathlib.Omega.{arith}
use mathlib.Core.Path.{◌≡◌, refl, sym, ap, ◌∙◌}
use mathlib.Core.Bool.{Bool, true, false}
use mathlib.Core.List.{List, ◌++◌}
use lib.Dec.{leb}
use lib.ListN.{length, drop}
use lib.Seq.{drop_at}
use borrow.Author.Tests.{leb-true}
use Rattle.fields.specs.declared.Offset.{Offset}
use Rattle.fields.specs.declared.Refusal.{Refusal}
use Rattle.base.specs.Block.{bins_data}
use Rattle.values.specs.Segments.{bytes_of}
use Rattle.values.proofs.LawsData.{bytes-length}
use Rattle.paths.specs.Answers.{find_by}
use Rattle.search.specs.declared.How.{How}
use Rattle.lookup.specs.declared.Info.{Info}
use Rattle.lookup.specs.Answers.{info_by, view_by, view_bytes_by, copied_to, key_asked, copy_by, copy_out_by}
use Rattle.lookup.proofs.Answered.{info-answered, view-answered, view-shown, view-part, copy_written, view-info-same, refused-stays}
use Rattle.std.specs.Prelude.{Err, Ok, Result}

-- what a copy that is done says
done-is : (key : Offset) (n : ℕ) (i : Info) {k : ℕ} → copied_to key n (Ok i) ≡ Ok k → (i.len ≤ n) × (i.len ≡ k)
done-is key n i {k} e = by (leb i.len n) refl
  where
    by : (t : Bool) → leb i.len n ≡ t → (i.len ≤ n) × (i.len ≡ k)
    by true q = (leb-true i.len n q, let s = rw q at e in let p : i.len ≡ k = cc in p)
    by false q = absurd (let s = rw q at e in let z : ◌≡◌ {A = ℕ} 0 1 = cc in omega arith)

-- a view shows the data's bytes
pub view-is : (how : How) (h us x : List ℕ) {i : Info} → view_by how h us x ≡ Ok i → view_bytes_by how h us x ≡ bytes_of (bins_data h) i.content
view-is how h us x {i} e = let a = view-answered how h us x e in view-part how h us x e ∙ (view-shown how h us x i a.0 a.1).bytes

module _ (how : How) (h us x out : List ℕ) where
  -- a copy that is done
  record Written (n : ℕ) : Type 0 where
    pub info : Info
    pub answers : info_by how h us x ≡ Ok info
    pub long : info.len ≡ n
    pub fits : n ≤ length out
    pub bytes : length (bytes_of (bins_data h) info.content) ≡ n
    pub is : copy_out_by how h us x out ≡ bytes_of (bins_data h) info.content ++ drop n out

  done-written : {n : ℕ} → copy_by how h us x (length out) ≡ Ok n → Written n
  unfolding copy_by
  done-written {n} e = by (info_by how h us x) refl
    where
      by : (a : Result Info Refusal) → info_by how h us x ≡ a → Written n
      by (Err f) q = absurd (let s = rw q at e in let z : ◌≡◌ {A = ℕ} 0 1 = cc in omega arith)
      by (Ok i) q =
          let d = done-is (key_asked (find_by how h us)) (length out) i (rw q at e) in
          let a = info-answered how h us x q in
          record {
            info = i;
            answers = q;
            long = d.1;
            fits = omega arith;
            bytes = bytes-length (bins_data h) i.content a.lies ∙ sym a.long ∙ d.1;
            is = copy_written how h us x out q d.0 ∙ ap (λ (k : ℕ). bytes_of (bins_data h) i.content ++ drop k out) d.1;
          }

  pub copy-beyond : {n : ℕ} → copy_by how h us x (length out) ≡ Ok n → drop n (copy_out_by how h us x out) ≡ drop n out
  copy-beyond {n} e =
      let w = done-written e in
      ap (drop n) w.is ∙ drop_at (bytes_of (bins_data h) w.info.content) (drop n out) n w.bytes

  -- a refusal changes nothing
  pub refused-untouched : {f : Refusal} → copy_by how h us x (length out) ≡ Err f → copy_out_by how h us x out ≡ out
  unfolding copy_by copy_out_by
  refused-untouched = refused-stays (key_asked (find_by how h us)) (bins_data h) out (info_by how h us x)

  -- view and copy agree: where the view answers, a copy with room for it writes the view's bytes
  module _ {i : Info} (e : view_by how h us x ≡ Ok i) where
    pub views-copied : i.len ≤ length out → copy_out_by how h us x out ≡ view_bytes_by how h us x ++ drop i.len out
    views-copied p = copy_written how h us x out (view-info-same how h us x e) p ∙ ap (λ (s : List ℕ). s ++ drop i.len out) (sym (view-is how h us x e))
