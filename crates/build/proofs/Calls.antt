-- The answer with a buffer, by what was measured, and what stands in the buffer then.
use Prim.Native.Nat.{ℕ, ◌+◌, ◌≤◌, ◌<◌}
use native.Mathlib.Omega.{arith}
use mathlib.Core.Path.{◌≡◌, refl, sym, ap, subst, ◌∙◌}
use mathlib.Core.List.{List, ◌++◌}
use lib.ListN.{length, drop}
use lib.Seq.{sets, sets-eq}
use Rattle.fields.specs.declared.Flaw.{Flaw}
use Rattle.forest.specs.Forest.{forest_frames}
use Rattle.forest.specs.Allowed.{OneRoot}
use Rattle.forest.specs.Faults.{Wrong, stream_fault}
use Rattle.forest.specs.Parse.{forest_in}
use Rattle.forest.proofs.ReadBack.{read_as_lem}
use Rattle.layout.specs.Layout.{size_of, built_hive}
use Rattle.layout.proofs.Base.{built-length}
use Rattle.build_write.specs.Terms.{Planned}
use Rattle.build_measure.specs.declared.Whole.{Whole}
use Rattle.build_measure.specs.Terms.{FitsAs}
use Rattle.build_measure.proofs.Sizes.{cap-small}
use Rattle.build_measure.proofs.Entire.{fits-any}
use Rattle.build_answers.specs.declared.Unbuilt.{Unbuilt}
use Rattle.build_answers.specs.Answers.{unbuilt, too_long, measure_answer, build_answer, build_out}
use Rattle.build_answers.proofs.Cases.{within-limit, measured-exactly, build-wrong}
use Rattle.build_answers.proofs.Hives.{measured-builds, measured-long, refused-builds, refused-leaves, written}
use Rattle.build.specs.Terms.{PutFits, with_hive}
use Rattle.fields.specs.Faults.{no_key, refusal_of}
use Rattle.build_measure.specs.declared.StreamFlaw.{StreamFlaw}
use Rattle.std.specs.Prelude.{Err, Ok, Result, MatchResult}

module _ (s sd : List ℕ) where
  -- the second pass, of the forest that the stream says
  module _ {room keys size : ℕ} (x : PutFits s sd room keys size) where
    pub planned : Planned s sd keys size room (forest_in s)
    planned =
        let l = x.limit in
        record { frames = x.frames; root = x.root; counted = x.keys-are; size = x.size_is; low = omega (arith, l); room = x.enough }

    pub hive-put : (out : List ℕ) {o : List ℕ} → length out ≡ room → o ≡ sets out 0 (built_hive (forest_in s) sd) → o ≡ with_hive s sd out
    hive-put out {o} e p =
        let b = built_hive (forest_in s) sd in
        let l = built-length (forest_in s) sd in
        let h = x.enough in
        let z : 0 + length b ≡ length b = omega arith in
        p ∙ sets-eq b out 0 (omega (arith, l, h, e)) ∙ ap (λ (k : ℕ). b ++ drop k out) z

  pub put-fits : {w : Whole} → FitsAs s w → {r : Result ℕ Unbuilt} → r ≡ measure_answer s (length sd) → {k room : ℕ} → r ≡ Ok k → k ≤ room → PutFits s sd room w.keys w.size
  put-fits x q {k} {room} e h =
      let same = read_as_lem x.forest x.frames x.root in
      let frames = x.frames ∙ ap forest_frames (sym same) in
      let root = subst OneRoot (sym same) x.root in
      let z = (measured-exactly s (length sd) k).0 (sym q ∙ e) in
      let u = (within-limit (forest_in s) (length sd)).0 z.limit in
      let a = fits-any x (forest_in s) frames root in
      let i = z.is in
      record {
        frames = frames;
        root = root;
        size_is = a.0 ∙ cap-small (size_of (forest_in s)) (omega (arith, u));
        keys-are = a.1;
        limit = z.limit;
        enough = omega (arith, i, h);
      }

  module _ (out : List ℕ) where
    pub call-wrong : {f : Flaw} {at : ℕ} → stream_fault s ≡ Wrong f at → (unbuilt f at ≡ build_answer s sd (length out)) × (out ≡ build_out s sd out)
    call-wrong e = let b = build-wrong s sd (length out) e in (sym b, sym (refused-leaves s sd out b))

    module _ {r : Result ℕ Unbuilt} (q : r ≡ measure_answer s (length sd)) where
      pub call-refused : {u : Unbuilt} → r ≡ Err u → (Err u ≡ build_answer s sd (length out)) × (out ≡ build_out s sd out)
      call-refused e = let b = refused-builds s sd (length out) (sym q ∙ e) in (sym b, sym (refused-leaves s sd out b))

      pub call_long : {k : ℕ} → r ≡ Ok k → length out < k → (too_long ≡ build_answer s sd (length out)) × (out ≡ build_out s sd out)
      call_long e h = let b = measured-long s sd (length out) (sym q ∙ e) h in (sym b, sym (refused-leaves s sd out b))

      pub call-done : {k : ℕ} → r ≡ Ok k → k ≤ length out → {o : List ℕ} → o ≡ with_hive s sd out → (Ok k ≡ build_answer s sd (length out)) × (o ≡ build_out s sd out)
      call-done e h p = let b = measured-builds s sd (length out) (sym q ∙ e) h in (sym b, p ∙ sym (written s sd out b))

-- ---- the first pass, by its variant

-- a refusal that was made of the first fault
pub refused-as : (r : Result Whole StreamFlaw) {m : Result Whole Unbuilt} {u : Unbuilt}
    → MatchResult r (λ w. m ≡ Ok w) (λ x. m ≡ Err (record { refusal = refusal_of no_key x.flaw; at = record { 0 = x.at } }))
    → m ≡ Err u → (x : StreamFlaw) × (r ≡ Err x) × (◌≡◌ {A = Result ℕ Unbuilt} (Err u) (unbuilt x.flaw x.at))
refused-as (Ok w) h e = absurd (let z : ◌≡◌ {A = ℕ} 0 1 = cc in omega arith)
refused-as (Err x) h e = (x, refl, cc)
