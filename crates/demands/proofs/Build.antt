-- What every stream of bytes is answered, what the built hive is, and what becomes of an export.
use Prim.Native.Nat.{ℕ, ◌≤◌, ◌<◌}
use native.Mathlib.Omega.{arith}
use mathlib.Core.Path.{◌≡◌, refl, sym, ap, subst, ◌∙◌}
use mathlib.Core.Logic.{◌↔◌}
use mathlib.Core.List.{List, ◌++◌, Memᴰ}
use lib.ListN.{length, take, drop}
use lib.Seq.{take_at}
use Rattle.fields.specs.declared.Fault.{Fault}
use Rattle.fields.specs.declared.Offset.{Offset}
use Rattle.fields.specs.Number.{le16, le32}
use Rattle.fields.specs.Faults.{number_of, flaw, nowhere, no_key, refusal_of}
use Rattle.base.specs.Block.{bins_limit, bins_data}
use Rattle.cells.specs.Named.{data_at}
use Rattle.records.specs.Keys.{key_of, security_of}
use Rattle.records.specs.Listed.{keys_in}
use Rattle.tree.specs.declared.Hive.{Hive as Top}
use Rattle.tree.specs.declared.Report.{Report}
use Rattle.tree.specs.Tree.{levels, keys_of, check_answer}
use Rattle.stream.specs.Stream.{stream_of}
use Rattle.forest.specs.Forest.{Forest, forest_frames}
use Rattle.forest.specs.Allowed.{AllBelow, OneRoot}
use Rattle.forest.specs.Faults.{Judged, Fine, Wrong, stream_fault}
use Rattle.forest.specs.First.{FirstFault}
use Rattle.forest.specs.Parse.{forest_in}
use Rattle.forest.proofs.Exactly.{built-exactly}
use Rattle.forest.proofs.First.{wrong-number, first-fault}
use Rattle.forest.proofs.ReadBack.{read_as_lem}
use Rattle.forest.proofs.Unique.{forest-unique}
use Rattle.layout.specs.Layout.{pad_of, item_at, bins_for, item_record, bins_of, built_hive}
use Rattle.layout.proofs.Base.{built-length, built-hive, built-data}
use Rattle.layout.proofs.Built.{item-placed}
use Rattle.build_laws.specs.Read.{forest_of}
use Rattle.build_laws.proofs.Accepted.{built-accepted}
use Rattle.build_laws.proofs.Counts.{root-counted}
use Rattle.build_laws.proofs.Exports.{built-laid, built-exports}
use Rattle.build_laws.proofs.Builds.{accepted-forest, export-builds}
use Rattle.build_answers.specs.declared.Unbuilt.{Unbuilt}
use Rattle.build_answers.specs.Answers.{unbuilt, too_large, too_long, number_in, measure_answer, build_answer, build_out}
use Rattle.build_answers.proofs.Cases.{measured-exactly, build-wrong, Answered, done, long, large, wrong, answered, done-exactly, thirty-nine-exactly, twenty-exactly, wrong-exactly}
use Rattle.build_answers.proofs.Hives.{refused-builds, built-there, built-behind}
use Rattle.build_answers.proofs.Again.{again-built}
use Rattle.demands.specs.Build.{Says, AtFault, Answered as Answers, Hive, Again, Building}
use Rattle.std.specs.Prelude.{Ok, Result}

-- ---- a stream without a fault has none of 30 to 38

fine-answers : (s sd : List ℕ) (room : ℕ) {a : Result ℕ Unbuilt} → stream_fault s ≡ Fine → Answered s sd room a → AtFault a → ⊥
unfolding number_in
fine-answers s sd room p (done z h) x = let y = ap number_in x.refused in let l = x.first in omega arith
fine-answers s sd room p (long z h) x = let y = ap number_in x.refused in let l = x.first in omega arith
fine-answers s sd room p (large e h) x = let y = ap number_in x.refused in let l = x.last in omega arith
fine-answers s sd room p (wrong e) x = let q = sym p ∙ e in let z : ◌≡◌ {A = ℕ} 0 1 = cc in omega arith

-- ---- the answers

module _ (s sd : List ℕ) (room : ℕ) (bytes : AllBelow 256 s) where
  said : stream_fault s ≡ Fine → (f : Forest) × Says s f
  said e = let w = (built-exactly s bytes).0 e in (w.0, record { frames = w.1; root = w.2 })

  fine : (f : Forest) → Says s f → stream_fault s ≡ Fine
  fine f w = (built-exactly s bytes).1 (f, w.frames, w.root)

  -- the bins size and the length of its hive
  bins-read : (f : Forest) → Says s f → bins_for (forest_in s) (length sd) ≡ bins_for f (length sd)
  bins-read f w = ap (λ (g : Forest). bins_for g (length sd)) (read_as_lem f w.frames w.root)

  fault-exactly : AtFault (build_answer s sd room) ↔ ((f : Forest) → Says s f → ⊥)
  fault-exactly = (λ x f w. fine-answers s sd room (fine f w) (answered s sd room) x, λ g. by g (stream_fault s) refl)
    where
      by : ((f : Forest) → Says s f → ⊥) → (j : Judged) → stream_fault s ≡ j → AtFault (build_answer s sd room)
      by g Fine p = let w = said p in absurd (g w.0 w.1)
      by g (Wrong f at) p =
          let n = wrong-number s f at p in
          let u : Unbuilt = record { refusal = refusal_of no_key f; at = record { 0 = at } } in
          record { why = u; refused = build-wrong s sd room p; first = n.0; last = n.1 }

  earliest : (c : Fault) (at : ℕ)
      → ((build_answer s sd room ≡ unbuilt (flaw c nowhere) at) × (30 ≤ number_of c) × (number_of c ≤ 38)) ↔ FirstFault s (flaw c nowhere) at
  earliest c at = (
    λ w. (first-fault s (flaw c nowhere) at).0 ((wrong-exactly s sd room (flaw c nowhere) at).0 w),
    λ w. (wrong-exactly s sd room (flaw c nowhere) at).1 ((first-fault s (flaw c nowhere) at).1 w),
  )

  over-limit : (build_answer s sd room ≡ too_large) ↔ ((f : Forest) × Says s f × (bins_limit < bins_for f (length sd)))
  over-limit = (
    λ e.
        let w = (thirty-nine-exactly s sd room).0 e in
        let x = said w.0 in
        let b = bins-read x.0 x.1 in
        let l = w.1 in
        (x.0, x.1, omega arith),
    λ x.
        let b = bins-read x.0 x.1 in
        let l = x.2 in
        (thirty-nine-exactly s sd room).1 (fine x.0 x.1, omega arith),
  )

  too-long : (build_answer s sd room ≡ too_long) ↔ ((f : Forest) × Says s f × (bins_for f (length sd) ≤ bins_limit) × (room < length (built_hive f sd)))
  too-long = (
    λ e.
        let w = (twenty-exactly s sd room).0 e in
        let x = said w.0 in
        let b = bins-read x.0 x.1 in
        let k = built-length x.0 sd in
        let l = w.1 in
        let r = w.2 in
        (x.0, x.1, omega arith, omega arith),
    λ x.
        let b = bins-read x.0 x.1 in
        let k = built-length x.0 sd in
        let l = x.2 in
        let r = x.3 in
        (twenty-exactly s sd room).1 (fine x.0 x.1, omega arith, omega arith),
  )

  measured : (n : ℕ) → (measure_answer s (length sd) ≡ Ok n) ↔ ((f : Forest) × Says s f × (bins_for f (length sd) ≤ bins_limit) × (n ≡ length (built_hive f sd)))
  measured n = (
    λ e.
        let z = (measured-exactly s (length sd) n).0 e in
        let x = said z.fine in
        let b = bins-read x.0 x.1 in
        let k = built-length x.0 sd in
        let l = z.limit in
        let i = z.is in
        (x.0, x.1, omega arith, omega arith),
    λ x.
        let b = bins-read x.0 x.1 in
        let k = built-length x.0 sd in
        let l = x.2 in
        let i = x.3 in
        (measured-exactly s (length sd) n).1 (record { fine = fine x.0 x.1; limit = omega arith; is = omega arith }),
  )

  built : (n : ℕ)
      → (build_answer s sd room ≡ Ok n) ↔ ((f : Forest) × Says s f × (bins_for f (length sd) ≤ bins_limit) × (n ≡ length (built_hive f sd)) × (n ≤ room))
  built n = (
    λ e.
        let w = (done-exactly s sd room n).0 e in
        let x = (measured n).0 ((measured-exactly s (length sd) n).1 w.0) in
        (x.0, x.1, x.2, x.3, w.1),
    λ x. (done-exactly s sd room n).1 ((measured-exactly s (length sd) n).0 ((measured n).1 (x.0, x.1, x.2, x.3)), x.4),
  )

  answers : Answers s sd room
  answers =
      record {
        at-fault = fault-exactly;
        one-forest = λ f g v w. forest-unique v.root w.root (sym v.frames ∙ w.frames);
        earliest = earliest;
        over-limit = over-limit;
        too-long = too-long;
        built = built;
        measured = measured;
        unmeasured = λ u e. refused-builds s sd room e;
      }

-- ---- the hive

module _ (f : Forest) (sd : List ℕ) (o : OneRoot f) (fits : bins_for f (length sd) ≤ bins_limit) where
  abbrev S : Offset
  S = record { 0 = item_at f }

  shared : (k : Offset) → Memᴰ k (keys_of (built_hive f sd)) → security_of (bins_data (built_hive f sd)) k ≡ S
  shared =
      let c = root-counted (bins_of f sd) f o.single (built-laid f sd o fits) in
      subst (λ (x : Top). (k : Offset) → Memᴰ k (keys_in (bins_data (built_hive f sd)) levels x.root) → security_of (bins_data (built_hive f sd)) k ≡ S)
      (sym (built-hive f sd))
      (subst (λ (d : List ℕ). (k : Offset) → Memᴰ k (keys_in d levels (record { 0 = 32 })) → security_of d k ≡ S) (sym (built-data f sd fits)) c.secured)

  descriptor-read : (k : List ℕ) → take (length sd) (drop 20 (item_record f sd ++ k)) ≡ sd
  unfolding item_record le16 le32
  descriptor-read k = take_at sd k (length sd) refl

  descriptor : take (length sd) (drop 20 (data_at (bins_data (built_hive f sd)) S)) ≡ sd
  descriptor =
      ap (λ (d : List ℕ). take (length sd) (drop 20 (data_at d S))) (built-data f sd fits)
      ∙ ap (λ (x : List ℕ). take (length sd) (drop 20 x)) (item-placed f sd fits).holds ∙ descriptor-read (pad_of (item_record f sd))

  hive-of : {s h : List ℕ} → s ≡ forest_frames f → h ≡ built_hive f sd → Hive s sd h f
  hive-of {s} said e =
      subst (λ (g : List ℕ). Hive s sd g f) (sym e)
      (record {
        laid = refl;
        version = ap (λ (x : Top). x.minor) (built-hive f sd);
        shared = shared;
        descriptor = descriptor;
        accepted = built-accepted f sd o fits;
        exported = built-exports f sd o fits ∙ sym said;
      })

module _ (s sd out : List ℕ) (n : ℕ) (d : build_answer s sd (length out) ≡ Ok n) (f : Forest) (w : Says s f) where
  -- what is in the buffer, where the stream says this forest
  hive-there : Hive s sd (take n (build_out s sd out)) f
  hive-there =
      let e = read_as_lem f w.frames w.root in
      let l = ((done-exactly s sd (length out) n).0 d).0.limit in
      let b = ap (λ (g : Forest). bins_for g (length sd)) e in
      hive-of f sd w.root (omega arith) w.frames (built-there s sd out d ∙ ap (λ (g : Forest). built_hive g sd) e)

hive-built : (s sd out : List ℕ) (n : ℕ) → AllBelow 256 s → build_answer s sd (length out) ≡ Ok n
    → (f : Forest) × Says s f × Hive s sd (take n (build_out s sd out)) f
hive-built s sd out n bytes d =
    let x = said s sd (length out) bytes ((done-exactly s sd (length out) n).0 d).0.fine in
    (x.0, x.1, hive-there s sd out n d x.0 x.1)

-- ---- the export of an accepted hive

module _ (h m sd : List ℕ) (r : Report) (e : check_answer h m ≡ Ok r) (bytes : AllBelow 256 h)
    (few : (k : Offset) → Memᴰ k (keys_of h) → (key_of (bins_data h) k).subkeys ≤ 65535) where
  export-says : Says (stream_of h) (forest_of h)
  export-says = let w = accepted-forest h bytes few m e in record { frames = w.0; root = w.1 }

  again : Again h sd
  again =
      record {
        says = export-says;
        not-at-fault = λ room x. fine-answers (stream_of h) sd room (export-builds h bytes few m e) (answered (stream_of h) sd room) x;
        built = λ room fits enough.
            let k = built-length (forest_of h) sd in
            again-built h bytes few m e sd room fits (omega arith) ∙ ap Ok (sym k);
        hive = λ out n d. hive-there (stream_of h) sd out n d (forest_of h) export-says;
      }

pub building : Building
building =
    record {
      answers = answers;
      hives = hive-built;
      behind = λ s sd out n d. built-behind s sd out d;
      again = again;
    }
