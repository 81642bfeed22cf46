-- Export and build are inverse: the export of an accepted hive is built, where no key has more than 65,535 subkeys, and what is built has the same export.
use Prim.Native.Nat.{ℕ, ◌+◌, ◌≤◌}
use mathlib.Core.Path.{◌≡◌, sym, ap, subst, ◌∙◌}
use mathlib.Core.List.{List, Memᴰ}
use lib.ListN.{length, take}
use Rattle.fields.specs.declared.Offset.{Offset}
use Rattle.base.specs.Block.{bins_limit, bins_data}
use Rattle.records.specs.Keys.{key_of}
use Rattle.tree.specs.declared.Report.{Report}
use Rattle.tree.specs.Tree.{keys_of, check_answer}
use Rattle.stream.specs.Stream.{stream_of}
use Rattle.forest.specs.Forest.{Forest, forest_frames}
use Rattle.forest.specs.Allowed.{AllBelow, OneRoot}
use Rattle.forest.specs.Parse.{forest_in}
use Rattle.forest.proofs.ReadBack.{read_as_lem}
use Rattle.layout.specs.Layout.{bins_for}
use Rattle.build_laws.specs.Read.{forest_of}
use Rattle.build_laws.proofs.Builds.{accepted-forest, export-builds}
use Rattle.build_answers.specs.Answers.{build_answer, build_out}
use Rattle.build_answers.proofs.Cases.{build-done}
use Rattle.build_answers.proofs.Hives.{said-is-exported}
use Rattle.std.specs.Prelude.{Ok}

module _ (h : List ℕ) (bytes : AllBelow 256 h) (few : (k : Offset) → Memᴰ k (keys_of h) → (key_of (bins_data h) k).subkeys ≤ 65535)
    (m : List ℕ) {r : Report} (e : check_answer h m ≡ Ok r) where
  -- its export says the forest that its tree is
  pub export-read : forest_in (stream_of h) ≡ forest_of h
  export-read = let w = accepted-forest h bytes few m e in read_as_lem (forest_of h) w.0 w.1

  said : (stream_of h ≡ forest_frames (forest_in (stream_of h))) × OneRoot (forest_in (stream_of h))
  said =
      let w = accepted-forest h bytes few m e in
      (w.0 ∙ ap forest_frames (sym export-read), subst OneRoot (sym export-read) w.1)

  module _ (sd : List ℕ) where
    pub again-built : (room : ℕ) → bins_for (forest_of h) (length sd) ≤ bins_limit → 4096 + bins_for (forest_of h) (length sd) ≤ room
        → build_answer (stream_of h) sd room ≡ Ok (4096 + bins_for (forest_of h) (length sd))
    again-built room fits enough =
        build-done (stream_of h) sd room
        (record {
          fine = export-builds h bytes few m e;
          limit = subst (λ (f : Forest). bins_for f (length sd) ≤ bins_limit) (sym export-read) fits;
          is = ap (λ (f : Forest). 4096 + bins_for f (length sd)) (sym export-read);
        })
        enough

    module _ (out : List ℕ) {n : ℕ} (d : build_answer (stream_of h) sd (length out) ≡ Ok n) where
      pub again-exported : stream_of (take n (build_out (stream_of h) sd out)) ≡ stream_of h
      again-exported = said-is-exported (stream_of h) sd out d said
