-- What stands in the buffer: the built hive, which the check accepts and whose export is the stream again; and the buffer as it was, where it is refused.
use Prim.Native.Nat.{ℕ, ◌-◌, ◌/◌, ◌≤◌, ◌<◌}
use native.Mathlib.Omega.{arith}
use mathlib.Core.Path.{◌≡◌, sym, ap, subst, ◌∙◌}
use mathlib.Core.List.{List, ◌++◌}
use lib.ListN.{length, take, drop, length-append, length-drop}
use lib.Seq.{take_at, drop_at}
use Rattle.tree.specs.Tree.{check_answer}
use Rattle.stream.specs.Stream.{stream_of}
use Rattle.forest.specs.Forest.{forest_frames}
use Rattle.forest.specs.Allowed.{AllBelow, OneRoot}
use Rattle.forest.specs.Parse.{forest_in}
use Rattle.forest.proofs.ReadBack.{read-exactly}
use Rattle.layout.specs.Layout.{bins_for, built_hive}
use Rattle.layout.proofs.Base.{built-length}
use Rattle.build_laws.proofs.Exports.{built-exports}
use Rattle.build_laws.proofs.Accepted.{report_for, built-accepted}
use Rattle.build_answers.specs.declared.Unbuilt.{Unbuilt}
use Rattle.build_answers.specs.Answers.{too_long, measure_answer, in_room, build_answer, out_after, build_out}
use Rattle.build_answers.proofs.Cases.{Sized, measured-exactly, done-exactly, build-done, build-long}
use Rattle.std.specs.Prelude.{Err, Ok, Result}

module _ (s sd : List ℕ) where
  -- the hive is built exactly where there is as much room as was measured
  pub measured-builds : {k : ℕ} (room : ℕ) → measure_answer s (length sd) ≡ Ok k → k ≤ room → build_answer s sd room ≡ Ok k
  measured-builds {k} room e h = build-done s sd room ((measured-exactly s (length sd) k).0 e) h

  pub builds-measured : {k : ℕ} (room : ℕ) → build_answer s sd room ≡ Ok k → (measure_answer s (length sd) ≡ Ok k) × (k ≤ room)
  builds-measured {k} room e = let w = (done-exactly s sd room k).0 e in ((measured-exactly s (length sd) k).1 w.0, w.1)

  pub measured-long : {k : ℕ} (room : ℕ) → measure_answer s (length sd) ≡ Ok k → room < k → build_answer s sd room ≡ too_long
  measured-long {k} room e h = build-long s sd room ((measured-exactly s (length sd) k).0 e) h

  -- what is refused without a buffer is refused with any
  pub refused-builds : {u : Unbuilt} (room : ℕ) → measure_answer s (length sd) ≡ Err u → build_answer s sd room ≡ Err u
  unfolding build_answer in_room
  refused-builds room e = ap (λ (a : Result ℕ Unbuilt). in_room a room) e

  module _ (out : List ℕ) where
    -- "then the buffer is untouched"
    pub refused-leaves : {u : Unbuilt} → build_answer s sd (length out) ≡ Err u → build_out s sd out ≡ out
    unfolding build_out
    refused-leaves e = ap (λ (a : Result ℕ Unbuilt). out_after a (built_hive (forest_in s) sd) out) e

    module _ {n : ℕ} (e : build_answer s sd (length out) ≡ Ok n) where
      abbrev hive : List ℕ
      hive = built_hive (forest_in s) sd

      known : Sized s (length sd) n × (n ≤ length out)
      known = (done-exactly s sd (length out) n).0 e

      hive-length : length hive ≡ n
      hive-length = built-length (forest_in s) sd ∙ sym known.0.is

      -- the hive, and then what stood behind it
      pub written : build_out s sd out ≡ hive ++ drop (length hive) out
      unfolding build_out
      written = ap (λ (a : Result ℕ Unbuilt). out_after a hive out) e

      -- "success writes exactly the hive's bytes, and those behind them stay"
      pub built-there : take n (build_out s sd out) ≡ hive
      built-there = ap (take n) written ∙ take_at hive (drop (length hive) out) n hive-length

      pub built-behind : drop n (build_out s sd out) ≡ drop n out
      built-behind = ap (drop n) written ∙ drop_at hive (drop (length hive) out) n hive-length ∙ ap (λ (k : ℕ). drop k out) hive-length

      pub built-room : length (build_out s sd out) ≡ length out
      built-room =
          let a = ap length written in
          let b = length-append hive (drop (length hive) out) in
          let c = length-drop (length hive) out in
          let d = hive-length in
          let h = known.1 in
          omega arith

      -- of a stream that is the frames of the forest that it says
      module _ (said : (s ≡ forest_frames (forest_in s)) × OneRoot (forest_in s)) where
        -- "The built hive is accepted"
        pub said-is-accepted : (m : List ℕ) → (n - 4096) / 64 ≤ length m
            → check_answer (take n (build_out s sd out)) m ≡ Ok (report_for (forest_in s) (length sd))
        said-is-accepted m room =
            let i = known.0.is in
            let b : n - 4096 ≡ bins_for (forest_in s) (length sd) = omega arith in
            ap (λ (h : List ℕ). check_answer h m) built-there
            ∙ built-accepted (forest_in s) sd said.1 known.0.limit m (subst (λ (k : ℕ). k / 64 ≤ length m) b room)

        -- "and its export is the stream it came from"
        pub said-is-exported : stream_of (take n (build_out s sd out)) ≡ s
        said-is-exported =
            ap (λ (h : List ℕ). stream_of h) built-there ∙ built-exports (forest_in s) sd said.1 known.0.limit ∙ sym said.0

      -- the theorems, of any bytes
      module _ (bytes : AllBelow 256 s) where
        pub built-is-accepted : (m : List ℕ) → (n - 4096) / 64 ≤ length m
            → check_answer (take n (build_out s sd out)) m ≡ Ok (report_for (forest_in s) (length sd))
        built-is-accepted = said-is-accepted ((read-exactly s bytes).0 known.0.fine)

        pub built-is-exported : stream_of (take n (build_out s sd out)) ≡ s
        built-is-exported = said-is-exported ((read-exactly s bytes).0 known.0.fine)
