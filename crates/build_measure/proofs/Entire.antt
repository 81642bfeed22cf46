-- The whole stream: its first frame, the root, and what follows the root's closing.
use Prim.Native.Nat.{ℕ, ◌+◌, ◌^◌, ◌≤◌, ◌<◌}
use native.Mathlib.Omega.{arith}
use mathlib.Core.Path.{◌≡◌, refl, sym, ap, ap₂, subst, ◌∙◌}
use mathlib.Core.Bool.{true, false}
use mathlib.Core.List.{List, [], ◌∷◌, ◌++◌}
use lib.ListN.{length, drop, length-drop, drop_of_length-le}
use Rattle.layout.specs.Layout.{cell_size, stored, values_size, list_size, leaf_size, size_of}
use Rattle.stream.specs.Stream.{close_frame}
use Rattle.fields.specs.declared.Flaw.{Flaw}
use Rattle.fields.specs.declared.Fault.TheVariants.{NoFrame, Unbalanced, NameSize}
use Rattle.fields.specs.Faults.{flaw, nowhere, ◌next◌, Verdict}
use Rattle.forest.specs.Forest.{Item, Forest, none, more, count_of, key_count, key_frame, item_frames, forest_frames}
use Rattle.forest.specs.Allowed.{AllBelow, KeyName, allowed-none, allowed-more, OneRoot}
use Rattle.forest.specs.Faults.{Shape as Said, unlaid, opens, holds, closes, frame_len, shape_of, within, over, fresh, open_in, close_in, behind, subkeys_seen, level_of, is_over, is_laid, is_timely, is_inside, is_above, is_sorted, is_single, is_named, frame_fault, Wrong, judge, stream_fault}
use Rattle.forest.proofs.Judge.{judge-end, judge-stop, judge-on}
use Rattle.forest.proofs.Back.{key_back, key-back-fits}
use Rattle.forest.proofs.Unique.{forest-unique}
use Rattle.forest.proofs.Tests.{laid-fits, passed-name, root-sound}
use Rattle.build_frames.specs.declared.Opening.{Opening}
use Rattle.build_frames.specs.Terms.{name_in, Ends}
use Rattle.build_frames.proofs.Names.{key-short}
use Rattle.build_measure.specs.declared.Tested.{Tested}
use Rattle.build_measure.specs.declared.Whole.{Whole}
use Rattle.build_measure.specs.Terms.{cap, ClosedAs, RootOpens, RootFrame, FirstAs, AfterAs, RootFits, Summed, FitsAs}
use Rattle.build_measure.proofs.Sizes.{cap-few}
use Rattle.build_measure.proofs.Sums.{cap-later}
use Rattle.build_measure.proofs.Faulty.{unlaid-here}
use Rattle.std.specs.Prelude.{Err, Ok, Result}

-- ---- a frame where no key is open

-- a value and a closing before the root
value-outside : (v : Item) → frame_fault (holds v) (within []) ≡ Err (flaw Unbalanced nowhere)
unfolding frame_fault ◌next◌ is_laid is_timely is_inside subkeys_seen level_of
value-outside v = refl

close-outside : frame_fault closes (within []) ≡ Err (flaw Unbalanced nowhere)
unfolding frame_fault ◌next◌ is_laid is_timely is_inside level_of
close-outside = refl

root-misnamed : (n : ℕ) (x : List ℕ) → is_named (opens n x) ≡ false → frame_fault (opens n x) (within []) ≡ Err (flaw NameSize nowhere)
unfolding frame_fault ◌next◌ is_laid is_timely is_inside is_over is_above is_sorted is_single subkeys_seen
root-misnamed n x e = rw e

-- any behind it
key-after : (n : ℕ) (x : List ℕ) → frame_fault (opens n x) over ≡ Err (flaw Unbalanced nowhere)
unfolding frame_fault ◌next◌ is_laid is_timely is_inside is_over
key-after n x = refl

value_after : (v : Item) → frame_fault (holds v) over ≡ Err (flaw Unbalanced nowhere)
unfolding frame_fault ◌next◌ is_laid is_timely is_inside subkeys_seen level_of
value_after v = refl

close-after : frame_fault closes over ≡ Err (flaw Unbalanced nowhere)
unfolding frame_fault ◌next◌ is_laid is_timely is_inside level_of
close-after = refl

-- ---- the first frame

module _ (s : List ℕ) where
  pub no_frames : length s ≡ 0 → stream_fault s ≡ Wrong (flaw Unbalanced nowhere) 0
  no_frames e = judge-end s 0 (within []) e

  module _ (some : length s ≡ 0 → ⊥) where
    first-wrong : {f : Said} {x : Flaw} → shape_of (drop 0 s) ≡ f → frame_fault f (within []) ≡ Err x → stream_fault s ≡ Wrong x 0
    first-wrong e q = judge-stop s 0 (within []) (omega (arith, some)) (ap (λ (g : Said). frame_fault g (within [])) e ∙ q)

    pub first-unlaid : shape_of (drop 0 s) ≡ unlaid → stream_fault s ≡ Wrong (flaw NoFrame nowhere) 0
    first-unlaid e = first-wrong e (unlaid-here (within []))

    pub first-value : {v : Item} → shape_of (drop 0 s) ≡ holds v → stream_fault s ≡ Wrong (flaw Unbalanced nowhere) 0
    first-value {v} e = first-wrong e (value-outside v)

    pub first-closes : shape_of (drop 0 s) ≡ closes → stream_fault s ≡ Wrong (flaw Unbalanced nowhere) 0
    first-closes e = first-wrong e close-outside

  module _ {o : Opening} (r : RootOpens s o) where
    pub root-laid : is_laid (shape_of (drop 0 s)) ≡ true
    unfolding is_laid
    root-laid = ap is_laid r.says

    some-frame : length s ≡ 0 → ⊥
    some-frame e = let f = laid-fits s root-laid in let a = f.0 in let b = f.1 in omega arith

    pub first-misnamed : is_named (opens o.stamp (name_in s o.name)) ≡ false → stream_fault s ≡ Wrong (flaw NameSize nowhere) 0
    first-misnamed e = first-wrong some-frame r.says (root-misnamed o.stamp (name_in s o.name) e)

-- ---- behind the root

module _ (s : List ℕ) (p : ℕ) (inside : p ≤ length s) (some : p ≡ length s → ⊥) where
  after-wrong : {f : Said} {x : Flaw} → shape_of (drop p s) ≡ f → frame_fault f over ≡ Err x → judge (drop p s) p over ≡ Wrong x p
  after-wrong e q =
      let l = length-drop p s in
      judge-stop (drop p s) p over (omega (arith, inside, some)) (ap (λ (g : Said). frame_fault g over) e ∙ q)

  pub after-unlaid : shape_of (drop p s) ≡ unlaid → {v : Verdict} → v ≡ Err (flaw NoFrame nowhere) → AfterAs s p v
  after-unlaid e q = subst (AfterAs s p) (sym q) (after-wrong e (unlaid-here over))

  pub after-opens : {n : ℕ} {x : List ℕ} → shape_of (drop p s) ≡ opens n x → {v : Verdict} → v ≡ Err (flaw Unbalanced nowhere) → AfterAs s p v
  after-opens {n} {x} e q = subst (AfterAs s p) (sym q) (after-wrong e (key-after n x))

  pub after_holds : {v : Item} → shape_of (drop p s) ≡ holds v → {u : Verdict} → u ≡ Err (flaw Unbalanced nowhere) → AfterAs s p u
  after_holds {v} e q = subst (AfterAs s p) (sym q) (after-wrong e (value_after v))

  pub after-closes : shape_of (drop p s) ≡ closes → {v : Verdict} → v ≡ Err (flaw Unbalanced nowhere) → AfterAs s p v
  after-closes e q = subst (AfterAs s p) (sym q) (after-wrong e close-after)

-- ---- the root

module _ (s : List ℕ) (bytes : AllBelow 256 s) {o : Opening} (r : RootFrame s o) {e : ℕ} (n : Ends s 0 e) where
  abbrev name : List ℕ
  name = name_in s o.name

  abbrev named : is_named (opens o.stamp name) ≡ true
  named = sym (ap is_named r.opens.says) ∙ r.named

  root-name : KeyName name
  root-name = passed-name o.stamp name (key-back-fits s bytes o.stamp name r.opens.says).codes-fit named

  -- behind its opening frame
  opened : stream_fault s ≡ judge (drop e s) e (within (fresh ∷ []))
  unfolding behind open_in
  opened =
      let f = laid-fits s (root-laid s r.opens) in
      let a = f.0 in
      let b = f.1 in
      let q : frame_len s ≡ e = let z = n.is in omega arith in
      judge-on s 0 (within []) (omega arith) (ap (λ (g : Said). frame_fault g (within [])) r.opens.says ∙ root-sound o.stamp name root-name)
      ∙ ap (λ (g : Said). judge (drop (frame_len s) s) (0 + frame_len s) (behind g (within []))) r.opens.says
      ∙ ap₂ (λ (i j : ℕ). judge (drop i s) j (within (fresh ∷ []))) q (let z = n.is in omega arith)

  pub root-wrong : {f : Flaw} {p : ℕ} → judge (drop e s) e (within (fresh ∷ [])) ≡ Wrong f p → stream_fault s ≡ Wrong f p
  root-wrong q = opened ∙ q

  module _ {t : Tested} (c : ClosedAs s e 0 t) where
    pub root-fits : length s < 2 ^ 64 → RootFits s o t
    root-fits long =
        let z = cap-few (values_size c.items + (list_size (length c.items) + (size_of c.below + leaf_size (count_of c.below)))) in
        let y = c.size_is in
        let u = c.room in
        let v = c.inside in
        record {
          lies = r.opens.lies;
          short = key-short s o.name r.opens.lies o.stamp named;
          below-fits = omega arith;
          keys-fit = omega arith;
        }

    -- behind its closing frame
    closed : stream_fault s ≡ judge (drop t.at s) t.at over
    unfolding close_in
    closed = opened ∙ c.judged [] refl

    pub after-flawed : {f : Flaw} → AfterAs s t.at (Err f) → stream_fault s ≡ Wrong f t.at
    after-flawed q = closed ∙ q

    abbrev forest : Forest
    forest = more o.stamp name c.items c.below none

    module _ (z : t.at ≡ length s) where
      nothing : drop t.at s ≡ []
      nothing = drop_of_length-le s {i = t.at} (omega (arith, z))

      whole-frames : s ≡ forest_frames forest
      unfolding forest_frames
      whole-frames =
          let y = n.is in
          let q : frame_len s ≡ e = omega arith in
          key_back s bytes o.stamp name r.opens.says
          ∙ ap (λ (u : List ℕ). key_frame o.stamp name ++ u)
          (ap (λ (i : ℕ). drop i s) q ∙ c.frames ∙ ap (λ (u : List ℕ). item_frames c.items ++ (forest_frames c.below ++ (close_frame ++ u))) nothing)

      whole-root : OneRoot forest
      unfolding count_of
      whole-root = record {
        single = refl;
        allowed = allowed-more (c.own o.stamp name (key-back-fits s bytes o.stamp name r.opens.says).stamp root-name) c.levels allowed-none;
      }

      pub whole-fits : {w : Whole} → Summed s o t w → FitsAs s w
      unfolding size_of key_count
      whole-fits x =
          let v = values_size c.items + (list_size (length c.items) + (size_of c.below + leaf_size (count_of c.below))) in
          let own = cell_size (76 + length (stored name)) in
          let y : own + v ≡ size_of forest = omega arith in
          let k = x.keys in
          let l = c.keys in
          record {
            fine = closed ∙ judge-end (drop t.at s) t.at over (ap length nothing);
            forest = forest;
            frames = whole-frames;
            root = whole-root;
            size_is = x.size_is ∙ ap (λ (m : ℕ). cap (own + m)) c.size_is ∙ cap-later own v ∙ ap cap y;
            keys = omega arith;
          }

-- the sums are those of any such forest
pub fits-any : {s : List ℕ} {r : Whole} → FitsAs s r → (f : Forest) → s ≡ forest_frames f → OneRoot f → (r.size ≡ cap (size_of f)) × (r.keys ≡ key_count f)
fits-any x f e o =
    let q = forest-unique x.root o (sym x.frames ∙ e) in
    (x.size_is ∙ ap (λ (g : Forest). cap (size_of g)) q, x.keys ∙ ap key_count q)

-- ---- what an answer says, by its variant

module _ (s : List ℕ) {r : Result Opening Flaw} where
  pub told-root : {o : Opening} → r ≡ Ok o → FirstAs s r → RootFrame s o
  told-root e x = subst (FirstAs s) e x

module _ (s : List ℕ) (p : ℕ) {v : Verdict} where
  pub told-end : v ≡ Ok tt → AfterAs s p v → p ≡ length s
  told-end e x = subst (AfterAs s p) e x

  pub told-after : {f : Flaw} → v ≡ Err f → AfterAs s p v → AfterAs s p (Err f)
  told-after e x = subst (AfterAs s p) e x
