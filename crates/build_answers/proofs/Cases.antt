-- When each answer is given.
use Prim.Native.Nat.{ℕ, ◌+◌, ◌≤◌, ◌<◌}
use native.Mathlib.Omega.{arith}
use mathlib.Core.Path.{◌≡◌, refl, sym, ap, ap₂, subst, ◌∙◌}
use mathlib.Core.Logic.{◌↔◌}
use mathlib.Core.Bool.{Bool, true, false, cond}
use mathlib.Core.List.{List}
use lib.Dec.{leb}
use lib.ListN.{length}
use borrow.Author.Tests.{leb-true, leb-false, le-leb, lt-leb}
use Rattle.fields.specs.declared.Fault.TheVariants.{OutputShort}
use Rattle.fields.specs.declared.Flaw.{Flaw}
use Rattle.fields.specs.Faults.{number_of, flaw, nowhere}
use Rattle.base.specs.Block.{bins_limit}
use Rattle.forest.specs.Forest.{Forest, forest_frames}
use Rattle.forest.specs.Allowed.{OneRoot}
use Rattle.forest.specs.Faults.{Judged, Fine, Wrong, stream_fault}
use Rattle.forest.specs.Parse.{forest_in}
use Rattle.forest.proofs.Written.{written-fine}
use Rattle.forest.proofs.ReadBack.{read_as_lem}
use Rattle.forest.proofs.First.{wrong-number}
use Rattle.layout.specs.Layout.{used_of, bins_for}
use Rattle.layout.proofs.Sizes.{bins-whole}
use Rattle.build_answers.specs.Answers.{unbuilt, too_large, too_long, number_in, behind_frames, size_answer, measure_answer, in_room, build_answer}
use Rattle.build_answers.specs.declared.Unbuilt.{Unbuilt}
use Rattle.std.specs.Prelude.{Err, Ok, Result}

-- ---- what an answer holds

same_length : {j k : ℕ} → ◌≡◌ {A = Result ℕ Unbuilt} (Ok j) (Ok k) → j ≡ k
same_length e = cc

flaw_in : Result ℕ Unbuilt → Flaw
flaw_in (Ok k) = flaw OutputShort nowhere
flaw_in (Err u) = flaw u.refusal.fault u.refusal.place

spot_in : Result ℕ Unbuilt → ℕ
spot_in (Ok k) = 0
spot_in (Err u) = u.at.0

-- the limit is a multiple of 4096, so the bins size passes it exactly when the sum does that is rounded up
pub within-limit : (f : Forest) (n : ℕ) → (bins_for f n ≤ bins_limit) ↔ (used_of f n ≤ bins_limit)
within-limit f n = let w = bins-whole f n in (λ h. omega arith, λ h. omega arith)

-- the answer, by the bins size
module _ (bins : ℕ) where
  pub size-large : bins_limit < bins → size_answer bins ≡ too_large
  unfolding size_answer
  size-large h = rw (lt-leb bins bins_limit h)

  pub size-done : bins ≤ bins_limit → size_answer bins ≡ Ok (4096 + bins)
  unfolding size_answer
  size-done h = rw (le-leb bins bins_limit h)

module _ (s : List ℕ) where
  -- ---- without a buffer

  module _ (n : ℕ) where
    abbrev bins : ℕ
    bins = bins_for (forest_in s) n

    -- each answer, and what then is known
    pub data Measured : Result ℕ Unbuilt → Type 0 where
      sized : stream_fault s ≡ Fine → bins ≤ bins_limit → Measured (Ok (4096 + bins))
      over-limit : stream_fault s ≡ Fine → bins_limit < bins → Measured too_large
      at-fault : {f : Flaw} {at : ℕ} → stream_fault s ≡ Wrong f at → Measured (unbuilt f at)

    by_size : stream_fault s ≡ Fine → (t : Bool) → leb bins bins_limit ≡ t → Measured (cond t (Ok (4096 + bins)) too_large)
    by_size e true q = sized e (leb-true bins bins_limit q)
    by_size e false q = over-limit e (leb-false bins bins_limit q)

    in-limit : stream_fault s ≡ Fine → Measured (size_answer bins)
    unfolding size_answer
    in-limit e = by_size e (leb bins bins_limit) refl

    pub measured : Measured (measure_answer s n)
    unfolding measure_answer
    measured = by (stream_fault s) refl
      where
        by : (j : Judged) → stream_fault s ≡ j → Measured (behind_frames j (size_answer bins))
        by Fine e = in-limit e
        by (Wrong f at) e = at-fault e

    -- the answer, by the stream's fault and the bins size
    pub measure-wrong : {f : Flaw} {at : ℕ} → stream_fault s ≡ Wrong f at → measure_answer s n ≡ unbuilt f at
    unfolding measure_answer
    measure-wrong e = rw e

    pub measure-large : stream_fault s ≡ Fine → bins_limit < bins → measure_answer s n ≡ too_large
    unfolding measure_answer
    measure-large e h = rw e (size-large bins h)

    pub measure-done : stream_fault s ≡ Fine → bins ≤ bins_limit → measure_answer s n ≡ Ok (4096 + bins)
    unfolding measure_answer
    measure-done e h = rw e (size-done bins h)

    -- of the frames of a forest
    pub measure-as : (f : Forest) → s ≡ forest_frames f → OneRoot f → measure_answer s n ≡ size_answer (bins_for f n)
    unfolding measure_answer
    measure-as f e o =
        ap (λ (j : Judged). behind_frames j (size_answer bins)) (ap (λ (u : List ℕ). stream_fault u) e ∙ written-fine f o)
        ∙ ap (λ (g : Forest). size_answer (bins_for g n)) (read_as_lem f e o)

    -- what a length says
    pub record Sized (k : ℕ) : Type 0 where
      pub fine : stream_fault s ≡ Fine
      pub limit : bins ≤ bins_limit
      pub is : k ≡ 4096 + bins

    done-sized : {a : Result ℕ Unbuilt} {k : ℕ} → Measured a → a ≡ Ok k → Sized k
    done-sized (sized e h) q = record { fine = e; limit = h; is = sym (same_length q) }
    done-sized (over-limit e h) q = absurd (let z : ◌≡◌ {A = ℕ} 0 1 = cc in omega arith)
    done-sized (at-fault e) q = absurd (let z : ◌≡◌ {A = ℕ} 0 1 = cc in omega arith)

    pub measured-exactly : (k : ℕ) → (measure_answer s n ≡ Ok k) ↔ Sized k
    measured-exactly k = (done-sized measured, λ z. measure-done z.fine z.limit ∙ ap Ok (sym z.is))

  -- ---- into a buffer

  module _ (sd : List ℕ) (room : ℕ) where
    pub build-wrong : {f : Flaw} {at : ℕ} → stream_fault s ≡ Wrong f at → build_answer s sd room ≡ unbuilt f at
    unfolding build_answer in_room
    build-wrong e = ap (λ (a : Result ℕ Unbuilt). in_room a room) (measure-wrong (length sd) e)

    pub build-large : stream_fault s ≡ Fine → bins_limit < bins (length sd) → build_answer s sd room ≡ too_large
    unfolding build_answer in_room
    build-large e h = ap (λ (a : Result ℕ Unbuilt). in_room a room) (measure-large (length sd) e h)

    pub build-long : {k : ℕ} → Sized (length sd) k → room < k → build_answer s sd room ≡ too_long
    unfolding build_answer in_room
    build-long {k} z h = ap (λ (a : Result ℕ Unbuilt). in_room a room) ((measured-exactly (length sd) k).1 z) ∙ ap (λ (t : Bool). cond t (Ok k) too_long) (lt-leb k room h)

    pub build-done : {k : ℕ} → Sized (length sd) k → k ≤ room → build_answer s sd room ≡ Ok k
    unfolding build_answer in_room
    build-done {k} z h = ap (λ (a : Result ℕ Unbuilt). in_room a room) ((measured-exactly (length sd) k).1 z) ∙ ap (λ (t : Bool). cond t (Ok k) too_long) (le-leb k room h)

    -- the same with the room
    pub data Answered : Result ℕ Unbuilt → Type 0 where
      done : {k : ℕ} → Sized (length sd) k → k ≤ room → Answered (Ok k)
      long : {k : ℕ} → Sized (length sd) k → room < k → Answered too_long
      large : stream_fault s ≡ Fine → bins_limit < bins (length sd) → Answered too_large
      wrong : {f : Flaw} {at : ℕ} → stream_fault s ≡ Wrong f at → Answered (unbuilt f at)

    by-room : (k : ℕ) → Sized (length sd) k → (t : Bool) → leb k room ≡ t → Answered (cond t (Ok k) too_long)
    by-room k z true q = done z (leb-true k room q)
    by-room k z false q = long z (leb-false k room q)

    in-room : {a : Result ℕ Unbuilt} → Measured (length sd) a → Answered (in_room a room)
    unfolding in_room
    in-room (sized e h) = by-room (4096 + bins (length sd)) (record { fine = e; limit = h; is = refl }) (leb (4096 + bins (length sd)) room) refl
    in-room (over-limit e h) = large e h
    in-room (at-fault e) = wrong e

    pub answered : Answered (build_answer s sd room)
    unfolding build_answer
    answered = in-room (measured (length sd))

    to-done : {a : Result ℕ Unbuilt} {k : ℕ} → Answered a → a ≡ Ok k → Sized (length sd) k × (k ≤ room)
    to-done {k = k} (done {k = j} z h) q = let e : j ≡ k = same_length q in (subst (Sized (length sd)) e z, omega arith)
    to-done (long z h) q = absurd (let y : ◌≡◌ {A = ℕ} 0 1 = cc in omega arith)
    to-done (large e h) q = absurd (let y : ◌≡◌ {A = ℕ} 0 1 = cc in omega arith)
    to-done (wrong e) q = absurd (let y : ◌≡◌ {A = ℕ} 0 1 = cc in omega arith)

    to-long : {a : Result ℕ Unbuilt} → Answered a → a ≡ too_long → (stream_fault s ≡ Fine) × (bins (length sd) ≤ bins_limit) × (room < 4096 + bins (length sd))
    unfolding number_in
    to-long (done z h) q = absurd (let y = ap number_in q in omega arith)
    to-long (long z h) q = let e = z.is in (z.fine, z.limit, omega arith)
    to-long (large e h) q = absurd (let y = ap number_in q in omega arith)
    to-long (wrong {f = f} {at = at} e) q = absurd (let y = ap number_in q in let w = (wrong-number s f at e).0 in omega arith)

    to-large : {a : Result ℕ Unbuilt} → Answered a → a ≡ too_large → (stream_fault s ≡ Fine) × (bins_limit < bins (length sd))
    unfolding number_in
    to-large (done z h) q = absurd (let y = ap number_in q in omega arith)
    to-large (long z h) q = absurd (let y = ap number_in q in omega arith)
    to-large (large e h) q = (e, h)
    to-large (wrong {f = f} {at = at} e) q = absurd (let y = ap number_in q in let w = (wrong-number s f at e).1 in omega arith)

    to-wrong : {a : Result ℕ Unbuilt} {f : Flaw} {at : ℕ} → Answered a → a ≡ unbuilt f at → 30 ≤ number_of f.fault → number_of f.fault ≤ 38 → stream_fault s ≡ Wrong f at
    unfolding number_in flaw_in spot_in
    to-wrong (done z h) q l r = absurd (let y = ap number_in q in omega arith)
    to-wrong (long z h) q l r = absurd (let y = ap number_in q in omega arith)
    to-wrong (large e h) q l r = absurd (let y = ap number_in q in omega arith)
    to-wrong (wrong e) q l r = e ∙ ap₂ Wrong (ap flaw_in q) (ap spot_in q)

    -- the theorems: when the hive is built, and when 39, 20 and one of 30 to 38 is the answer
    pub done-exactly : (k : ℕ) → (build_answer s sd room ≡ Ok k) ↔ (Sized (length sd) k × (k ≤ room))
    done-exactly k = (to-done answered, λ w. build-done w.0 w.1)

    pub thirty-nine-exactly : (build_answer s sd room ≡ too_large) ↔ ((stream_fault s ≡ Fine) × (bins_limit < bins (length sd)))
    thirty-nine-exactly = (to-large answered, λ w. build-large w.0 w.1)

    pub twenty-exactly : (build_answer s sd room ≡ too_long) ↔ ((stream_fault s ≡ Fine) × (bins (length sd) ≤ bins_limit) × (room < 4096 + bins (length sd)))
    twenty-exactly = (to-long answered, λ w. build-long (record { fine = w.0; limit = w.1; is = refl }) w.2)

    pub wrong-exactly : (f : Flaw) (at : ℕ)
        → ((build_answer s sd room ≡ unbuilt f at) × (30 ≤ number_of f.fault) × (number_of f.fault ≤ 38)) ↔ (stream_fault s ≡ Wrong f at)
    wrong-exactly f at = (λ w. to-wrong answered w.0 w.1 w.2, λ e. let n = wrong-number s f at e in (build-wrong e, n.0, n.1))
