-- In an accepted hive: step n gives frame n, and runs give the stream in pieces.
use Prim.Native.Nat.{ℕ, zero, suc, ◌+◌, ◌-◌, ◌*◌, ◌≤◌, ◌<◌}
use native.Mathlib.Omega.{arith}
use native.Mathlib.Nat.{zero-add}
use mathlib.Core.Path.{◌≡◌, refl, sym, ap, ◌∙◌, subst}
use mathlib.Core.Bool.{Bool, true, false}
use mathlib.Core.List.{List, [], ◌∷◌, ◌++◌, append_assoc}
use lib.Dec.{leb}
use lib.ListN.{length, get_or, take, drop, replicate, length-replicate}
use lib.Seq.{sets, sets-eq, take_at, drop_at, drop-drop}
use borrow.Author.Tests.{leb-true, leb-false, le-leb, lt-leb}
use Rattle.fields.proofs.Firsts.{on}
use Rattle.base.specs.Block.{bins_data, base_fault}
use Rattle.base.proofs.Laws.{facts-base}
use Rattle.cells.proofs.Fronts.{front-facts}
use Rattle.cells.proofs.Mapped.{surveyed}
use Rattle.tree.specs.declared.Report.{Report}
use Rattle.tree.specs.Tree.{hive_of, check_answer}
use Rattle.tree.specs.WellFormed.{CleanAndWellFormed}
use Rattle.tree.proofs.Exactly.{accepted-as, accepted-exactly}
use Rattle.walk.proofs.Lists.{Standing, begun, begun-stands}
use Rattle.stream.specs.Stream.{Framed, frames_of, stream_of, joined_frames}
use Rattle.stream.proofs.Whole.{joined-append, frames-joined}
use Rattle.export.specs.declared.Cursor.{Cursor}
use Rattle.export.specs.declared.Frame.{Frame}
use Rattle.export.specs.declared.Progress.{Progress}
use Rattle.export.specs.Due.{words, run_fault, bytes_due, framed_due, due_at, words_behind, depth_behind, cursor_behind}
use Rattle.export.specs.Answers.{short, no_frame, fits, step_from, step_answer, out_after, step_out, start, begin_answer, begin_levels, Packed, more, packed, ran_of, run_packed, run_answer, run_out, run_levels}
use Rattle.export.specs.Terms.{Went, went, stepped_by, bytes_by, root_words, stepped_in, bytes_in}
use Rattle.export.specs.Coming.{coming_frames}
use Rattle.export.specs.Runs.{Reached, begins, runs, Goes}
use Rattle.export.proofs.Ways.{due-over, due-lies}
use Rattle.export.proofs.Turns.{some_bytes, packed_more}
use Rattle.export.proofs.Coming.{Gives, one-frame, all-coming}
use Rattle.fields.specs.declared.Refusal.{Refusal}
use Rattle.std.specs.Prelude.{Err, None, Ok, Option, Result, Some}

-- a hive that the check accepts is clean and well formed
pub accepted-formed : (h m : List ℕ) {x : Report} → check_answer h m ≡ Ok x → CleanAndWellFormed h
accepted-formed h m {x} e =
    let a = accepted-as h m e in
    let s = surveyed h m a.tally a.surveys in
    (accepted-exactly h m (front-facts h (length m) s.0).1).0 (x, e)

-- ---- frame n of a list

step-cons : (x : Framed) (fs : List Framed) (n room : ℕ) → step_from (x ∷ fs) (suc n) room ≡ step_from fs n room
unfolding step_from
step-cons x fs n room = by (leb (length fs) n) refl
  where
    by : (t : Bool) → leb (length fs) n ≡ t → step_from (x ∷ fs) (suc n) room ≡ step_from fs n room
    by true e = let p = leb-true (length fs) n e in rw (e, le-leb (suc (length fs)) (suc n) (omega arith))
    by false e = let p = leb-false (length fs) n e in rw (e, lt-leb (suc (length fs)) (suc n) (omega arith))

step-none : (n room : ℕ) → step_from [] n room ≡ Ok None
unfolding step_from
step-none n room = rw (le-leb 0 n (omega arith))

step-first : (x : Framed) (fs : List Framed) (room : ℕ) → step_from (x ∷ fs) 0 room ≡ fits x room
unfolding step_from
step-first x fs room = rw (lt-leb (suc (length fs)) 0 (omega arith))

-- what is put at the start
pub put-start : (out b : List ℕ) → length b ≤ length out → sets out 0 b ≡ b ++ drop (length b) out
put-start out b p = sets-eq b out 0 (omega arith) ∙ ap (λ (k : ℕ). b ++ drop k out) (zero-add (length b))

module _ (h : List ℕ) (w : CleanAndWellFormed h) where
  abbrev d : List ℕ
  d = bins_data h

  abbrev minor : ℕ
  minor = (hive_of h).minor

  abbrev at : ℕ → ℕ → Cursor
  at n due = record { depth = n; due = due }

  nothing-comes : (ws : List ℕ) (due : ℕ) → coming_frames d minor ws 0 due ≡ []
  unfolding coming_frames
  nothing-comes ws due = refl

  over : (ws : List ℕ) (due : ℕ) → due_at d minor ws (at 0 due) ≡ Ok None
  over ws due = due-over d minor ws (at 0 due) refl

  -- ---- steps

  -- passing over n frames, and then one that is written
  module _ (out : List ℕ) where
    abbrev room : ℕ
    room = length out

    record Right (g : Went) (fs : List Framed) (n : ℕ) : Type 0 where
      answers : stepped_by d minor room g.levels g.answer ≡ step_from fs n room
      leaves : sets out 0 (bytes_by d minor room g.levels g.answer) ≡ out_after (step_from fs n room) (get_or fs n no_frame).bytes out

    now-fits : (f : Frame) (ws : List ℕ) (n due : ℕ) (fs : List Framed) → due_at d minor ws (at n due) ≡ Ok (Some f) → f.len ≡ length (bytes_due d f.key f.what)
        → (t : Bool) → leb (length (bytes_due d f.key f.what)) room ≡ t
        → Right (record { answer = Ok (Some (at n due)); levels = ws }) (framed_due d f ∷ fs) 0
    now-fits f ws n due fs e l true q =
        let b = bytes_due d f.key f.what in
        record {
          answers = rw (e, l, q, step-first (framed_due d f) fs room, q) (ap (λ (x : ℕ). Ok (Some x)) (zero-add (length b)));
          leaves = rw (e, l, q, step-first (framed_due d f) fs room, q) (put-start out b (leb-true (length b) room q));
        }
    now-fits f ws n due fs e l false q =
        record {
          answers = rw (e, l, q, step-first (framed_due d f) fs room, q);
          leaves = rw (e, l, q, step-first (framed_due d f) fs room, q);
        }

    passes : (n : ℕ) (ws : List ℕ) (k due : ℕ) → Standing h ws k → Right (went d minor n ws (at k due)) (coming_frames d minor ws k due) n
    unfolding went
    passes zero ws zero due st =
        let z = nothing-comes ws due in
        record { answers = rw (over ws due, z, step-none 0 room); leaves = rw (over ws due, z, step-none 0 room) }
    passes (suc n) ws zero due st =
        let z = nothing-comes ws due in
        record { answers = rw (over ws due, z, step-none (suc n) room); leaves = rw (over ws due, z, step-none (suc n) room) }
    passes zero ws (suc k) due st =
        let g = one-frame h w ws k due st in
        let f = g.frame in
        subst (λ (fs : List Framed). Right (record { answer = Ok (Some (at (suc k) due)); levels = ws }) fs 0) (sym g.gives)
        (now-fits f ws (suc k) due _ g.is (due-lies d minor ws (at (suc k) due) g.is).len (leb (length (bytes_due d f.key f.what)) room) refl)
    passes (suc n) ws (suc k) due st =
        let g = one-frame h w ws k due st in
        let f = g.frame in
        let fs = coming_frames d minor (words_behind ws (suc k) f.what) (depth_behind (suc k) f.what) f.due in
        let r = passes n (words_behind ws (suc k) f.what) (depth_behind (suc k) f.what) f.due g.standing in
        record {
          answers = rw (g.is, g.gives, step-cons (framed_due d f) fs n room) r.answers;
          leaves = rw (g.is, g.gives, step-cons (framed_due d f) fs n room) r.leaves;
        }

    -- from the root on
    root-right : (n : ℕ) → Right (went d minor n (root_words (hive_of h).root) start) (frames_of h) n
    unfolding begun
    root-right n =
        let ws : List ℕ = replicate words 0 in
        let l = length-replicate {A = ℕ} words 0 in
        subst (λ (fs : List Framed). Right (went d minor n (root_words (hive_of h).root) start) fs n) (all-coming h w ws (omega arith))
        (passes n (begun h w ws (omega arith)) 1 0 (begun-stands h w ws (omega arith)))

    pub step_is : (m : List ℕ) {x : Report} → check_answer h m ≡ Ok x → (n : ℕ)
        → (stepped_in d minor (hive_of h).root n room ≡ step_answer h m n room) × (sets out 0 (bytes_in d minor (hive_of h).root n room) ≡ step_out h m n out)
    unfolding stepped_in bytes_in step_answer step_out
    step_is m e n = let r = root-right n in (rw e r.answers, rw e r.leaves)

  -- ---- runs

  record Runs (p : Packed) (fs : List Framed) : Type 0 where
    splits : fs ≡ p.frames ++ coming_frames d minor p.levels p.behind.depth p.behind.due
    stands : Standing h p.levels p.behind.depth

  packs : (fuel : ℕ) (ws : List ℕ) (k due room : ℕ) → Standing h ws k → Runs (packed d minor fuel ws (at k due) room) (coming_frames d minor ws k due)
  unfolding packed
  packs zero ws k due room st = record { splits = refl; stands = st }
  packs (suc n) ws zero due room st = rw (over ws due) (record { splits = refl; stands = st })
  packs (suc n) ws (suc k) due room st =
      by (packs n (words_behind ws (suc k) g.frame.what) (depth_behind (suc k) g.frame.what) g.frame.due (room - g.frame.len) g.standing)
      (leb g.frame.len room) refl
    where
      g : Gives h w ws (suc k) due
      g = one-frame h w ws k due st

      f : Frame
      f = g.frame

      ws' : List ℕ
      ws' = words_behind ws (suc k) f.what

      by : Runs (packed d minor n ws' (at (depth_behind (suc k) f.what) f.due) (room - f.len)) (coming_frames d minor ws' (depth_behind (suc k) f.what) f.due)
          → (t : Bool) → leb f.len room ≡ t → Runs (packed d minor (suc n) ws (at (suc k) due) room) (coming_frames d minor ws (suc k) due)
      by r true e = rw (g.is, e) (record { splits = g.gives ∙ ap (λ (fs : List Framed). framed_due d f ∷ fs) r.splits; stands = r.stands })
      by r false e = rw (g.is, e) (record { splits = refl; stands = st })

  base : base_fault h ≡ Ok tt
  base = facts-base h w.is-clean w.inside

  -- the open keys stand in the words
  deep : (ws : List ℕ) (k : ℕ) → Standing h ws k → 3 * k ≤ length ws
  deep ws zero st = omega arith
  deep ws (suc k) st = let o = st.each k (omega arith) in let v = st.words in omega (arith, o.level)

  run_sound : (ws : List ℕ) (c : Cursor) → Standing h ws c.depth → run_fault h ws c ≡ Ok tt
  unfolding run_fault
  run_sound ws c st = on (base_fault h) _ base ∙ rw (le-leb 1539 (length ws) st.words, le-leb (3 * c.depth) (length ws) (deep ws c.depth st))

  -- a run answers by what it packed
  ran-by : (ws : List ℕ) (c : Cursor) → Standing h ws c.depth → (room : ℕ)
      → run_answer h ws c room ≡ ran_of (due_at d minor ws c) (run_packed h ws c room).frames (run_packed h ws c room).behind
  unfolding run_answer
  ran-by ws c st room = rw (run_sound ws c st)

  -- with no key open, with room for the frame that is due, and with less
  ran_over : (ws : List ℕ) (due room : ℕ) → Standing h ws 0 → run_answer h ws (at 0 due) room ≡ Ok None
  unfolding packed
  ran_over ws due room st = ran-by ws (at 0 due) st room ∙ rw (over ws due, none-packed room)
    where
      none-packed : (n : ℕ) → (packed d minor n ws (at 0 due) room).frames ≡ []
      none-packed zero = refl
      none-packed (suc n) = rw (over ws due)

  module _ (ws : List ℕ) (k due : ℕ) (st : Standing h ws (suc k)) where
    g : Gives h w ws (suc k) due
    g = one-frame h w ws k due st

    abbrev f : Frame
    f = g.frame

    f-len : f.len ≡ length (bytes_due d f.key f.what)
    f-len = (due-lies d minor ws (at (suc k) due) g.is).len

    ran-more : (room : ℕ) → f.len ≤ room → (p : Progress) × (run_answer h ws (at (suc k) due) room ≡ Ok (Some p)) × (0 < p.frames)
    ran-more zero q = absurd (let s = some_bytes d f.key f.what in let l = f-len in omega arith)
    ran-more (suc room) q =
        let e = packed_more d minor room ws (at (suc k) due) (suc room) f g.is q in
        let pk = more (framed_due d f) (packed d minor room (words_behind ws (suc k) f.what) (cursor_behind (suc k) f) (suc room - f.len)) in
        (record { frames = length pk.frames; bytes = length (joined_frames pk.frames); next = pk.behind }, ran-by ws (at (suc k) due) st (suc room) ∙ rw e, omega arith)

    ran-waits : (room : ℕ) → room < f.len → run_answer h ws (at (suc k) due) room ≡ Err (short f.key)
    unfolding packed
    ran-waits room q = ran-by ws (at (suc k) due) st room ∙ rw (none-packed room, g.is)
      where
        none-packed : (n : ℕ) → (packed d minor n ws (at (suc k) due) room).frames ≡ []
        none-packed zero = refl
        none-packed (suc n) = rw (g.is, lt-leb f.len room q)

  -- what holds wherever runs have come
  record Come (ws : List ℕ) (c : Cursor) (s : List ℕ) : Type 0 where
    stands : Standing h ws c.depth
    done : ℕ
    last : coming_frames d minor ws c.depth c.due ≡ drop done (frames_of h)
    whole : stream_of h ≡ s ++ joined_frames (coming_frames d minor ws c.depth c.due)

  head-is : {x y : Framed} {xs ys : List Framed} → x ∷ xs ≡ y ∷ ys → x ≡ y
  head-is e = cc

  goes_on : (ws : List ℕ) (k due : ℕ) (s : List ℕ) → Come ws (at k due) s → Goes h ws (at k due) s
  goes_on ws zero due s come =
      let z = nothing-comes ws due in
      record {
        left = coming_frames d minor ws 0 due;
        done = come.done;
        last = come.last;
        whole = come.whole;
        ends = λ e room. ran_over ws due room come.stands;
        goes = λ x xs e room q. absurd (let y = sym (ap length z) ∙ ap length e in omega arith);
        waits = λ x xs e room q. absurd (let y = sym (ap length z) ∙ ap length e in omega arith);
      }
  goes_on ws (suc k) due s come =
      let r = g ws k due come.stands in
      let l = f-len ws k due come.stands in
      record {
        left = coming_frames d minor ws (suc k) due;
        done = come.done;
        last = come.last;
        whole = come.whole;
        ends = λ e room. absurd (let y = sym (ap length r.gives) ∙ ap length e in omega arith);
        goes = λ x xs e room q.
            let y = head-is (sym r.gives ∙ e) in
            let v = ap (λ (z : Framed). length z.bytes) y in
            ran-more ws k due come.stands room (omega arith);
        waits = λ x xs e room q.
            let y = head-is (sym r.gives ∙ e) in
            let v = ap (λ (z : Framed). length z.bytes) y in
            ran-waits ws k due come.stands room (omega arith) ∙ ap (λ (z : Framed). Err (short z.key)) y;
      }

  -- what a run that wrote says
  record Wrote (x : List Framed) (c : Cursor) (p : Progress) : Type 0 where
    bytes : p.bytes ≡ length (joined_frames x)
    next : p.next ≡ c

  wrote : (y : Result (Option Frame) Refusal) (x : List Framed) (c : Cursor) {p : Progress} → ran_of y x c ≡ Ok (Some p) → Wrote x c p
  wrote (Ok (Some f)) [] c e = absurd (let z : ◌≡◌ {A = ℕ} 0 1 = cc in omega arith)
  wrote (Ok None) [] c e = absurd (let z : ◌≡◌ {A = ℕ} 0 1 = cc in omega arith)
  wrote (Err r) [] c e = absurd (let z : ◌≡◌ {A = ℕ} 0 1 = cc in omega arith)
  wrote y (f ∷ fs) c {p} e =
      let q : ◌≡◌ {A = Progress} (record { frames = length (f ∷ fs); bytes = length (joined_frames (f ∷ fs)); next = c }) p = cc in
      record { bytes = ap (λ (r : Progress). r.bytes) (sym q); next = ap (λ (r : Progress). r.next) (sym q) }

  come-on : (ws : List ℕ) (c : Cursor) (s out : List ℕ) {p : Progress} → Come ws c s → run_answer h ws c (length out) ≡ Ok (Some p)
      → Come (run_levels h ws c (length out)) p.next (s ++ take p.bytes (run_out h ws c out))
  unfolding run_levels run_out
  come-on ws c s out {p} come e =
      let room = length out in
      let k = run_packed h ws c room in
      let v = wrote (due_at d minor ws c) k.frames k.behind (sym (ran-by ws c come.stands room) ∙ e) in
      let r = packs room ws c.depth c.due room come.stands in
      let b = joined_frames k.frames in
      let fs = coming_frames d minor k.levels k.behind.depth k.behind.due in
      let t : take p.bytes (b ++ drop (length b) out) ≡ b = take_at b (drop (length b) out) p.bytes (sym v.bytes) in
      rw (run_sound ws c come.stands, v.next, t)
      (record {
        stands = r.stands;
        done = come.done + length k.frames;
        last =
            sym (drop_at k.frames fs (length k.frames) refl)
            ∙ ap (drop (length k.frames)) (sym r.splits ∙ come.last)
            ∙ drop-drop (length k.frames) come.done (frames_of h);
        whole =
            come.whole ∙ ap (λ (x : List Framed). s ++ joined_frames x) r.splits ∙ ap (λ (x : List ℕ). s ++ x) (joined-append k.frames fs)
            ∙ sym (append_assoc s b (joined_frames fs));
      })

  module _ (m : List ℕ) where
    -- begin on an accepted hive
    begun-comes : (ws : List ℕ) {c : Cursor} → begin_answer h m ws ≡ Ok c → Come (begin_levels h m ws) c []
    unfolding begin_levels begin_answer begun
    begun-comes ws {c} e = by (check_answer h m) refl
      where
        by : (x : Result Report Refusal) → check_answer h m ≡ x → Come (begin_levels h m ws) c []
        by (Err r) q = absurd (let y = rw q at e in let z : ◌≡◌ {A = ℕ} 0 1 = cc in omega arith)
        by (Ok r) q = room (leb words (length ws)) refl
          where
            room : (t : Bool) → leb words (length ws) ≡ t → Come (begin_levels h m ws) c []
            room false f = absurd (let y = rw (q, f) at e in let z : ◌≡◌ {A = ℕ} 0 1 = cc in omega arith)
            room true f =
                let y : ◌≡◌ {A = Result Cursor Refusal} (Ok start) (Ok c) = rw (q, f) at e in
                let i : start ≡ c = cc in
                let v = leb-true words (length ws) f in
                rw (q, f, ← i)
                (record {
                  stands = begun-stands h w ws v;
                  done = 0;
                  last = all-coming h w ws v;
                  whole = sym (frames-joined h) ∙ ap joined_frames (sym (all-coming h w ws v));
                })

    comes : {ws : List ℕ} {c : Cursor} {s : List ℕ} → Reached h m ws c s → Come ws c s
    comes (begins ws e) = begun-comes ws e
    comes (runs out r e) = come-on _ _ _ out (comes r) e

    -- "begin on an accepted hive, then runs [..] give stream_of h in pieces and then Done; never another refusal"
    pub run-law : {ws : List ℕ} {c : Cursor} {s : List ℕ} → Reached h m ws c s → Goes h ws c s
    run-law {ws} {c} {s} r = goes_on ws c.depth c.due s (comes r)

-- ---- by these names the attributes in the code cite them

pub ruleset accepted = (accepted-formed, step_is)
