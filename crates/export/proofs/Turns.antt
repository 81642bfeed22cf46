-- One frame after the other: what a turn leaves, a run of turns, and frames passed over.
use Prim.Native.Nat.{ℕ, zero, suc, ◌+◌, ◌-◌, ◌*◌, ◌≤◌, ◌<◌}
use native.Mathlib.Omega.{arith}
use native.Mathlib.Nat.{zero-add}
use mathlib.Core.Path.{◌≡◌, refl, sym, ap, ap₂, ◌∙◌, subst}
use mathlib.Core.Bool.{Bool, true, false}
use mathlib.Core.List.{List, [], ◌∷◌, ◌++◌, append_assoc, append-nil}
use lib.Dec.{leb}
use lib.ListN.{length, length-append}
use lib.Seq.{sets, length-sets}
use borrow.Author.Tests.{ne_eqb, leb-true, le-leb}
use Rattle.fields.specs.declared.Offset.{Offset}
use Rattle.fields.specs.declared.Refusal.{Refusal}
use Rattle.cells.specs.Rule.{Header}
use Rattle.records.specs.Keys.{key_fault}
use Rattle.walk.specs.Answers.{key_at}
use Rattle.stream.specs.Stream.{Framed, joined_frames}
use Rattle.stream.proofs.Puts.{put_then, close-length}
use Rattle.stream.proofs.Laws.{open-some, value-some}
use Rattle.stream.proofs.Whole.{joined-append, joined-one, joined-none}
use Rattle.export.specs.declared.Cursor.{Cursor}
use Rattle.export.specs.declared.Frame.{Frame}
use Rattle.export.specs.declared.What.{What}
use Rattle.export.specs.declared.What.TheVariants as what
use Rattle.export.specs.Due.{bytes_due, framed_due, past, due_at, words_behind, depth_behind, cursor_behind}
use Rattle.export.specs.Answers.{short, Packed, none, more, packed_on, packed, not_one, ran_of}
use Rattle.export.specs.Terms.{WhatGoes, FrameLies, turn_of, turn_bytes, turn_words, ended_of, ran_in, went}
use Rattle.export.proofs.Ways.{due-lies, due-known}
use Rattle.export.specs.declared.Progress.{Progress}
use Rattle.std.specs.Prelude.{Err, None, Ok, Option, Result, Some}

-- ---- a turn

module _ {x : Result (Option Frame) Refusal} {f : Frame} (e : x ≡ Ok (Some f)) (room : ℕ) where
  pub words-on : (ws : List ℕ) (n : ℕ) → f.len ≤ room → turn_words ws n x room ≡ words_behind ws n f.what
  words-on ws n p = rw (e, le-leb f.len room p)

  pub bytes_on : (d : List ℕ) → f.len ≤ room → turn_bytes d x room ≡ bytes_due d f.key f.what
  bytes_on d p = rw (e, le-leb f.len room p)

-- what a turn that goes on says
pub record Went-on (x : Result (Option Frame) Refusal) (n room at : ℕ) (c : Cursor) (end : ℕ) : Type 0 where
  pub frame : Frame
  pub comes : x ≡ Ok (Some frame)
  pub fit : frame.len ≤ room
  pub next : c ≡ cursor_behind n frame
  pub end_is : end ≡ at + frame.len

pub went_on_lem : (x : Result (Option Frame) Refusal) (n room at : ℕ) {c : Cursor} {end : ℕ} → turn_of x n room at ≡ Ok (Some (c, end)) → Went-on x n room at c end
went_on_lem (Ok (Some f)) n room at {c} {end} e = by (leb f.len room) refl
  where
    by : (t : Bool) → leb f.len room ≡ t → Went-on (Ok (Some f)) n room at c end
    by true p =
        let q : Ok (Some (cursor_behind n f, at + f.len)) ≡ Ok (Some (c, end)) = rw p at e in
        let s : (cursor_behind n f, at + f.len) ≡ (c, end) = cc in
        let a : cursor_behind n f ≡ c = ap (λ (y : Cursor × ℕ). y.0) s in
        let b : at + f.len ≡ end = ap (λ (y : Cursor × ℕ). y.1) s in
        record { frame = f; comes = refl; fit = leb-true f.len room p; next = sym a; end_is = sym b }
    by false p = absurd (let q : Err (short f.key) ≡ Ok (Some (c, end)) = rw p at e in let z : ◌≡◌ {A = ℕ} 0 1 = cc in omega arith)
went_on_lem (Ok None) n room at e = absurd (let z : ◌≡◌ {A = ℕ} 0 1 = cc in omega arith)
went_on_lem (Err r) n room at e = absurd (let z : ◌≡◌ {A = ℕ} 0 1 = cc in omega arith)

-- and what it leaves on top was tested, where it does not close
pub turn-known : (d : List ℕ) (minor : ℕ) (ws : List ℕ) (c : Cursor) (room at : ℕ) {b : Cursor} {end : ℕ}
    → turn_of (due_at d minor ws c) c.depth room at ≡ Ok (Some (b, end)) → b.due < past
    → key_fault Header d [] (key_at (turn_words ws c.depth (due_at d minor ws c) room) b.depth) ≡ Ok tt
turn-known d minor ws c room at {b} t p =
    let w = went_on_lem (due_at d minor ws c) c.depth room at t in
    let q = subst (λ (x : Cursor). x.due < past) w.next p in
    subst (λ (us : List ℕ). key_fault Header d [] (key_at us b.depth) ≡ Ok tt) (sym (words-on w.comes room ws c.depth w.fit))
    (subst (λ (x : Cursor). key_fault Header d [] (key_at (words_behind ws c.depth w.frame.what) x.depth) ≡ Ok tt) (sym w.next)
    (due-known d minor ws c w.comes q))

-- and one that stops
pub record Stops (x : Result (Option Frame) Refusal) (room : ℕ) (stop : Result (Option Progress) Refusal) : Type 0 where
  pub pack : (d ws : List ℕ) (c : Cursor) (go : List ℕ → Cursor → ℕ → Packed) → packed_on d x ws c room go ≡ none ws c
  pub words : (ws : List ℕ) (n : ℕ) → turn_words ws n x room ≡ ws
  pub bytes : (d : List ℕ) → turn_bytes d x room ≡ []
  pub not-one : not_one x ≡ stop

pub stops-over : (x : Result (Option Frame) Refusal) (n room at : ℕ) → turn_of x n room at ≡ Ok None → Stops x room (Ok None)
stops-over (Ok (Some f)) n room at e = by (leb f.len room) refl
  where
    by : (t : Bool) → leb f.len room ≡ t → Stops (Ok (Some f)) room (Ok None)
    by true p = absurd (let q : Ok (Some (cursor_behind n f, at + f.len)) ≡ (Ok None) = rw p at e in let z : ◌≡◌ {A = ℕ} 0 1 = cc in omega arith)
    by false p = absurd (let q : Err (short f.key) ≡ (Ok None) = rw p at e in let z : ◌≡◌ {A = ℕ} 0 1 = cc in omega arith)
stops-over (Ok None) n room at e = record { pack = λ d ws c go. refl; words = λ ws n. refl; bytes = λ d. refl; not-one = refl }
stops-over (Err r) n room at e = absurd (let z : ◌≡◌ {A = ℕ} 0 1 = cc in omega arith)

pub stops-bad : (x : Result (Option Frame) Refusal) (n room at : ℕ) {r : Refusal} → turn_of x n room at ≡ Err r → Stops x room (Err r)
stops-bad (Ok (Some f)) n room at {r} e = by (leb f.len room) refl
  where
    by : (t : Bool) → leb f.len room ≡ t → Stops (Ok (Some f)) room (Err r)
    by true p = absurd (let q : Ok (Some (cursor_behind n f, at + f.len)) ≡ Err r = rw p at e in let z : ◌≡◌ {A = ℕ} 0 1 = cc in omega arith)
    by false p =
        let q : Err (short f.key) ≡ Err r = rw p at e in
        let s : short f.key ≡ r = cc in
        record { pack = λ d ws c go. rw p; words = λ ws n. rw p; bytes = λ d. rw p; not-one = ap Err s }
stops-bad (Ok None) n room at e = absurd (let z : ◌≡◌ {A = ℕ} 0 1 = cc in omega arith)
stops-bad (Err s) n room at {r} e =
    let q : s ≡ r = cc in
    record { pack = λ d ws c go. refl; words = λ ws n. refl; bytes = λ d. refl; not-one = ap Err q }

-- ---- lengths

-- every frame has some bytes
pub some_bytes : (d : List ℕ) (k : Offset) (w : What) → 6 ≤ length (bytes_due d k w)
some_bytes d k what.Own = open-some d k
some_bytes d k (what.Value x) = value-some d x
some_bytes d k (what.Child e m) = open-some d k
some_bytes d k what.Closing = omega (arith, close-length)

-- the words keep their number, and the depth stands in them
pub same-words : (ws : List ℕ) (n : ℕ) (w : What) → length (words_behind ws n w) ≡ length ws
same-words ws n what.Own = refl
same-words ws n (what.Value x) = refl
same-words ws n (what.Child e m) = length-sets (sets ws (3 * (n - 1) + 1) (m.leaf ∷ m.element ∷ [])) (3 * n) (e.at.0 ∷ 0 ∷ 0 ∷ []) ∙ length-sets ws (3 * (n - 1) + 1) (m.leaf ∷ m.element ∷ [])
same-words ws n what.Closing = refl

pub depth-room : (ws : List ℕ) (n : ℕ) (w : What) → WhatGoes ws n w → 3 * n ≤ length ws → 3 * depth_behind n w ≤ length (words_behind ws n w)
depth-room ws n what.Own g p = p
depth-room ws n (what.Value x) g p = p
depth-room ws n (what.Child e m) g p = let s = same-words ws n (what.Child e m) in omega (arith, g.1)
depth-room ws n what.Closing g p = omega arith

-- behind a frame that comes
pub behind-fits : (d : List ℕ) (minor : ℕ) (ws : List ℕ) (c : Cursor) {f : Frame} → due_at d minor ws c ≡ Ok (Some f) → 3 * c.depth ≤ length ws
    → (3 * (cursor_behind c.depth f).depth ≤ length (words_behind ws c.depth f.what)) × (length (words_behind ws c.depth f.what) ≡ length ws)
behind-fits d minor ws c {f} e p = (depth-room ws c.depth f.what (due-lies d minor ws c e).goes p, same-words ws c.depth f.what)

-- ---- a run

-- what one more frame adds
pub packed_more : (d : List ℕ) (minor n : ℕ) (ws : List ℕ) (c : Cursor) (room : ℕ) (f : Frame) → due_at d minor ws c ≡ Ok (Some f) → f.len ≤ room
    → packed d minor (suc n) ws c room
    ≡ more (framed_due d f) (packed d minor n (words_behind ws c.depth f.what) (cursor_behind c.depth f) (room - f.len))
unfolding packed
packed_more d minor n ws c room f e p = rw (e, le-leb f.len room p)

packed_none : (d : List ℕ) (minor n : ℕ) (ws : List ℕ) (c : Cursor) (room : ℕ) {stop : Result (Option Progress) Refusal} → Stops (due_at d minor ws c) room stop
    → packed d minor n ws c room ≡ none ws c
unfolding packed
packed_none d minor zero ws c room s = refl
packed_none d minor (suc n) ws c room s = s.pack d ws c (packed d minor n)

module _ (d : List ℕ) (minor : ℕ) (ws₀ : List ℕ) (c₀ : Cursor) (out₀ : List ℕ) where
  abbrev all : Packed
  all = packed d minor (length out₀) ws₀ c₀ (length out₀)

  abbrev rest : List ℕ → Cursor → ℕ → ℕ → Packed
  rest ws c at n = packed d minor (length out₀ - n) ws c (length out₀ - at)

  -- before a turn: so many frames are written, and the rest of the run is that of the words and the cursor
  pub record Running (ws : List ℕ) (c : Cursor) (out : List ℕ) (at n : ℕ) : Type 0 where
    pub written : List Framed
    pub frames : all.frames ≡ written ++ (rest ws c at n).frames
    pub levels : all.levels ≡ (rest ws c at n).levels
    pub next : all.behind ≡ (rest ws c at n).behind
    pub bytes : out ≡ sets out₀ 0 (joined_frames written)
    pub end : at ≡ length (joined_frames written)
    pub many : n ≡ length written
    pub fewer : n ≤ at
    pub within : at ≤ length out₀
    pub first : n ≡ 0 → (ws ≡ ws₀) × (c ≡ c₀)
    pub room : 3 * c.depth ≤ length ws
    pub size : length ws ≡ length ws₀

  pub run-start : 3 * c₀.depth ≤ length ws₀ → Running ws₀ c₀ out₀ 0 0
  run-start p =
      let z : length out₀ - 0 ≡ length out₀ = omega arith in
      record {
        written = [];
        frames = rw z;
        levels = rw z;
        next = rw z;
        bytes = ap (sets out₀ 0) (sym joined-none);
        end = sym (ap length joined-none);
        many = refl;
        fewer = omega arith;
        within = omega arith;
        first = λ e. (refl, refl);
        room = p;
        size = refl;
      }

  module _ {ws : List ℕ} {c : Cursor} {out : List ℕ} {at n : ℕ} (r : Running ws c out at n) where
    pub out-size : length out ≡ length out₀
    out-size = ap length r.bytes ∙ length-sets out₀ 0 (joined_frames r.written)

    module _ {c' : Cursor} {end : ℕ} (t : turn_of (due_at d minor ws c) c.depth (length out - at) at ≡ Ok (Some (c', end))) where
      abbrev w : Went-on (due_at d minor ws c) c.depth (length out - at) at c' end
      w = went_on_lem (due_at d minor ws c) c.depth (length out - at) at t

      abbrev f : Frame
      f = w.frame

      tells : FrameLies d ws c.depth f
      tells = due-lies d minor ws c w.comes

      some : 6 ≤ f.len
      some = let a = some_bytes d f.key f.what in let b = tells.len in omega arith

      pub run-less : (at < end) × (end ≤ length out₀) × (n < length out₀)
      run-less =
          let a = w.fit in
          let b = w.end_is in
          let s = some in
          let o = out-size in
          let g = r.within in
          let h = r.fewer in
          (omega arith, omega arith, omega arith)

      pub run-turn : Running (turn_words ws c.depth (due_at d minor ws c) (length out - at)) c'
          (sets out at (turn_bytes d (due_at d minor ws c) (length out - at))) end (n + 1)
      run-turn =
          let o = out-size in
          let a = w.fit in
          let b = w.end_is in
          let s = some in
          let g = r.within in
          let l = tells.len in
          let m = r.fewer in
          let e = r.end in
          let fit : f.len ≤ length out₀ - at = omega arith in
          let i : length out₀ - n ≡ suc (length out₀ - (n + 1)) = omega arith in
          let j : length out₀ - at - f.len ≡ length out₀ - end = omega arith in
          let ws' = words_behind ws c.depth f.what in
          let p = ap (λ (k : ℕ). packed d minor k ws c (length out₀ - at)) i
          ∙ packed_more d minor (length out₀ - (n + 1)) ws c (length out₀ - at) f w.comes fit
          ∙ ap (λ (k : ℕ). more (framed_due d f) (packed d minor (length out₀ - (n + 1)) ws' (cursor_behind c.depth f) k)) j
          ∙ ap (λ (x : Cursor). more (framed_due d f) (packed d minor (length out₀ - (n + 1)) ws' x (length out₀ - end))) (sym w.next) in
          let one = framed_due d f ∷ [] in
          let x : joined_frames (r.written ++ one) ≡ joined_frames r.written ++ bytes_due d f.key f.what =
          joined-append r.written one ∙ ap (λ (u : List ℕ). joined_frames r.written ++ u) (joined-one (framed_due d f)) in
          let y = length-append (joined_frames r.written) (bytes_due d f.key f.what) in
          let lw = ap length x in
          let lm = length-append r.written one in
          let q = r.many in
          let wd = words-on w.comes (length out - at) ws c.depth w.fit in
          let bt = bytes_on w.comes (length out - at) d w.fit in
          rw (wd, bt)
          (record {
            written = r.written ++ one;
            frames = r.frames ∙ ap (λ (u : Packed). r.written ++ u.frames) p ∙ sym (append_assoc r.written one _);
            levels = r.levels ∙ ap (λ (u : Packed). u.levels) p;
            next = r.next ∙ ap (λ (u : Packed). u.behind) p;
            bytes =
                ap (λ (u : List ℕ). sets u at (bytes_due d f.key f.what)) r.bytes
                ∙ sym (ap (sets out₀ 0) x ∙ put_then (joined_frames r.written) (bytes_due d f.key f.what) out₀ 0 at (e ∙ sym (zero-add _)));
            end = omega arith;
            many = omega arith;
            fewer = omega arith;
            within = omega arith;
            first = λ z. absurd (omega arith);
            room = let dr = depth-room ws c.depth f.what tells.goes r.room in subst (λ (u : Cursor). 3 * u.depth ≤ length ws') (sym w.next) dr;
            size = same-words ws c.depth f.what ∙ r.size;
          })

    -- where no turn goes on
    module _ {stop : Result (Option Progress) Refusal} (s : Stops (due_at d minor ws c) (length out - at) stop) where
      last : rest ws c at n ≡ none ws c
      last = packed_none d minor (length out₀ - n) ws c (length out₀ - at) (subst (λ (k : ℕ). Stops (due_at d minor ws c) (k - at) stop) out-size s)

      whole : all.frames ≡ r.written
      whole = r.frames ∙ ap (λ (u : Packed). r.written ++ u.frames) last ∙ append-nil r.written

      pub stop-levels : turn_words ws c.depth (due_at d minor ws c) (length out - at) ≡ all.levels
      stop-levels = s.words ws c.depth ∙ sym (r.levels ∙ ap (λ (u : Packed). u.levels) last)

      pub stop-out : sets out at (turn_bytes d (due_at d minor ws c) (length out - at)) ≡ sets out₀ 0 (joined_frames all.frames)
      stop-out = ap (sets out at) (s.bytes d) ∙ r.bytes ∙ ap (λ (u : List Framed). sets out₀ 0 (joined_frames u)) (sym whole)

      pub stop-answer : ended_of stop n at c ≡ ran_in d minor ws₀ c₀ (length out₀)
      unfolding ran_in
      stop-answer =
          by r.written refl
          ∙ ap₂ (λ (u : List Framed) (v : Cursor). ran_of (due_at d minor ws₀ c₀) u v) (sym whole) (sym (r.next ∙ ap (λ (u : Packed). u.behind) last))
        where
          by : (fs : List Framed) → r.written ≡ fs → ended_of stop n at c ≡ ran_of (due_at d minor ws₀ c₀) r.written c
          by [] e =
              let z : n ≡ 0 = r.many ∙ ap length e in
              let k = r.first z in
              rw (e, z) (sym s.not-one ∙ ap₂ (λ (u : List ℕ) (v : Cursor). not_one (due_at d minor u v)) k.0 k.1)
          by (x ∷ fs) e =
              let z : n ≡ suc (length fs) = r.many ∙ ap length e in
              let y = r.end ∙ ap (λ (u : List Framed). length (joined_frames u)) e in
              rw (e, ne_eqb n 0 (λ q. omega arith)) (ap₂ (λ (i j : ℕ). Ok (Some (record { frames = i; bytes = j; next = c }))) z y)

-- ---- frames passed over

module _ (d : List ℕ) (minor : ℕ) (n : ℕ) (ws : List ℕ) (c : Cursor) where
  pub went-none : n ≡ 0 → went d minor n ws c ≡ record { answer = Ok (Some c); levels = ws }
  unfolding went
  went-none e = rw e

  module _ (some : 0 < n) where
    more_left : n ≡ suc (n - 1)
    more_left = omega arith

    pub went-comes : {f : Frame} → due_at d minor ws c ≡ Ok (Some f)
        → went d minor n ws c ≡ went d minor (n - 1) (words_behind ws c.depth f.what) (cursor_behind c.depth f)
    unfolding went
    went-comes e = ap (λ (k : ℕ). went d minor k ws c) more_left ∙ rw e

    pub went-over : due_at d minor ws c ≡ Ok None → went d minor n ws c ≡ record { answer = Ok None; levels = ws }
    unfolding went
    went-over e = ap (λ (k : ℕ). went d minor k ws c) more_left ∙ rw e

    pub went-bad : {r : Refusal} → due_at d minor ws c ≡ Err r → went d minor n ws c ≡ record { answer = Err r; levels = ws }
    unfolding went
    went-bad e = ap (λ (k : ℕ). went d minor k ws c) more_left ∙ rw e

-- ---- by these names the attributes in the code cite them

pub ruleset of_run = (turn-known, stops-over, stops-bad, run-start, out-size, run-less, run-turn, stop-levels, stop-out, stop-answer)

pub ruleset of_pass = (due-lies, behind-fits, went-none, went-comes, went-over, went-bad)
