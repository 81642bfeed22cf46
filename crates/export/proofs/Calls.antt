-- The public calls: a law for each way out.
use Prim.Native.Nat.{ℕ, zero, suc, ◌-◌, ◌*◌, ◌≤◌, ◌<◌}
use native.Mathlib.Omega.{arith}
use mathlib.Core.Path.{◌≡◌, refl, sym, ap, ◌∙◌}
use mathlib.Core.Bool.{Bool, true, false}
use mathlib.Core.List.{List, [], ◌∷◌}
use lib.Dec.{leb}
use lib.ListN.{length, length-append}
use lib.Seq.{sets}
use borrow.Author.Tests.{leb-true, le-leb, lt-leb}
use Rattle.fields.specs.declared.Flaw.{Flaw}
use Rattle.fields.specs.declared.Offset.{Offset}
use Rattle.fields.specs.Faults.{no_key, refusal_of}
use Rattle.fields.proofs.Firsts.{on}
use Rattle.base.specs.Block.{bins_data, base_fault}
use Rattle.cells.proofs.Fronts.{front-facts}
use Rattle.cells.proofs.Mapped.{surveyed}
use Rattle.tree.specs.declared.Report.{Report}
use Rattle.tree.specs.Tree.{hive_of, check_answer}
use Rattle.tree.proofs.Exactly.{accepted-as}
use Rattle.stream.specs.Stream.{joined_frames}
use Rattle.export.specs.declared.Cursor.{Cursor}
use Rattle.export.specs.Due.{words, run_fault, bytes_due, due_at, words_behind, cursor_behind}
use Rattle.export.specs.Answers.{short, start, begin_answer, begin_levels, packed, run_answer, run_out, run_levels}
use Rattle.export.specs.Terms.{turn_of, turn_bytes, ran_in, Went, went, stepped_on, stepped_by, bytes_by, root_words, stepped_in, bytes_in}
use Rattle.export.proofs.Ways.{due-lies}
use Rattle.export.proofs.Exports.{put-start}
use Rattle.export.specs.declared.Frame.{Frame}
use Rattle.fields.specs.declared.Refusal.{Refusal}
use Rattle.std.specs.Prelude.{Err, None, Ok, Option, Result, Some}

pub accepted-base : (h m : List ℕ) {x : Report} → check_answer h m ≡ Ok x → base_fault h ≡ Ok tt
accepted-base h m e = let a = accepted-as h m e in (front-facts h (length m) (surveyed h m a.tally a.surveys).0).0

-- ---- begin

module _ (h m ws : List ℕ) {x : Report} (e : check_answer h m ≡ Ok x) where
  pub begin-short : length ws < words → (begin_answer h m ws ≡ Err (short no_key)) × (begin_levels h m ws ≡ ws)
  unfolding begin_answer begin_levels
  begin-short p = let q = lt-leb words (length ws) p in (rw (e, q), rw (e, q))

  pub begin-on : words ≤ length ws → (begin_answer h m ws ≡ Ok start) × (begin_levels h m ws ≡ sets ws 0 ((hive_of h).root.0 ∷ 0 ∷ 0 ∷ []))
  unfolding begin_answer begin_levels
  begin-on p = let q = le-leb words (length ws) p in (rw (e, q), rw (e, q))

-- ---- a run

-- what is packed fits
packed-fits : (d : List ℕ) (minor n : ℕ) (ws : List ℕ) (c : Cursor) (room : ℕ) → length (joined_frames (packed d minor n ws c room).frames) ≤ room
unfolding packed joined_frames
packed-fits d minor zero ws c room = omega arith
packed-fits d minor (suc n) ws c room = by (packed-fits d minor n) (due_at d minor ws c) refl
  where
    by : ((vs : List ℕ) (a : Cursor) (i : ℕ) → length (joined_frames (packed d minor n vs a i).frames) ≤ i) → (y : Result (Option Frame) Refusal) → due_at d minor ws c ≡ y → length (joined_frames (packed d minor (suc n) ws c room).frames) ≤ room
    by rest (Ok None) p = rw p (omega arith)
    by rest (Err r) p = rw p (omega arith)
    by rest (Ok (Some f)) p = test (leb f.len room) refl
      where
        b : List ℕ
        b = bytes_due d f.key f.what

        more : List ℕ
        more = joined_frames (packed d minor n (words_behind ws c.depth f.what) (cursor_behind c.depth f) (room - f.len)).frames

        test : (t : Bool) → leb f.len room ≡ t → length (joined_frames (packed d minor (suc n) ws c room).frames) ≤ room
        test true q =
            let l = (due-lies d minor ws c p).len in
            let r = rest (words_behind ws c.depth f.what) (cursor_behind c.depth f) (room - f.len) in
            let a = length-append b more in
            let s = leb-true f.len room q in
            rw (p, q) (omega arith)
        test false q = rw (p, q) (omega arith)

module _ (h ws : List ℕ) (c : Cursor) (out : List ℕ) where
  module _ (e : base_fault h ≡ Ok tt) where
    few : {f : Flaw} → run_fault h ws c ≡ Err f
        → (run_answer h ws c (length out) ≡ Err (refusal_of no_key f)) × (run_levels h ws c (length out) ≡ ws) × (run_out h ws c out ≡ out)
    unfolding run_answer run_levels run_out
    few z = (rw z, rw z, rw z)

    pub run-few : length ws < words
        → (run_answer h ws c (length out) ≡ Err (short no_key)) × (run_levels h ws c (length out) ≡ ws) × (run_out h ws c out ≡ out)
    unfolding run_fault
    run-few p = few (on (base_fault h) _ e ∙ rw (lt-leb words (length ws) p))

    pub run-deep : words ≤ length ws → length ws < 3 * c.depth
        → (run_answer h ws c (length out) ≡ Err (short no_key)) × (run_levels h ws c (length out) ≡ ws) × (run_out h ws c out ≡ out)
    unfolding run_fault
    run-deep p q = few (on (base_fault h) _ e ∙ rw (le-leb words (length ws) p, lt-leb (3 * c.depth) (length ws) q))

    pub run_on : words ≤ length ws → 3 * c.depth ≤ length ws
        → (run_answer h ws c (length out) ≡ ran_in (bins_data h) (hive_of h).minor ws c (length out))
        × (run_levels h ws c (length out) ≡ (packed (bins_data h) (hive_of h).minor (length out) ws c (length out)).levels)
        × (run_out h ws c out ≡ sets out 0 (joined_frames (packed (bins_data h) (hive_of h).minor (length out) ws c (length out)).frames))
    unfolding run_answer run_levels run_out run_fault ran_in
    run_on p q =
        let z : run_fault h ws c ≡ (Ok tt) = on (base_fault h) _ e ∙ rw (le-leb words (length ws) p, le-leb (3 * c.depth) (length ws) q) in
        let b = joined_frames (packed (bins_data h) (hive_of h).minor (length out) ws c (length out)).frames in
        (rw z, rw z, rw z (sym (put-start out b (packed-fits (bins_data h) (hive_of h).minor (length out) ws c (length out)))))

    -- the same, each for itself
    pub few_levels : length ws < words → run_levels h ws c (length out) ≡ ws
    few_levels p = (run-few p).1

    pub few_out : length ws < words → run_out h ws c out ≡ out
    few_out p = (run-few p).2

    pub deep_levels : words ≤ length ws → length ws < 3 * c.depth → run_levels h ws c (length out) ≡ ws
    deep_levels p q = (run-deep p q).1

    pub deep_out : words ≤ length ws → length ws < 3 * c.depth → run_out h ws c out ≡ out
    deep_out p q = (run-deep p q).2

-- ---- a step

module _ (d : List ℕ) (minor : ℕ) (root : Offset) (n : ℕ) (out : List ℕ) where
  abbrev g : Went
  g = went d minor n (root_words root) start

  pub step_by : {x : Result (Option Cursor) Refusal} → x ≡ g.answer
      → (stepped_in d minor root n (length out) ≡ stepped_by d minor (length out) g.levels x)
      × (sets out 0 (bytes_in d minor root n (length out)) ≡ sets out 0 (bytes_by d minor (length out) g.levels x))
  unfolding stepped_in bytes_in
  step_by e = (rw e, rw e)

  pub turn_by : {c : Cursor} {ws : List ℕ} {t : Result (Option (Cursor × ℕ)) Refusal} → Ok (Some c) ≡ g.answer → ws ≡ g.levels → t ≡ turn_of (due_at d minor ws c) c.depth (length out - 0) 0
      → (stepped_on t ≡ stepped_in d minor root n (length out))
      × (sets out 0 (turn_bytes d (due_at d minor ws c) (length out - 0)) ≡ sets out 0 (bytes_in d minor root n (length out)))
  turn_by {c} {ws} {t} e f q =
      let z : length out - 0 ≡ length out = omega arith in
      let s = step_by e in
      (ap stepped_on q ∙ rw (z, f) (sym s.0), rw (z, f) (sym s.1))

-- ---- by these names the attributes in the code cite them

pub ruleset of_begin = (accepted-base, begin-short, begin-on)

pub ruleset of_run = (run-few, run-deep, run_on, few_levels, few_out, deep_levels, deep_out)

pub ruleset of_step = (step_by, turn_by)
