-- The answers of a step, of the start of runs and of a run, and what is written. h is the hive, m the lent work map, ws the lent words, out the lent buffer.
use Rattle.std.specs.Prelude.{ℕ, zero, suc, ◌-◌, cond, List, [], ◌∷◌, ◌++◌, leb, length, get_or, drop, Err, None, Ok, Option, Result, Some}
use Rattle.std.proofs.lemmas.List.Edits.{sets}
use Rattle.fields.specs.declared.Fault.TheVariants.{OutputShort}
use Rattle.fields.specs.declared.Offset.{Offset}
use Rattle.fields.specs.declared.Refusal.{Refusal}
use Rattle.fields.specs.Faults.{flaw, nowhere, no_key, refusal_of, Verdict}
use Rattle.base.specs.Block.{bins_data}
use Rattle.tree.specs.Tree.{hive_of, check_answer}
use Rattle.stream.specs.Stream.{Framed, frames_of, joined_frames}
use Rattle.export.specs.declared.Cursor.{Cursor}
use Rattle.export.specs.Due.{words, run_fault, framed_due, due_at, words_behind, cursor_behind}
use Rattle.export.specs.declared.Frame.{Frame}
use Rattle.export.specs.declared.Progress.{Progress}
use Rattle.tree.specs.declared.Report.{Report}

-- ---- a step: "each step takes a frame number and writes that one frame into the lent buffer"

-- "refuses with 20 (key: the frame's)"
abbrev pub short : Offset → Refusal
short k = refusal_of k (flaw OutputShort nowhere)

-- what stands past the last frame: nothing
abbrev pub no_frame : Framed
no_frame = record { key = no_key; bytes = [] }

abbrev pub fits : Framed → ℕ → Result (Option ℕ) Refusal
fits f room = cond (leb (length f.bytes) room) (Ok (Some (length f.bytes))) (Err (short f.key))

-- "says "done" past the last frame"
unfoldable pub step_from : List Framed → ℕ → ℕ → Result (Option ℕ) Refusal
step_from fs n room = cond (leb (length fs) n) (Ok None) (fits (get_or fs n no_frame) room)

-- "Hives not accepted are refused by the check's own number."
abbrev pub on_checked : {A : Type 0} → Result Report Refusal → (Refusal → A) → A → A
on_checked (Err r) stop go = stop r
on_checked (Ok x) stop go = go

unfoldable pub step_answer : List ℕ → List ℕ → ℕ → ℕ → Result (Option ℕ) Refusal
step_answer h m n room = on_checked (check_answer h m) Err (step_from (frames_of h) n room)

-- the buffer afterwards: frame n, and then what stood behind it; on all else "leaves that buffer"
abbrev pub out_after : Result (Option ℕ) Refusal → List ℕ → List ℕ → List ℕ
out_after (Ok (Some k)) bytes out = bytes ++ drop (length bytes) out
out_after (Ok None) bytes out = out
out_after (Err r) bytes out = out

unfoldable pub step_out : List ℕ → List ℕ → ℕ → List ℕ → List ℕ
step_out h m n out = out_after (step_answer h m n (length out)) (get_or (frames_of h) n no_frame).bytes out

-- ---- the start of runs: the check, and then the root is open. "Both calls want 1,539 words: fewer is 20, key none."

abbrev pub start : Cursor
start = record { depth = 1; due = 0 }

unfoldable pub begin_answer : List ℕ → List ℕ → List ℕ → Result Cursor Refusal
begin_answer h m ws = on_checked (check_answer h m) Err (cond (leb words (length ws)) (Ok start) (Err (short no_key)))

abbrev pub levels_begun : Result Cursor Refusal → Offset → List ℕ → List ℕ
levels_begun (Ok c) root ws = sets ws 0 (root.0 ∷ 0 ∷ 0 ∷ [])
levels_begun (Err r) root ws = ws

unfoldable pub begin_levels : List ℕ → List ℕ → List ℕ → List ℕ
begin_levels h m ws = levels_begun (begin_answer h m ws) (hive_of h).root ws

-- ---- a run: "as many whole frames as fit, one after the other"

-- the frames that are written, and the words and the cursor behind them
pub record Packed : Type 0 where
  pub frames : List Framed
  pub levels : List ℕ
  pub behind : Cursor

abbrev pub none : List ℕ → Cursor → Packed
none ws c = record { frames = []; levels = ws; behind = c }

abbrev pub more : Framed → Packed → Packed
more f p = record { frames = f ∷ p.frames; levels = p.levels; behind = p.behind }

-- with so much room; each frame has some bytes, so that there are at most as many frames as bytes
abbrev pub packed_on : List ℕ → Result (Option Frame) Refusal → List ℕ → Cursor → ℕ → (List ℕ → Cursor → ℕ → Packed) → Packed
packed_on d (Ok (Some f)) ws c room go =
    cond (leb f.len room) (more (framed_due d f) (go (words_behind ws c.depth f.what) (cursor_behind c.depth f) (room - f.len))) (none ws c)
packed_on d (Ok None) ws c room go = none ws c
packed_on d (Err r) ws c room go = none ws c

unfoldable pub packed : List ℕ → ℕ → ℕ → List ℕ → Cursor → ℕ → Packed
packed d minor zero ws c room = none ws c
packed d minor (suc n) ws c room = packed_on d (due_at d minor ws c) ws c room (packed d minor n)

-- "not even one: 20 with the frame's key"; "A refusal met behind written frames is left to the next run."
abbrev pub not_one : Result (Option Frame) Refusal → Result (Option Progress) Refusal
not_one (Ok (Some f)) = Err (short f.key)
not_one (Ok None) = Ok None
not_one (Err r) = Err r

abbrev pub ran_of : Result (Option Frame) Refusal → List Framed → Cursor → Result (Option Progress) Refusal
ran_of x [] c = not_one x
ran_of x (f ∷ fs) c = Ok (Some (record { frames = length (f ∷ fs); bytes = length (joined_frames (f ∷ fs)); next = c }))

abbrev pub run_packed : List ℕ → List ℕ → Cursor → ℕ → Packed
run_packed h ws c room = packed (bins_data h) (hive_of h).minor room ws c room

abbrev pub on_run : {A : Type 0} → Verdict → (Refusal → A) → A → A
on_run (Ok tt) stop go = go
on_run (Err f) stop go = stop (refusal_of no_key f)

unfoldable pub run_answer : List ℕ → List ℕ → Cursor → ℕ → Result (Option Progress) Refusal
run_answer h ws c room =
    let p = run_packed h ws c room in
    on_run (run_fault h ws c) Err (ran_of (due_at (bins_data h) (hive_of h).minor ws c) p.frames p.behind)

unfoldable pub run_out : List ℕ → List ℕ → Cursor → List ℕ → List ℕ
run_out h ws c out =
    let bytes = joined_frames (run_packed h ws c (length out)).frames in
    on_run (run_fault h ws c) (λ r. out) (bytes ++ drop (length bytes) out)

unfoldable pub run_levels : List ℕ → List ℕ → Cursor → ℕ → List ℕ
run_levels h ws c room = on_run (run_fault h ws c) (λ r. ws) (run_packed h ws c room).levels
