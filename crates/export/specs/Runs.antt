-- Runs: what was written so far, and what a further run gives. h is the hive, m the lent work map.
use Rattle.std.specs.Prelude.{ℕ, ◌≤◌, ◌<◌, ◌≡◌, List, [], ◌∷◌, ◌++◌, length, take, drop, Err, None, Ok, Some}
use Rattle.stream.specs.Stream.{Framed, frames_of, stream_of, joined_frames}
use Rattle.export.specs.declared.Cursor.{Cursor}
use Rattle.export.specs.declared.Progress.{Progress}
use Rattle.export.specs.Answers.{short, begin_answer, begin_levels, run_answer, run_out, run_levels}

-- begin, and then runs, each with a buffer of any size: the words, the cursor, and what the runs wrote, joined
pub data Reached (h m : List ℕ) : List ℕ → Cursor → List ℕ → Type 0 where
  begins : (ws : List ℕ) {c : Cursor} → begin_answer h m ws ≡ Ok c → Reached h m (begin_levels h m ws) c []
  runs : {ws : List ℕ} {c : Cursor} {s : List ℕ} (out : List ℕ) {p : Progress} → Reached h m ws c s → run_answer h ws c (length out) ≡ Ok (Some p)
      → Reached h m (run_levels h ws c (length out)) p.next (s ++ take p.bytes (run_out h ws c out))

-- what is left: some last frames of all, whose bytes end the stream. A run with room for the next of them writes it and perhaps more; with less it is 20, with
-- that frame's key; and with none left it is done. There is no other refusal.
pub record Goes (h ws : List ℕ) (c : Cursor) (s : List ℕ) : Type 0 where
  pub left : List Framed
  pub done : ℕ
  pub last : left ≡ drop done (frames_of h)
  pub whole : stream_of h ≡ s ++ joined_frames left
  pub ends : left ≡ [] → (room : ℕ) → run_answer h ws c room ≡ Ok None
  pub goes : (f : Framed) (fs : List Framed) → left ≡ f ∷ fs → (room : ℕ) → length f.bytes ≤ room
      → (p : Progress) × (run_answer h ws c room ≡ Ok (Some p)) × (0 < p.frames)
  pub waits : (f : Framed) (fs : List Framed) → left ≡ f ∷ fs → (room : ℕ) → room < length f.bytes → run_answer h ws c room ≡ Err (short f.key)
