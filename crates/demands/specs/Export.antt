-- "Write the tree of an accepted hive in our house frames": what an export gives of every accepted hive. h is the hive, m the lent work map.
use Rattle.std.specs.Prelude.{ℕ, ◌+◌, ◌*◌, ◌≤◌, ◌<◌, ◌≡◌, List, ◌++◌, length, get_or, drop, Err, None, Ok, Some}
use Rattle.tree.specs.declared.Report.{Report}
use Rattle.tree.specs.Tree.{keys_of, check_answer}
use Rattle.stream.specs.Stream.{frames_of, stream_of, joined_frames}
use Rattle.stream.specs.Balanced.{opened_by, a_key, Balanced}
use Rattle.export.specs.declared.Cursor.{Cursor}
use Rattle.export.specs.Answers.{short, no_frame, step_answer, step_out}
use Rattle.export.specs.Runs.{Reached, Goes}

-- of one hive that the check accepts with that map
pub record Exported (h m : List ℕ) (r : Report) : Type 0 where
  -- "The frames of all steps joined equal one defined stream"
  pub joined : joined_frames (frames_of h) ≡ stream_of h
  -- the keys of its frames of kind 16, in order, are those of the listing; and how many frames there are
  pub opened : opened_by (frames_of h) ≡ keys_of h
  pub counted : length (frames_of h) ≡ 2 * r.keys + r.values
  -- "each step takes a frame number and writes that one frame into the lent buffer, or refuses with 20 (key: the frame's) and leaves that buffer, or says "done"
  -- past the last frame"
  pub written : (n : ℕ) (out : List ℕ) → n < length (frames_of h) → let b = (get_or (frames_of h) n no_frame).bytes in length b ≤ length out
      → (step_answer h m n (length out) ≡ Ok (Some (length b))) × (step_out h m n out ≡ b ++ drop (length b) out)
  pub waits : (n : ℕ) (out : List ℕ) → n < length (frames_of h) → let f = get_or (frames_of h) n no_frame in length out < length f.bytes
      → (step_answer h m n (length out) ≡ Err (short f.key)) × (step_out h m n out ≡ out)
  pub ends : (n : ℕ) (out : List ℕ) → length (frames_of h) ≤ n → (step_answer h m n (length out) ≡ Ok None) × (step_out h m n out ≡ out)
  -- runs: wherever they have come, what they wrote and what is left are the stream
  pub runs : {ws : List ℕ} {c : Cursor} {s : List ℕ} → Reached h m ws c s → Goes h ws c s
  -- "one balanced root key", values before subkeys
  pub balanced : Balanced a_key (stream_of h)

abbrev pub Exporting : Type 0
Exporting = (h m : List ℕ) (r : Report) → check_answer h m ≡ Ok r → Exported h m r
