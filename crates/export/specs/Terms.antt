-- What the code asks of its callers, and what its loops keep. d is the bins data, minor the hive's minor version, ws the words.
use Rattle.std.specs.Prelude.{ℕ, zero, suc, ◌+◌, ◌*◌, ◌≤◌, ◌<◌, ◌≡◌, cond, List, [], ◌∷◌, eqb, leb, length, replicate, Err, None, Ok, Option, Result, Some}
use Rattle.std.proofs.lemmas.List.Edits.{sets}
use Rattle.fields.specs.declared.Offset.{Offset}
use Rattle.cells.specs.Rule.{Header}
use Rattle.records.specs.Keys.{key_fault}
use Rattle.stream.specs.Terms.{ValueLies}
use Rattle.export.specs.declared.Cursor.{Cursor}
use Rattle.export.specs.declared.Frame.{Frame}
use Rattle.export.specs.declared.What.{What}
use Rattle.export.specs.declared.What.TheVariants.{Own, Value, Child, Closing}
use Rattle.export.specs.Due.{words, bytes_due, due_at, words_behind, cursor_behind}
use Rattle.export.specs.Answers.{short, start, packed, ran_of}
use Rattle.export.specs.declared.Progress.{Progress}
use Rattle.fields.specs.declared.Refusal.{Refusal}

-- what a writer asks of a frame: its records were tested
abbrev pub WhatLies : List ℕ → Offset → What → Type 0
WhatLies d k Own = key_fault Header d [] k ≡ Ok tt
WhatLies d k (Value x) = ValueLies d x
WhatLies d k (Child e m) = key_fault Header d [] k ≡ Ok tt
WhatLies d k Closing = Unit

-- and what the move behind it asks of the words
abbrev pub WhatGoes : List ℕ → ℕ → What → Type 0
WhatGoes ws n Own = Unit
WhatGoes ws n (Value x) = Unit
WhatGoes ws n (Child e m) = (0 < n) × (3 * (n + 1) ≤ length ws)
WhatGoes ws n Closing = 0 < n

pub record FrameLies (d ws : List ℕ) (n : ℕ) (f : Frame) : Type 0 where
  pub lies : WhatLies d f.key f.what
  pub goes : WhatGoes ws n f.what
  pub len : f.len ≡ length (bytes_due d f.key f.what)

-- one frame, where it fits: the cursor behind it and the position behind it, what is written, and the words
abbrev pub turn_of : Result (Option Frame) Refusal → ℕ → ℕ → ℕ → Result (Option (Cursor × ℕ)) Refusal
turn_of (Ok (Some f)) n room at = cond (leb f.len room) (Ok (Some (cursor_behind n f, at + f.len))) (Err (short f.key))
turn_of (Ok None) n room at = Ok None
turn_of (Err r) n room at = Err r

abbrev pub turn_bytes : List ℕ → Result (Option Frame) Refusal → ℕ → List ℕ
turn_bytes d (Ok (Some f)) room = cond (leb f.len room) (bytes_due d f.key f.what) []
turn_bytes d (Ok None) room = []
turn_bytes d (Err r) room = []

abbrev pub turn_words : List ℕ → ℕ → Result (Option Frame) Refusal → ℕ → List ℕ
turn_words ws n (Ok (Some f)) room = cond (leb f.len room) (words_behind ws n f.what) ws
turn_words ws n (Ok None) room = ws
turn_words ws n (Err r) room = ws

-- the end of a run
abbrev pub ended_of : Result (Option Progress) Refusal → ℕ → ℕ → Cursor → Result (Option Progress) Refusal
ended_of stop n bytes c = cond (eqb n 0) stop (Ok (Some (record { frames = n; bytes = bytes; next = c })))

unfoldable pub ran_in : List ℕ → ℕ → List ℕ → Cursor → ℕ → Result (Option Progress) Refusal
ran_in d minor ws c room = let p = packed d minor room ws c room in ran_of (due_at d minor ws c) p.frames p.behind

-- so many frames passed over
pub record Went : Type 0 where
  pub answer : Result (Option Cursor) Refusal
  pub levels : List ℕ

abbrev pub went_on : Result (Option Frame) Refusal → List ℕ → ℕ → (List ℕ → Cursor → Went) → Went
went_on (Ok (Some f)) ws n go = go (words_behind ws n f.what) (cursor_behind n f)
went_on (Ok None) ws n go = record { answer = Ok None; levels = ws }
went_on (Err r) ws n go = record { answer = Err r; levels = ws }

unfoldable pub went : List ℕ → ℕ → ℕ → List ℕ → Cursor → Went
went d minor zero ws c = record { answer = Ok (Some c); levels = ws }
went d minor (suc n) ws c = went_on (due_at d minor ws c) ws c.depth (went d minor n)

-- then the frame that is due is written, if it fits
abbrev pub stepped_on : Result (Option (Cursor × ℕ)) Refusal → Result (Option ℕ) Refusal
stepped_on (Ok (Some (c, n))) = Ok (Some n)
stepped_on (Ok None) = Ok None
stepped_on (Err r) = Err r

abbrev pub stepped_by : List ℕ → ℕ → ℕ → List ℕ → Result (Option Cursor) Refusal → Result (Option ℕ) Refusal
stepped_by d minor room ws (Ok (Some c)) = stepped_on (turn_of (due_at d minor ws c) c.depth room 0)
stepped_by d minor room ws (Ok None) = Ok None
stepped_by d minor room ws (Err r) = Err r

abbrev pub bytes_by : List ℕ → ℕ → ℕ → List ℕ → Result (Option Cursor) Refusal → List ℕ
bytes_by d minor room ws (Ok (Some c)) = turn_bytes d (due_at d minor ws c) room
bytes_by d minor room ws (Ok None) = []
bytes_by d minor room ws (Err r) = []

-- the depth stands in the words
abbrev pub PassedLies : List ℕ → Result (Option Cursor) Refusal → Type 0
PassedLies ws (Ok (Some c)) = 3 * c.depth ≤ length ws
PassedLies ws (Ok None) = Unit
PassedLies ws (Err r) = Unit

abbrev pub stepped_at : List ℕ → ℕ → ℕ → Went → Result (Option ℕ) Refusal
stepped_at d minor room w = stepped_by d minor room w.levels w.answer

abbrev pub root_words : Offset → List ℕ
root_words root = sets (replicate words 0) 0 (root.0 ∷ 0 ∷ 0 ∷ [])

unfoldable pub stepped_in : List ℕ → ℕ → Offset → ℕ → ℕ → Result (Option ℕ) Refusal
stepped_in d minor root n room = stepped_at d minor room (went d minor n (root_words root) start)

unfoldable pub bytes_in : List ℕ → ℕ → Offset → ℕ → ℕ → List ℕ
bytes_in d minor root n room = let w = went d minor n (root_words root) start in bytes_by d minor room w.levels w.answer
