-- The frame that is due: "depth open keys stand in `levels`; due 0: the top key's opening frame comes next; due i up to its number of values: its value
-- i - 1; past that: what the walk does next". The definition is total: whatever the words, the depth and the due number are. d is the bins data, minor the
-- hive's minor version, ws the words, c the cursor.
use Rattle.std.specs.Prelude.{ℕ, ◌+◌, ◌-◌, ◌*◌, cond, ◌&&◌, List, [], eqb, leb, length, get_or, Err, None, Ok, Option, Result, Some}
use Rattle.fields.specs.declared.Offset.{Offset}
use Rattle.fields.specs.declared.Fault.TheVariants.{OutputShort}
use Rattle.fields.specs.Faults.{flaw, unless, nowhere, no_key, refusal_of, ◌next◌, Verdict}
use Rattle.base.specs.Block.{base_fault}
use Rattle.cells.specs.Rule.{Header}
use Rattle.records.specs.Keys.{key_fault, key_of}
use Rattle.values.specs.Records.{value_of}
use Rattle.values.specs.Lists.{values_of, value_list_fault, whole_value_fault}
use Rattle.walk.specs.declared.Offer.TheVariants as ahead
use Rattle.walk.specs.Answers.{key_at, step_in, levels_after}
use Rattle.stream.specs.Stream.{Framed, open_frame, framed_value, close_frame}
use Rattle.export.specs.declared.Cursor.{Cursor}
use Rattle.export.specs.declared.Frame.{Frame}
use Rattle.export.specs.declared.What.{What}
use Rattle.export.specs.declared.What.TheVariants.{Own, Value, Child, Closing}
use Rattle.fields.specs.declared.Refusal.{Refusal}
use Rattle.walk.specs.declared.Offer.{Offer}

-- the bytes of a frame, by what it is, of a key
abbrev pub bytes_due : List ℕ → Offset → What → List ℕ
bytes_due d k Own = open_frame d k
bytes_due d k (Value x) = framed_value d x
bytes_due d k (Child e m) = open_frame d k
bytes_due d k Closing = close_frame

abbrev pub framed_due : List ℕ → Frame → Framed
framed_due d f = record { key = f.key; bytes = bytes_due d f.key f.what }

-- a frame comes, and then so much is due
abbrev pub comes : List ℕ → What → Offset → ℕ → Result (Option Frame) Refusal
comes d w k n = Ok (Some (record { what = w; key = k; len = length (bytes_due d k w); due = n }))

-- tests, in the examination of a key, then what follows them
abbrev pub due_where : Offset → Verdict → Result (Option Frame) Refusal → Result (Option Frame) Refusal
due_where k (Ok tt) x = x
due_where k (Err f) x = Err (refusal_of k f)

-- value i: "its value list's, the value's and its data's 11, 12 (the top key)"
unfoldable pub value_due : List ℕ → ℕ → Offset → ℕ → Result (Option Frame) Refusal
value_due d minor k i =
    let v = get_or (values_of d (key_of d k)) i nowhere in
    due_where k (value_list_fault Header d [] (key_of d k) next whole_value_fault Header d [] minor v) (comes d (Value (value_of d minor v)) k (i + 2))

-- behind a key's last value
abbrev pub past : ℕ
past = 18446744073709551615

-- "opens c (frame 16 of c; then due 1), closes k (frame 18; then due 2^64 - 1), over (Done)"
abbrev pub walk_due : List ℕ → Result (Option Offer) Refusal → Result (Option Frame) Refusal
walk_due d (Ok (Some (ahead.Opens e m))) = comes d (Child e m) e.at 1
walk_due d (Ok (Some (ahead.Closes k))) = comes d Closing k past
walk_due d (Ok None) = Ok None
walk_due d (Err r) = Err r

-- of the top key k
unfoldable pub top_due : List ℕ → ℕ → List ℕ → Cursor → Offset → Result (Option Frame) Refusal
top_due d minor ws c k =
    cond (eqb c.due 0) (comes d Own k 1)
    (cond (leb c.due (key_of d k).values) (value_due d minor k (c.due - 1)) (walk_due d (step_in d ws c.depth)))

-- "depth 0: Done, whatever due; the top key's own 11, 12 (none)"
unfoldable pub due_at : List ℕ → ℕ → List ℕ → Cursor → Result (Option Frame) Refusal
due_at d minor ws c =
    let k = key_at ws c.depth in
    cond (eqb c.depth 0) (Ok None) (due_where no_key (key_fault Header d [] k) (top_due d minor ws c k))

-- the words and the cursor behind a frame
abbrev pub words_behind : List ℕ → ℕ → What → List ℕ
words_behind ws n Own = ws
words_behind ws n (Value x) = ws
words_behind ws n (Child e m) = levels_after ws n (Ok (Some (ahead.Opens e m)))
words_behind ws n Closing = ws

abbrev pub depth_behind : ℕ → What → ℕ
depth_behind n Own = n
depth_behind n (Value x) = n
depth_behind n (Child e m) = n + 1
depth_behind n Closing = n - 1

abbrev pub cursor_behind : ℕ → Frame → Cursor
cursor_behind n f = record { depth = depth_behind n f.what; due = f.due }

-- "1 to 7; fewer than 1,539 or 3 x depth words: 20 (none)"
abbrev pub words : ℕ
words = 1539

unfoldable pub run_fault : List ℕ → List ℕ → Cursor → Verdict
run_fault h ws c = base_fault h next unless (leb words (length ws) && leb (3 * c.depth) (length ws)) (flaw OutputShort nowhere)
