-- What a frame is, and the line that answers it.
use Rattle.std.specs.Prelude.{ℕ, ◌/◌, ◌%◌, false, cond, List, ◌++◌, eqb, ltb, length, take, drop, Err, None, Ok, Option, Result, Some}
use Rattle.fields.specs.Number.{u16_at, u32_at}
use Rattle.cells.specs.Survey.{map_left}
use Rattle.names.specs.Codes.{codes}
use Rattle.tree.specs.Tree.{check_answer}
use Rattle.paths.specs.Answers.{find_answer}
use Rattle.recovery.specs.declared.Started.TheVariants as started
use Rattle.recovery.specs.Calls.{start_answer}
use Rattle.recovery.specs.Finished.{finished}
use Rattle.test_frames.specs.declared.Frame.{Frame}
use Rattle.test_frames.specs.declared.Kind.{Kind}
use Rattle.test_frames.specs.declared.Kind.TheVariants.{Hive, Log, Path}
use Rattle.test_frames.specs.declared.Line.{Line}
use Rattle.test_frames.specs.declared.Line.TheVariants as line
use Rattle.fields.specs.declared.Offset.{Offset}
use Rattle.fields.specs.declared.Refusal.{Refusal}
use Rattle.recovery.specs.declared.Started.{Started}
use Rattle.tree.specs.declared.Report.{Report}

-- "kind (1 hive, 2 log, 3 path)"; "of unknown kind, or a path frame of odd length, gives `bad frame`"
unfoldable pub framed : ℕ → ℕ → Option Frame
framed kind n =
    cond (eqb kind 1) (Some (record { kind = Hive; len = n }))
    (cond (eqb kind 2) (Some (record { kind = Log; len = n }))
    (cond (eqb kind 3) (cond (eqb (n % 2) 0) (Some (record { kind = Path; len = n })) None) None))

-- "4-byte payload length, 2-byte kind [..], payload up to 20,480 bytes"; "A frame too long [..] gives `bad frame`"
unfoldable pub frame_of : List ℕ → Option Frame
frame_of head = cond (ltb 20480 (u32_at head 0)) None (framed (u16_at head 4) (u32_at head 0))

-- a hive frame is answered by the check
abbrev pub checked_line : Result Report Refusal → Line
checked_line (Ok r) = line.Accepted r
checked_line (Err r) = line.Refused r

-- "Log: repairs the last hive frame's bytes, pages rising, and gives `repaired N` (set bits) or `clean`."
abbrev pub repaired_line : Result Started Refusal → Line
repaired_line (Ok started.Clean) = line.Clean
repaired_line (Ok (started.Pages n)) = line.Repaired n
repaired_line (Err r) = line.Refused r

abbrev pub repaired_as : Result Started Refusal → List ℕ → List ℕ → List ℕ
repaired_as (Ok started.Clean) new old = old
repaired_as (Ok (started.Pages n)) new old = new
repaired_as (Err r) new old = old

-- the hive after a log frame
unfoldable pub repaired_hive : List ℕ → List ℕ → List ℕ
repaired_hive h l = repaired_as (start_answer h l) (finished h l) h

-- "Path, in that hive as it then stands: `key at N`. A refusal: `refused N at P`."
abbrev pub found_line : Result Offset Refusal → Line
found_line (Ok o) = line.KeyAt o
found_line (Err r) = line.Refused r

-- ---- the turn: what is held and a frame give the frame's line and what is held after it

-- what is held between frames: no hive yet, or the bytes of one
pub data Hold : Type 0 where
  no_hive : Hold
  some_hive : List ℕ → Hold

-- as the program holds it: so many bytes from the start of the hive's room
abbrev pub held_in : Option ℕ → List ℕ → Hold
held_in None room = no_hive
held_in (Some n) room = some_hive (take n room)

-- "Before any hive, kinds 2 and 3 give `no hive`."
abbrev pub log_line : Hold → List ℕ → Line
log_line no_hive l = line.NoHive
log_line (some_hive h) l = repaired_line (start_answer h l)

abbrev pub log_held : Hold → List ℕ → Hold
log_held no_hive l = no_hive
log_held (some_hive h) l = some_hive (repaired_hive h l)

abbrev pub path_line : Hold → List ℕ → Line
path_line no_hive s = line.NoHive
path_line (some_hive h) s = found_line (find_answer h (codes false s))

-- a frame of that kind with the payload s; m is the work map
abbrev pub line_of : List ℕ → Kind → Hold → List ℕ → Line
line_of m Hive x s = checked_line (check_answer s m)
line_of m Log x s = log_line x s
line_of m Path x s = path_line x s

abbrev pub held_after : Kind → Hold → List ℕ → Hold
held_after Hive x s = some_hive s
held_after Log x s = log_held x s
held_after Path x s = x

-- the work map, and the room for a path's units, after it
abbrev pub map_after : Kind → List ℕ → List ℕ → List ℕ
map_after Hive s m = map_left s m
map_after Log s m = m
map_after Path s m = m

abbrev pub units_left : List ℕ → List ℕ → List ℕ
units_left s us = codes false s ++ drop (length s / 2) us

abbrev pub units_after : Kind → List ℕ → List ℕ → List ℕ
units_after Hive s us = us
units_after Log s us = us
units_after Path s us = units_left s us
