-- What C is told: the answers' cases, laid flat. "If an answer is an enum, a definition tells you this paper's number and values for each of its
-- cases. The promises use that definition."
use Rattle.std.specs.Prelude.{ℕ, ◌+◌, ◌-◌, Bool, cond, Err, None, Ok, Option, Result, Some}
use Rattle.fields.specs.declared.Refusal.{Refusal}
use Rattle.fields.specs.Faults.{number_of, no_key}
use Rattle.values.specs.declared.ValueData.{ValueData}
use Rattle.values.specs.declared.ValueData.TheVariants.{Inline, OneCell, Segments}
use Rattle.walk.specs.declared.Walked.TheVariants as walk
use Rattle.export.specs.declared.Cursor.{Cursor}
use Rattle.recovery.specs.declared.Started.TheVariants as start
use Rattle.recovery.specs.declared.Stepped.TheVariants as step
use Rattle.remnants.specs.Remnants.{kind_word}
use Rattle.hive_c.specs.declared.HiveAnswer.{HiveAnswer}
use Rattle.hive_c.specs.declared.HiveReport.{HiveReport}
use Rattle.hive_c.specs.declared.HiveValue.{HiveValue}
use Rattle.hive_c.specs.declared.HiveCopy.{HiveCopy}
use Rattle.hive_c.specs.declared.HiveKey.{HiveKey}
use Rattle.hive_c.specs.declared.HiveMember.{HiveMember}
use Rattle.hive_c.specs.declared.HivePiece.{HivePiece}
use Rattle.hive_c.specs.declared.HiveWalk.{HiveWalk}
use Rattle.hive_c.specs.declared.HiveFrame.{HiveFrame}
use Rattle.hive_c.specs.declared.HiveExport.{HiveExport}
use Rattle.hive_c.specs.declared.HiveBuilt.{HiveBuilt}
use Rattle.hive_c.specs.declared.HiveRemnant.{HiveRemnant}
use Rattle.hive_c.specs.declared.HiveRows.{HiveRows}
use Rattle.hive_c.specs.declared.HiveRecovery.{HiveRecovery}
use Rattle.hive_c.specs.declared.HivePage.{HivePage}
use Rattle.hive_c.specs.declared.HiveMark.{HiveMark}
use Rattle.hive_c.specs.declared.HiveLog.{HiveLog}
use Rattle.build_answers.specs.declared.Unbuilt.{Unbuilt}
use Rattle.export.specs.declared.Progress.{Progress}
use Rattle.fields.specs.declared.Offset.{Offset}
use Rattle.listing.specs.declared.Entry.{Entry}
use Rattle.listing.specs.declared.Facts.{Facts}
use Rattle.logs.specs.declared.Facts.{Facts as LogFacts}
use Rattle.listing.specs.declared.Piece.{Piece}
use Rattle.lookup.specs.declared.Info.{Info}
use Rattle.recovery.specs.declared.LoggedMark.{LoggedMark}
use Rattle.recovery.specs.declared.LoggedPage.{LoggedPage}
use Rattle.recovery.specs.declared.Started.{Started}
use Rattle.recovery.specs.declared.Stepped.{Stepped}
use Rattle.remnants.specs.declared.Remain.{Remain}
use Rattle.std.specs.declared.cmp.Ordering.{Ordering}
use Rattle.std.specs.declared.cmp.Ordering.TheVariants.{Equal, Greater, Less}
use Rattle.tree.specs.declared.Report.{Report}
use Rattle.walk.specs.declared.Walked.{Walked}

-- no refusal, no key, and an offset
abbrev pub granted : ℕ → HiveAnswer
granted o = record { number = 0; place = 0; key = no_key.0; value = o }

-- "Each refusal is a number and a place", and the key under examination
abbrev pub refused : Refusal → HiveAnswer
refused f = record { number = number_of f.fault; place = f.place.0; key = f.key.0; value = 0 }

-- the check: "bins, keys reached, values [..], used bytes and free bytes"
abbrev pub report_with : HiveAnswer → ℕ → ℕ → ℕ → ℕ → ℕ → HiveReport
report_with a b k v u f = record { answer = a; bins = b; keys = k; values = v; used = u; free = f }

abbrev pub report_in : Result Report Refusal → HiveReport
report_in (Ok r) = report_with (granted 0) r.bins r.keys r.values r.used r.free
report_in (Err f) = report_with (refused f) 0 0 0 0 0

-- "gives the key's offset"
abbrev pub key_in : Result Offset Refusal → HiveAnswer
key_in (Ok o) = granted o.0
key_in (Err f) = refused f

-- "data are inline, in one cell or in segments"
abbrev pub form_of : ValueData → ℕ
form_of (Inline at len) = 1
form_of (OneCell o len) = 2
form_of (Segments o len) = 3

abbrev pub value_with : HiveAnswer → ℕ → ℕ → ℕ → ℕ → HiveValue
value_with a kind form at len = record { answer = a; kind = kind; form = form; at = at; length = len }

abbrev pub value_in : Result Info Refusal → HiveValue
value_in (Ok i) = value_with (granted 0) i.kind (form_of i.content) i.at.0 i.len
value_in (Err f) = value_with (refused f) 0 0 0 0

abbrev pub copy_with : HiveAnswer → ℕ → HiveCopy
copy_with a n = record { answer = a; length = n }

abbrev pub copy_in : Result ℕ Refusal → HiveCopy
copy_in (Ok n) = copy_with (granted 0) n
copy_in (Err f) = copy_with (refused f) 0

-- one byte for each character, or UTF-16LE
abbrev pub narrow_in : Bool → ℕ
narrow_in t = cond t 1 0

abbrev pub member_with : HiveAnswer → ℕ → ℕ → ℕ → ℕ → HiveMember
member_with a s name len narrow = record { answer = a; state = s; name = name; length = len; narrow = narrow }

-- A state has one number wherever it stands: 0 refused, 1 clean, 2 done, 3 no more, 4 there, 5 over, 6 opens, 7 closes, 8 written.
abbrev pub member_in : Result (Option Entry) Refusal → HiveMember
member_in (Err f) = member_with (refused f) 0 0 0 0
member_in (Ok None) = member_with (granted 0) 3 0 0 0
member_in (Ok (Some e)) = member_with (granted e.at.0) 4 e.name.0 e.len (narrow_in e.narrow)

abbrev pub key_with : HiveAnswer → ℕ → ℕ → ℕ → ℕ → ℕ → ℕ → ℕ → HiveKey
key_with a w p s v name len narrow =
    record { answer = a; written = w; parent = p; subkeys = s; values = v; name = name; length = len; narrow = narrow }

abbrev pub facts_in : Result Facts Refusal → HiveKey
facts_in (Ok k) =
    let e = k.entry in
    key_with (granted e.at.0) k.stamp k.parent.0 k.subkeys k.values e.name.0 e.len (narrow_in e.narrow)
facts_in (Err f) = key_with (refused f) 0 0 0 0 0 0 0

abbrev pub piece_with : HiveAnswer → ℕ → ℕ → HivePiece
piece_with a at len = record { answer = a; at = at; length = len }

-- a key without a class name: at 0, length 0
abbrev pub class_in : Result (Option Piece) Refusal → HivePiece
class_in (Ok None) = piece_with (granted 0) 0 0
class_in (Ok (Some p)) = piece_with (granted 0) p.at.0 p.len
class_in (Err f) = piece_with (refused f) 0 0

abbrev pub security_in : Result Piece Refusal → HivePiece
security_in (Ok p) = piece_with (granted 0) p.at.0 p.len
security_in (Err f) = piece_with (refused f) 0 0

abbrev pub walk_with : HiveAnswer → ℕ → ℕ → ℕ → ℕ → ℕ → HiveWalk
walk_with a s n name len narrow = record { answer = a; state = s; depth = n; name = name; length = len; narrow = narrow }

-- refused, over, opens, closes: of a walk in which n keys are open. "The depth afterwards is depth + 1, depth - 1, depth, depth."
abbrev pub walk_in : Result (Option Walked) Refusal → ℕ → HiveWalk
walk_in (Err f) n = walk_with (refused f) 0 n 0 0 0
walk_in (Ok None) n = walk_with (granted 0) 5 n 0 0 0
walk_in (Ok (Some (walk.Opens e))) n = walk_with (granted e.at.0) 6 (n + 1) e.name.0 e.len (narrow_in e.narrow)
walk_in (Ok (Some (walk.Closes k))) n = walk_with (granted k.0) 7 (n - 1) 0 0 0

-- of an export: refused, no more, written
abbrev pub frame_with : HiveAnswer → ℕ → ℕ → HiveFrame
frame_with a s n = record { answer = a; state = s; length = n }

abbrev pub frame_in : Result (Option ℕ) Refusal → HiveFrame
frame_in (Ok (Some n)) = frame_with (granted 0) 8 n
frame_in (Ok None) = frame_with (granted 0) 3 0
frame_in (Err f) = frame_with (refused f) 0 0

abbrev pub cursor_at : ℕ → ℕ → Cursor
cursor_at depth due = record { depth = depth; due = due }

abbrev pub export_with : HiveAnswer → ℕ → Cursor → ℕ → ℕ → HiveExport
export_with a s c frames bytes = record { answer = a; state = s; depth = c.depth; due = c.due; frames = frames; bytes = bytes }

abbrev pub begun_in : Result Cursor Refusal → HiveExport
begun_in (Ok c) = export_with (granted 0) 8 c 0 0
begun_in (Err f) = export_with (refused f) 0 (cursor_at 0 0) 0 0

-- of a run that was asked with the cursor c
abbrev pub export_in : Result (Option Progress) Refusal → Cursor → HiveExport
export_in (Ok (Some p)) c = export_with (granted 0) 8 p.next p.frames p.bytes
export_in (Ok None) c = export_with (granted 0) 3 c 0 0
export_in (Err f) c = export_with (refused f) 0 c 0 0

-- of a hive that is built: "at" is a position in the stream
abbrev pub built_with : HiveAnswer → ℕ → ℕ → HiveBuilt
built_with a at n = record { answer = a; at = at; length = n }

abbrev pub built_in : Result ℕ Unbuilt → HiveBuilt
built_in (Ok n) = built_with (granted 0) 0 n
built_in (Err u) = built_with (refused u.refusal) u.at.0 0

abbrev pub remnant_with : HiveAnswer → ℕ → ℕ → ℕ → ℕ → ℕ → HiveRemnant
remnant_with a s k name len narrow = record { answer = a; state = s; kind = k; name = name; length = len; narrow = narrow }

-- refused, no more, there. Kind 1: a key; 2: a value
abbrev pub remnant_in : Result (Option Remain) Refusal → HiveRemnant
remnant_in (Err f) = remnant_with (refused f) 0 0 0 0 0
remnant_in (Ok None) = remnant_with (granted 0) 3 0 0 0 0
remnant_in (Ok (Some x)) = remnant_with (granted x.at.0) 4 (kind_word x.kind) x.name.0 x.len (narrow_in x.narrow)

abbrev pub rows_with : HiveAnswer → ℕ → ℕ → HiveRows
rows_with a s n = record { answer = a; state = s; rows = n }

-- refused, no more, there
abbrev pub rows_in : Result (Option ℕ) Refusal → HiveRows
rows_in (Err f) = rows_with (refused f) 0 0
rows_in (Ok None) = rows_with (granted 0) 3 0
rows_in (Ok (Some n)) = rows_with (granted 0) 4 n

abbrev pub recovery_with : HiveAnswer → ℕ → ℕ → HiveRecovery
recovery_with a s n = record { answer = a; state = s; pages = n }

-- refused, clean, done
abbrev pub start_in : Result Started Refusal → HiveRecovery
start_in (Err f) = recovery_with (refused f) 0 0
start_in (Ok start.Clean) = recovery_with (granted 0) 1 0
start_in (Ok (start.Pages n)) = recovery_with (granted 0) 2 n

-- the same of a step
abbrev pub step_in : Result Stepped Refusal → HiveRecovery
step_in (Err f) = recovery_with (refused f) 0 0
step_in (Ok step.Clean) = recovery_with (granted 0) 1 0
step_in (Ok step.Done) = recovery_with (granted 0) 2 0

abbrev pub page_with : HiveAnswer → ℕ → ℕ → ℕ → ℕ → HivePage
page_with a s n from to = record { answer = a; state = s; page = n; from = from; to = to }

-- refused, no more, there
abbrev pub page_in : Result (Option LoggedPage) Refusal → HivePage
page_in (Err f) = page_with (refused f) 0 0 0 0
page_in (Ok None) = page_with (granted 0) 3 0 0 0
page_in (Ok (Some x)) = page_with (granted 0) 4 x.page x.from.0 x.to.0

abbrev pub mark_with : HiveAnswer → ℕ → ℕ → ℕ → HiveMark
mark_with a s n to = record { answer = a; state = s; page = n; to = to }

abbrev pub mark_in : Result (Option LoggedMark) Refusal → HiveMark
mark_in (Err f) = mark_with (refused f) 0 0 0
mark_in (Ok None) = mark_with (granted 0) 3 0 0
mark_in (Ok (Some x)) = mark_with (granted 0) 4 x.page x.to.0

-- refused, done
abbrev pub map_in : Result ℕ Refusal → HiveRecovery
map_in (Err f) = recovery_with (refused f) 0 0
map_in (Ok n) = recovery_with (granted 0) 2 n

abbrev pub log_with : HiveAnswer → ℕ → ℕ → ℕ → ℕ → ℕ → HiveLog
log_with a n first last end bins = record { answer = a; entries = n; first = first; last = last; end = end; bins = bins }

abbrev pub log_in : Result LogFacts Refusal → HiveLog
log_in (Err f) = log_with (refused f) 0 0 0 0 0
log_in (Ok x) = log_with (granted 0) x.entries x.first x.last x.end x.bins

-- the order of two names: before, the same, after
abbrev pub order_in : Ordering → ℕ
order_in Less = 1
order_in Equal = 2
order_in Greater = 3
