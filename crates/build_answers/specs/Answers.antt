-- The answers when a hive is built from frames, and what is written. s is the stream, sd the descriptor, n its length, out the lent buffer, room its length.
use Rattle.std.specs.Prelude.{ℕ, ◌+◌, cond, List, ◌++◌, leb, length, drop, Err, Ok, Result}
use Rattle.fields.specs.declared.Fault.TheVariants.{OutputShort, HiveSize}
use Rattle.fields.specs.declared.Flaw.{Flaw}
use Rattle.fields.specs.Faults.{number_of, flaw, nowhere, no_key, refusal_of}
use Rattle.base.specs.Block.{bins_limit}
use Rattle.forest.specs.Faults.{Judged, Fine, Wrong, stream_fault}
use Rattle.forest.specs.Parse.{forest_in}
use Rattle.layout.specs.Layout.{bins_for, built_hive}
use Rattle.build_answers.specs.declared.Unbuilt.{Unbuilt}

-- ---- an answer

-- "place: the frame's start in the stream"; "The key of ticket 9 is 0xFFFFFFFF here."
abbrev pub unbuilt : Flaw → ℕ → Result ℕ Unbuilt
unbuilt f at = Err (record { refusal = refusal_of no_key f; at = record { 0 = at } })

-- 39 and 20: "sizes come last, at place 0"
abbrev pub too_large : Result ℕ Unbuilt
too_large = unbuilt (flaw HiveSize nowhere) 0

abbrev pub too_long : Result ℕ Unbuilt
too_long = unbuilt (flaw OutputShort nowhere) 0

-- the number of a refusal; 0 is none
unfoldable pub number_in : Result ℕ Unbuilt → ℕ
number_in (Ok k) = 0
number_in (Err u) = number_of u.refusal.fault

-- ---- without a buffer

-- "the earliest frame at fault answers (the stream's end if a key stays open), then the lowest number; sizes come last"
abbrev pub behind_frames : Judged → Result ℕ Unbuilt → Result ℕ Unbuilt
behind_frames Fine go = go
behind_frames (Wrong f at) go = unbuilt f at

-- "So is a layout over the bins size limit": what is refused, by its bins size; else the length of the hive
unfoldable pub size_answer : ℕ → Result ℕ Unbuilt
size_answer bins = cond (leb bins bins_limit) (Ok (4096 + bins)) too_large

unfoldable pub measure_answer : List ℕ → ℕ → Result ℕ Unbuilt
measure_answer s n = behind_frames (stream_fault s) (size_answer (bins_for (forest_in s) n))

-- ---- into a buffer

-- "20 exactly when that layout is longer than the lent buffer"; "a layout over the bins size limit, before 20"
unfoldable pub in_room : Result ℕ Unbuilt → ℕ → Result ℕ Unbuilt
in_room (Ok k) room = cond (leb k room) (Ok k) too_long
in_room (Err u) room = Err u

unfoldable pub build_answer : List ℕ → List ℕ → ℕ → Result ℕ Unbuilt
build_answer s sd room = in_room (measure_answer s (length sd)) room

-- the hive, and then what stood behind it; refused, "then the buffer is untouched"
abbrev pub out_after : Result ℕ Unbuilt → List ℕ → List ℕ → List ℕ
out_after (Ok k) h out = h ++ drop (length h) out
out_after (Err u) h out = out

unfoldable pub build_out : List ℕ → List ℕ → List ℕ → List ℕ
build_out s sd out = out_after (build_answer s sd (length out)) (built_hive (forest_in s) sd) out
