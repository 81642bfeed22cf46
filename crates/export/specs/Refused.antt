-- What a refusal of an export says: the check's own reasons, the table's rows 1 to 7, 11, 12 and 15, and 20, with the key under examination. h is the hive, m the
-- lent work map, ws the lent words.
use Rattle.std.specs.Prelude.{ℕ, ◌*◌, ◌<◌, ◌≡◌, length, get_or, Ok, Some}
use mathlib.Core.List.{List, Memᴰ}
use Rattle.fields.specs.declared.Fault.TheVariants.{OutputShort}
use Rattle.fields.specs.declared.Flaw.{Flaw}
use Rattle.fields.specs.declared.Offset.{Offset}
use Rattle.fields.specs.Faults.{flaw, nowhere, no_key}
use Rattle.base.specs.Block.{bins_data}
use Rattle.base.specs.Refused.{OfBase}
use Rattle.cells.specs.Rule.{Header}
use Rattle.records.specs.Keys.{key_of}
use Rattle.values.specs.Records.{data_in}
use Rattle.values.specs.Lists.{values_of}
use Rattle.values.specs.Refused.{a_key, a-value, Fit, Unfit, Among, Values, Data}
use Rattle.tree.specs.Tree.{hive_of}
use Rattle.tree.specs.Told.{Told}
use Rattle.walk.specs.Answers.{key_at}
use Rattle.walk.specs.Refused.{OfStep}
use Rattle.stream.specs.Stream.{frames_of}
use Rattle.export.specs.declared.Cursor.{Cursor}
use Rattle.export.specs.declared.Frame.{Frame}
use Rattle.export.specs.Due.{words, due_at}
use Rattle.export.specs.Answers.{no_frame}

-- step: "Hives not accepted are refused by the check's own number", or "refuses with 20 (key: the frame's)"
pub data OfFrame (h m : List ℕ) (n room : ℕ) : Offset → Flaw → Type 0 where
  of-check : {k : Offset} {f : Flaw} → Told h (length m) k f → OfFrame h m n room k f
  too-long : n < length (frames_of h) → room < length (get_or (frames_of h) n no_frame).bytes
      → OfFrame h m n room (get_or (frames_of h) n no_frame).key (flaw OutputShort nowhere)

-- begin
pub data OfBegun (h m ws : List ℕ) : Offset → Flaw → Type 0 where
  of-check : {k : Offset} {f : Flaw} → Told h (length m) k f → OfBegun h m ws k f
  few_words : length ws < words → OfBegun h m ws no_key (flaw OutputShort nowhere)

-- run
pub data OfRun (h ws : List ℕ) (c : Cursor) (room : ℕ) : Offset → Flaw → Type 0 where
  of-base : {f : Flaw} → OfBase h f → OfRun h ws c room no_key f
  few_words : length ws < words → OfRun h ws c room no_key (flaw OutputShort nowhere)
  no_words : length ws < 3 * c.depth → OfRun h ws c room no_key (flaw OutputShort nowhere)
  -- 11 and 12: the top key, its values, and the data of the one that is due
  of-key : {f : Flaw} → Unfit Header (bins_data h) a_key (key_at ws c.depth) f → OfRun h ws c room no_key f
  of_values : {f : Flaw} → Fit Header (bins_data h) a_key (key_at ws c.depth) → Among Header (bins_data h) (Values Header (bins_data h) (key_at ws c.depth)) f
      → OfRun h ws c room (key_at ws c.depth) f
  of-data : {v : Offset} {f : Flaw} → Fit Header (bins_data h) a-value v → Memᴰ v (values_of (bins_data h) (key_of (bins_data h) (key_at ws c.depth)))
      → Among Header (bins_data h) (Data Header (bins_data h) (data_in (bins_data h) (hive_of h).minor v)) f → OfRun h ws c room (key_at ws c.depth) f
  -- the walk's own
  of-walk : {k : Offset} {f : Flaw} → OfStep h ws c.depth k f → OfRun h ws c room k f
  -- 20: "not even one"
  too-long : {x : Frame} → due_at (bins_data h) (hive_of h).minor ws c ≡ Ok (Some x) → room < x.len → OfRun h ws c room x.key (flaw OutputShort nowhere)
