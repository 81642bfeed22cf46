-- Why no hive is built from a stream: "New numbers 30 upward, one for each cause, place: the frame's start in the stream", and "sizes come last, at place 0".
-- s is the stream, n the length of the descriptor, room that of the lent buffer.
use Rattle.std.specs.Prelude.{ℕ, ◌+◌, ◌≤◌, ◌<◌, ◌≡◌, List}
use Rattle.fields.specs.declared.Fault.{Fault}
use Rattle.fields.specs.declared.Fault.TheVariants.{OutputShort, HiveSize}
use Rattle.fields.specs.Faults.{flaw, nowhere, no_key, refusal_of}
use Rattle.base.specs.Block.{bins_limit}
use Rattle.forest.specs.Faults.{Fine, stream_fault}
use Rattle.forest.specs.First.{FirstFault}
use Rattle.forest.specs.Parse.{forest_in}
use Rattle.layout.specs.Layout.{bins_for}
use Rattle.build_answers.specs.declared.Unbuilt.{Unbuilt}

-- a reason for its number and for its position in the stream. Its own place, an offset in bins data, is 0, and "The key of ticket 9 is 0xFFFFFFFF here."
abbrev pub InStream : (Fault → ℕ → Type 0) → Unbuilt → Type 0
InStream reason u = (c : Fault) × (at : ℕ) × (u ≡ record { refusal = refusal_of no_key (flaw c nowhere); at = record { 0 = at } }) × reason c at

-- without a buffer
pub data OfMeasure (s : List ℕ) (n : ℕ) : Fault → ℕ → Type 0 where
  -- 30 to 38: "the earliest frame at fault answers (the stream's end if a key stays open), then the lowest number"
  of-frames : {c : Fault} {at : ℕ} → FirstFault s (flaw c nowhere) at → OfMeasure s n c at
  -- 39: "a layout over the bins size limit"
  too_large : stream_fault s ≡ Fine → bins_limit < bins_for (forest_in s) n → OfMeasure s n HiveSize 0

-- into a buffer
pub data OfBuild (s : List ℕ) (n room : ℕ) : Fault → ℕ → Type 0 where
  of-measure : {c : Fault} {at : ℕ} → OfMeasure s n c at → OfBuild s n room c at
  -- 20: "exactly when that layout is longer than the lent buffer"
  too-long : stream_fault s ≡ Fine → bins_for (forest_in s) n ≤ bins_limit → room < 4096 + bins_for (forest_in s) n → OfBuild s n room OutputShort 0
