-- What the code asks of its callers and its loops keep, and the answer where a list was read. d is the bins data.
use Rattle.std.specs.Prelude.{ℕ, ◌*◌, ◌≤◌, ◌+◌, List, [], length, ◌≡◌, Err, Ok, Result}
use Rattle.fields.specs.declared.Offset.{Offset}
use Rattle.cells.specs.Named.{data_at}
use Rattle.values.specs.declared.Entries.{Entries}
use Rattle.fields.specs.Faults.{fault_over, Verdict}
use Rattle.cells.specs.Rule.{Header}
use Rattle.values.specs.declared.ValueData.{ValueData}
use Rattle.values.specs.declared.ValueData.TheVariants.{Inline}
use Rattle.values.specs.Records.{segment_size}
use Rattle.values.specs.Segments.{segments_in, segment_fault, data_fault}
use Rattle.fields.specs.declared.Flaw.{Flaw}

-- the elements of a list lie inside the data of its cell
abbrev pub Room : List ℕ → Entries → Type 0
Room d e = 4 * e.count ≤ length (data_at d e.cell)

-- the answer: where the elements stand, if the list's tests are sound
abbrev pub entered : Verdict → Entries → Result Entries Flaw
entered (Ok tt) e = Ok e
entered (Err f) e = Err f

-- what a copy asks: inline data lie inside the record, and the data's cells are sound by their own headers
pub record Lies (d : List ℕ) (x : ValueData) : Type 0 where
  pub inside : (v : Offset) (len : ℕ) → x ≡ Inline v len → 8 + len ≤ length (data_at d v)
  pub sound : data_fault Header d [] x ≡ Ok tt

-- the same of segments that a list names, enough of them for so many bytes
pub record SegmentsLie (d : List ℕ) (e : Entries) (size : ℕ) : Type 0 where
  pub room : Room d e
  pub enough : size ≤ e.count * segment_size
  pub sound : fault_over (segment_fault Header d []) (segments_in d e size) ≡ Ok tt
