-- Where a value's bytes lie: in one part of a cell's data, or in sound segments.
use Prim.Native.Nat.{ℕ, ◌+◌, ◌<◌, ◌≤◌}
use native.Mathlib.Omega.{arith}
use native.Mathlib.Nat.{zero-add}
use mathlib.Core.Path.{◌≡◌, refl, sym, ap, ap₂, ◌∙◌}
use mathlib.Core.Bool.{Bool, true, false}
use mathlib.Core.List.{List, [], ◌++◌}
use lib.Dec.{eqb}
use lib.ListN.{length, drop}
use lib.Seq.{paste}
use borrow.Author.Tests.{eqb-true}
use Rattle.fields.specs.declared.Offset.{Offset}
use Rattle.fields.specs.Faults.{fault_over}
use Rattle.fields.proofs.Firsts.{both}
use Rattle.cells.specs.Rule.{Header}
use Rattle.cells.specs.Named.{data_at}
use Rattle.cells.proofs.Parts.{part_length}
use Rattle.values.specs.declared.Entries.{Entries}
use Rattle.values.specs.declared.Part.{Part}
use Rattle.values.specs.declared.ValueData.{ValueData}
use Rattle.values.specs.declared.ValueData.TheVariants.{Inline, OneCell, Segments}
use Rattle.values.specs.Entries.{entries_at}
use Rattle.values.specs.Segments.{segments_for, is_db, db_fault, segment_list, segments_of, segments_in, segment_fault, segment_list_fault, segments_fault, data_fault, joined_bytes, bytes_of, length_of}
use Rattle.values.specs.Parts.{part_of, part_bytes}
use Rattle.values.specs.Terms.{Lies, SegmentsLie}
use Rattle.values.proofs.Cell_tests.{says}
use Rattle.values.proofs.Rooms.{roomy}
use Rattle.values.proofs.Segment_faults.{db-long, list-roomy, segments-listed}
use Rattle.values.proofs.LawsSegments.{enough-segments, lengths-sum, joined_length}
use Rattle.std.specs.Prelude.{Ok}

-- data that one part holds
abbrev pub is_one : ValueData → Bool
is_one (Inline v len) = true
is_one (OneCell o len) = true
is_one (Segments o len) = false

-- a part is as long as the data
pub part-whole : (x : ValueData) → (part_of x).len ≡ length_of x
unfolding part_of
part-whole (Inline v len) = refl
part-whole (OneCell o len) = refl
part-whole (Segments o len) = refl

-- and stands near the start of its cell
pub part-near : (x : ValueData) → (part_of x).at < 4294967296
unfolding part_of
part-near (Inline v len) = omega arith
part-near (OneCell o len) = omega arith
part-near (Segments o len) = omega arith

pub record PartLies (d : List ℕ) (x : ValueData) : Type 0 where
  pub ends : (part_of x).at + (part_of x).len ≤ length (data_at d (part_of x).cell)
  pub bytes : bytes_of d x ≡ part_bytes d (part_of x)

pub part_lies : (d : List ℕ) (x : ValueData) → is_one x ≡ true → Lies d x → PartLies d x
unfolding part_of bytes_of data_fault
part_lies d (Inline v len) t l = record { ends = l.inside v len refl; bytes = refl }
part_lies d (OneCell o len) t l = by (eqb len 0) refl
  where
    by : (b : Bool) → eqb len 0 ≡ b → PartLies d (OneCell o len)
    by true e = let z = eqb-true len 0 e in record { ends = omega arith; bytes = rw (e, z) }
    by false e = let w = roomy Header d [] o len (rw e at l.sound) in record { ends = omega arith; bytes = rw e }
part_lies d (Segments o len) t l = absurd (let z : ◌≡◌ {A = ℕ} 0 1 = cc in omega arith)

pub one-room : (d : List ℕ) (x : ValueData) → is_one x ≡ true → Lies d x → (n : ℕ) → length_of x ≤ n → (p : Part) → p ≡ part_of x
    → (p.at + p.len ≤ length (data_at d p.cell)) × (0 + p.len ≤ n)
one-room d x t l n r p e = rw e ((part_lies d x t l).ends, omega (arith, part-whole x))

-- a copy of that part to the start is the copy of the data
pub copy-one : (d out : List ℕ) (x : ValueData) → is_one x ≡ true → Lies d x → (p : Part) → p ≡ part_of x
    → paste out 0 (drop p.at (data_at d p.cell)) p.len ≡ bytes_of d x ++ drop (length_of x) out
copy-one d out x t l p e =
    let w = part_lies d x t l in
    ap (λ (q : Part). part_bytes d q ++ drop (0 + q.len) out) e
    ∙ ap₂ (λ (b : List ℕ) (k : ℕ). b ++ drop k out) (sym w.bytes) (zero-add (part_of x).len ∙ part-whole x)

-- segmented data
module _ (d : List ℕ) (o : Offset) (size : ℕ) (l : Lies d (Segments o size)) where
  faults : (segment_list_fault Header d [] o size ≡ Ok tt) × (fault_over (segment_fault Header d []) (segments_of d o size) ≡ Ok tt)
  unfolding data_fault segments_fault
  faults = both (segment_list_fault Header d [] o size) _ l.sound

  pub db-room : 8 ≤ length (data_at d o)
  unfolding segment_list_fault db_fault
  db-room = db-long (data_at d o) size (says (λ r. is_db r size) Header d [] o (both (db_fault Header d [] o size) _ (faults.0)).0)

  module _ (e : Entries) (is : e ≡ entries_at (segment_list d o) (segments_for size)) where
    segments-are : segments_of d o size ≡ segments_in d e size
    segments-are = rw is (segments-listed d o size)

    pub segments-lie : SegmentsLie d e size
    segments-lie =
        record {
          room = rw is (list-roomy Header d [] o size (faults.0));
          enough = rw is (enough-segments size);
          sound = rw (← segments-are) (faults.1);
        }

    pub segments-bytes : joined_bytes d (segments_in d e size) ≡ bytes_of d (Segments o size)
    unfolding bytes_of
    segments-bytes = ap (joined_bytes d) (sym segments-are)

  segments-length : length (bytes_of d (Segments o size)) ≡ size
  unfolding bytes_of
  segments-length = joined_length Header d [] (segments_of d o size) (faults.1) ∙ lengths-sum d o size

-- the bytes are as many as the record says
pub bytes-length : (d : List ℕ) (x : ValueData) → Lies d x → length (bytes_of d x) ≡ length_of x
bytes-length d x l = by x l
  where
    one : (y : ValueData) → is_one y ≡ true → Lies d y → length (bytes_of d y) ≡ length_of y
    one y t k =
        let w = part_lies d y t k in
        ap length w.bytes ∙ part_length (data_at d (part_of y).cell) (part_of y).at (part_of y).len w.ends ∙ part-whole y

    by : (y : ValueData) → Lies d y → length (bytes_of d y) ≡ length_of y
    by (Inline v len) k = one (Inline v len) refl k
    by (OneCell o len) k = one (OneCell o len) refl k
    by (Segments o len) k = segments-length d o len k
