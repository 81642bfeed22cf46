-- An offset that names a cell with room: a law for each way out, and the elements of a list.
use Prim.Native.Nat.{ℕ, ◌*◌, ◌<◌, ◌≤◌}
use native.Mathlib.Omega.{arith}
use native.Mathlib.Nat.{zero-add}
use mathlib.Core.Path.{◌≡◌, refl, ap, ◌∙◌}
use mathlib.Core.List.{List}
use lib.Dec.{leb}
use lib.ListN.{length, get_or}
use borrow.Author.Tests.{le-leb, lt-leb, leb-true}
use Rattle.fields.specs.declared.Offset.{Offset}
use Rattle.fields.specs.declared.Flaw.{Flaw}
use Rattle.fields.specs.declared.Fault.TheVariants.{Record}
use Rattle.fields.specs.Faults.{flaw, nowhere}
use Rattle.cells.specs.declared.Cell.{Cell}
use Rattle.cells.specs.Rule.{Rule}
use Rattle.cells.specs.Named.{cell_of, data_of, data_at}
use Rattle.cells.proofs.Naming.{inside, data-length}
use Rattle.records.specs.Offsets.{offset_at}
use Rattle.values.specs.declared.Entries.{Entries}
use Rattle.values.specs.Entries.{entries_of}
use Rattle.values.specs.Segments.{room_fault}
use Rattle.values.proofs.Cell_tests.{lacks, passes, refuses, says}
use Rattle.records.proofs.LawsSequence.{offsets-length, offsets-at}
use Rattle.std.specs.Prelude.{Err, Ok}

module _ (rule : Rule) (d m : List ℕ) (o : Offset) (n : ℕ) where
  pub room-lacks : {f : Flaw} → cell_of rule d m o ≡ Err f → room_fault rule d m o n ≡ Err f
  unfolding room_fault
  room-lacks e = lacks (λ r. leb n (length r)) rule d m o e

  module _ {c : Cell} (e : cell_of rule d m o ≡ Ok c) where
    long : length (data_of d c) ≡ c.len
    long = data-length d c (inside d o rule m e)

    pub room-short : c.len < n → room_fault rule d m o n ≡ Err (flaw Record o)
    unfolding room_fault
    room-short p = refuses (λ r. leb n (length r)) rule d m o e (data_of d c) refl (lt-leb n (length (data_of d c)) (omega (arith, long)))

    pub room-enough : n ≤ c.len → room_fault rule d m o n ≡ Ok tt
    unfolding room_fault
    room-enough p = passes (λ r. leb n (length r)) rule d m o e (data_of d c) refl (le-leb n (length (data_of d c)) (omega (arith, long)))

pub roomy : (rule : Rule) (d m : List ℕ) (o : Offset) (n : ℕ) → room_fault rule d m o n ≡ Ok tt → n ≤ length (data_at d o)
unfolding room_fault
roomy rule d m o n e = leb-true n (length (data_at d o)) (says (λ r. leb n (length r)) rule d m o e)

-- the elements of a list
module _ (d : List ℕ) (e : Entries) where
  pub entries-length : length (entries_of d e) ≡ e.count
  unfolding entries_of
  entries-length = offsets-length (data_at d e.cell) 0 e.count

  pub entries_at : (i : ℕ) → i < e.count → get_or (entries_of d e) i nowhere ≡ offset_at (data_at d e.cell) (4 * i)
  unfolding entries_of
  entries_at i p =
      offsets-at (data_at d e.cell) 0 e.count i nowhere p
      ∙ ap (λ (k : ℕ). offset_at (data_at d e.cell) k) (zero-add (4 * i))

-- the ways out of the test of a room
pub ruleset room_ways = (room-lacks, room-short, room-enough)
