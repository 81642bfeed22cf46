-- A record at an offset: its cell, then the test of its data. A law for each way out, and what a record that passes says.
use Prim.Native.Nat.{ℕ, ◌≤◌}
use native.Mathlib.Omega.{arith}
use mathlib.Core.Path.{◌≡◌, sym, ap, ◌∙◌}
use mathlib.Core.Bool.{Bool, true, false}
use mathlib.Core.List.{List}
use lib.ListN.{length}
use Rattle.fields.specs.declared.Offset.{Offset}
use Rattle.fields.specs.declared.Flaw.{Flaw}
use Rattle.fields.specs.declared.Fault.TheVariants.{Record}
use Rattle.fields.specs.Faults.{flaw, unless, ◌next◌, Verdict}
use Rattle.fields.proofs.Firsts.{on, stop, both, sound, held, holds, fails}
use Rattle.cells.specs.declared.Cell.{Cell}
use Rattle.cells.specs.Rule.{Rule}
use Rattle.cells.specs.Named.{cell_of, cell_fault, data_of, data_at, part_in}
use Rattle.cells.proofs.Parts.{part_length}
use Rattle.cells.proofs.Naming.{cell-sound, cell-flawed}
pub use Rattle.cells.proofs.Naming.{inside, cell-data-at}
use Rattle.std.specs.Prelude.{Err, Ok}

-- the front of a record's data has room for what stands there
pub front-room : (d : List ℕ) (o : Offset) (n : ℕ) → n ≤ length (data_at d o) → n ≤ length (part_in d o 0 n)
front-room d o n h = let e : length (part_in d o 0 n) ≡ n = part_length (data_at d o) 0 n (omega arith) in omega arith

module _ (test : List ℕ → Bool) where
  -- the test of a record
  abbrev pub record_fault : Rule → List ℕ → List ℕ → Offset → Verdict
  record_fault rule d m o = cell_fault rule d m o next unless (test (data_at d o)) (flaw Record o)

  module _ (rule : Rule) (d m : List ℕ) (o : Offset) where
    pub record-missing : {f : Flaw} → cell_of rule d m o ≡ Err f → record_fault rule d m o ≡ Err f
    record-missing e = stop _ _ (cell-flawed rule d m o e)

    module _ {c : Cell} (e : cell_of rule d m o ≡ Ok c) where
      pub record-bad : test (data_of d c) ≡ false → record_fault rule d m o ≡ Err (flaw Record o)
      record-bad p = on _ _ (cell-sound rule d m o e) ∙ fails _ (ap test (sym (cell-data-at rule d m o e)) ∙ p)

      pub record-good : test (data_of d c) ≡ true → record_fault rule d m o ≡ Ok tt
      record-good p = sound _ _ (cell-sound rule d m o e) (holds _ (ap test (sym (cell-data-at rule d m o e)) ∙ p))

    -- a record that passes
    module _ (e : record_fault rule d m o ≡ Ok tt) where
      passes : (cell_fault rule d m o ≡ Ok tt) × (unless (test (data_at d o)) (flaw Record o) ≡ Ok tt)
      passes = both (cell_fault rule d m o) _ e

      pub record-tested : test (data_at d o) ≡ true
      record-tested = held (test (data_at d o)) (flaw Record o) passes.1

-- what is asked of a record once its cell was asked
module _ (rule : Rule) (d m : List ℕ) (o : Offset) where
  pub step-found : {c : Cell} (v : Verdict) → cell_of rule d m o ≡ Ok c → cell_fault rule d m o next v ≡ v
  unfolding ◌next◌
  step-found v e = rw (cell-sound rule d m o e)

  pub step-missing : {f : Flaw} (v : Verdict) → cell_of rule d m o ≡ Err f → cell_fault rule d m o next v ≡ Err f
  step-missing v e = stop _ v (cell-flawed rule d m o e)

-- what each function needs that reads the record of a cell that it finds
pub ruleset records = (step-found, step-missing, inside, cell-data-at)
