-- A test of the data of the cell that an offset names: value record, `db` record and room are such tests. 11 at the offset, or 12 at that cell.
use Prim.Native.Nat.{ℕ}
use mathlib.Core.Path.{◌≡◌, refl, sym, ap, ◌∙◌}
use mathlib.Core.Bool.{Bool, true, false}
use mathlib.Core.List.{List, [], ◌∷◌}
use Rattle.fields.specs.declared.Offset.{Offset}
use Rattle.fields.specs.declared.Flaw.{Flaw}
use Rattle.fields.specs.declared.Fault.TheVariants.{Record}
use Rattle.fields.specs.Faults.{flaw, unless, ◌next◌, fault_over, Verdict}
use Rattle.fields.proofs.Firsts.{on, stop, both, sound, held, holds, fails}
use Rattle.cells.specs.declared.Cell.{Cell}
use Rattle.cells.specs.Rule.{Rule, Header}
use Rattle.cells.specs.Named.{cell_of, cell_fault, data_of, data_at}
use Rattle.cells.proofs.Naming.{cell-sound, cell-flawed, cell-data-at, header-cell}
use Rattle.std.specs.Prelude.{Err, Ok}

-- ---- what the map names, the cell's own header names

pub carries-next : (a b x y : Verdict) → (a ≡ Ok tt → x ≡ Ok tt) → (b ≡ Ok tt → y ≡ Ok tt) → a next b ≡ Ok tt → x next y ≡ Ok tt
carries-next a b x y p q e = let s = both a b e in sound x y (p s.0) (q s.1)

pub carries_over : {A : Type 0} (each other : A → Verdict) (xs : List A) → ((x : A) → each x ≡ Ok tt → other x ≡ Ok tt)
    → fault_over each xs ≡ Ok tt → fault_over other xs ≡ Ok tt
unfolding fault_over
carries_over each other [] p e = refl
carries_over each other (x ∷ xs) p e =
    carries-next (each x) (fault_over each xs) (other x) (fault_over other xs) (p x) (carries_over each other xs p) e

-- ---- a test of a cell's data

abbrev pub test_fault : (List ℕ → Bool) → Rule → List ℕ → List ℕ → Offset → Verdict
test_fault test rule d m o = cell_fault rule d m o next unless (test (data_at d o)) (flaw Record o)

module _ (test : List ℕ → Bool) (rule : Rule) (d m : List ℕ) (o : Offset) where
  pub lacks : {f : Flaw} → cell_of rule d m o ≡ Err f → test_fault test rule d m o ≡ Err f
  lacks e = stop _ _ (cell-flawed rule d m o e)

  module _ {c : Cell} (e : cell_of rule d m o ≡ Ok c) (r : List ℕ) (q : r ≡ data_of d c) where
    pub passes : test r ≡ true → test_fault test rule d m o ≡ Ok tt
    passes p = on _ _ (cell-sound rule d m o e) ∙ holds _ (ap test (sym (q ∙ cell-data-at rule d m o e)) ∙ p)

    pub refuses : test r ≡ false → test_fault test rule d m o ≡ Err (flaw Record o)
    refuses p = on _ _ (cell-sound rule d m o e) ∙ fails _ (ap test (sym (q ∙ cell-data-at rule d m o e)) ∙ p)

  pub says : test_fault test rule d m o ≡ Ok tt → test (data_at d o) ≡ true
  says e = held (test (data_at d o)) (flaw Record o) (both (cell_fault rule d m o) _ e).1

  pub by-header : (n : List ℕ) → test_fault test rule d m o ≡ Ok tt → test_fault test Header d n o ≡ Ok tt
  by-header n = carries-next (cell_fault rule d m o) _ (cell_fault Header d n o) _ (λ e. header-cell rule d m o e n) (λ e. e)
