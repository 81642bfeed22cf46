-- The value at an offset, a law for each way out.
use Prim.Native.Nat.{ℕ}
use native.Mathlib.Omega.{arith}
use mathlib.Core.Path.{◌≡◌, refl, sym, ap, ap₂, ◌∙◌}
use mathlib.Core.Bool.{true, false}
use mathlib.Core.List.{List}
use Rattle.fields.specs.declared.Offset.{Offset}
use Rattle.fields.specs.declared.Flaw.{Flaw}
use Rattle.fields.specs.declared.Fault.TheVariants.{Record}
use Rattle.fields.specs.Faults.{flaw, Verdict}
use Rattle.fields.proofs.Firsts.{on, stop}
use Rattle.cells.specs.declared.Cell.{Cell}
use Rattle.cells.specs.Rule.{Rule}
use Rattle.cells.specs.Named.{cell_of, data_of}
use Rattle.cells.proofs.Naming.{cell-data-at}
use Rattle.values.specs.declared.Value.{Value}
use Rattle.values.specs.declared.ValueData.{ValueData}
use Rattle.values.specs.Records.{is_value, value_fault, content_of, fields_of, value_of, data_in, valued}
use Rattle.values.specs.Segments.{data_fault}
use Rattle.values.specs.Lists.{whole_value_fault}
use Rattle.values.proofs.Cell_tests.{lacks, passes, refuses}
use Rattle.std.specs.Prelude.{Err, Ok}

module _ (rule : Rule) (d m : List ℕ) (minor : ℕ) (v : Offset) where
  pub value-lacks : {f : Flaw} → cell_of rule d m v ≡ Err f → valued (value_fault rule d m v) (value_of d minor v) ≡ Err f
  unfolding value_fault
  value-lacks e = ap (λ (x : Verdict). valued x (value_of d minor v)) (lacks is_value rule d m v e)

  module _ {c : Cell} (e : cell_of rule d m v ≡ Ok c) (r : List ℕ) (q : r ≡ data_of d c) where
    pub value-refused : is_value r ≡ false → valued (value_fault rule d m v) (value_of d minor v) ≡ Err (flaw Record v)
    unfolding value_fault
    value-refused p = ap (λ (x : Verdict). valued x (value_of d minor v)) (refuses is_value rule d m v e r q p)

    pub value-whole : is_value r ≡ true → valued (value_fault rule d m v) (value_of d minor v) ≡ Ok (fields_of r minor v)
    unfolding value_fault value_of
    value-whole p =
        ap₂ (λ (x : Verdict) (l : List ℕ). valued x (fields_of l minor v)) (passes is_value rule d m v e r q p) (sym (q ∙ cell-data-at rule d m v e))

-- a value that is whole, and one that is not
pub is_whole : (v : Verdict) (x : Value) {y : Value} → valued v x ≡ Ok y → (v ≡ Ok tt) × (x ≡ y)
is_whole (Ok tt) x e = (refl, cc)
is_whole (Err f) x e = absurd (let z : ◌≡◌ {A = ℕ} 0 1 = cc in omega arith)

pub is-flawed : (v : Verdict) (x : Value) {f : Flaw} → valued v x ≡ Err f → v ≡ Err f
is-flawed (Ok tt) x e = absurd (let z : ◌≡◌ {A = ℕ} 0 1 = cc in omega arith)
is-flawed (Err g) x e = cc

-- a value's record, then its data
module _ (rule : Rule) (d m : List ℕ) (minor : ℕ) (v : Offset) where
  pub whole-stop : {f : Flaw} → valued (value_fault rule d m v) (value_of d minor v) ≡ Err f → whole_value_fault rule d m minor v ≡ Err f
  unfolding whole_value_fault
  whole-stop e = stop _ _ (is-flawed _ _ e)

  pub whole-on : {x : Value} → valued (value_fault rule d m v) (value_of d minor v) ≡ Ok x
      → whole_value_fault rule d m minor v ≡ data_fault rule d m x.content
  unfolding whole_value_fault value_of fields_of data_in
  whole-on e = let w = is_whole _ _ e in on _ _ w.0 ∙ ap (λ (y : Value). data_fault rule d m y.content) w.1

  pub whole-lacks : {f : Flaw} → cell_of rule d m v ≡ Err f → whole_value_fault rule d m minor v ≡ Err f
  unfolding whole_value_fault value_fault
  whole-lacks e = stop _ _ (lacks is_value rule d m v e)

  module _ {c : Cell} (e : cell_of rule d m v ≡ Ok c) (r : List ℕ) (q : r ≡ data_of d c) where
    pub whole-refused : is_value r ≡ false → whole_value_fault rule d m minor v ≡ Err (flaw Record v)
    unfolding whole_value_fault value_fault
    whole-refused p = stop _ _ (refuses is_value rule d m v e r q p)

    pub whole-data : is_value r ≡ true → {x : ValueData} → x ≡ content_of r minor v → whole_value_fault rule d m minor v ≡ data_fault rule d m x
    unfolding whole_value_fault value_fault data_in
    whole-data p w =
        on _ _ (passes is_value rule d m v e r q p)
        ∙ ap (data_fault rule d m) (sym (w ∙ ap (λ (l : List ℕ). content_of l minor v) (q ∙ cell-data-at rule d m v e)))

-- the ways out of the tests of a value
pub ruleset value_ways = (value-lacks, value-refused, value-whole)

pub ruleset whole_ways = (whole-lacks, whole-refused, whole-data)
