-- A call whose first tests are made: what it may count on then.
use Prim.Native.Nat.{ℕ}
use mathlib.Core.Path.{◌≡◌, sym, ◌∙◌}
use mathlib.Core.List.{List}
use Rattle.logs.specs.declared.LogFormat.{LogFormat}
use Rattle.logs.specs.Logs.{read_of, counted_of}
use Rattle.recovery.specs.declared.Begun.TheVariants.{Ready}
use Rattle.recovery.specs.declared.Started.TheVariants.{Pages}
use Rattle.recovery.specs.Terms.{begun_by}
use Rattle.recovery.specs.Calls.{test_fault, start_answer}
use Rattle.recovery.proofs.Ways.{begun, begun-ready}
use Rattle.recovery.specs.declared.Begun.{Begun}
use Rattle.fields.specs.declared.Refusal.{Refusal}
use Rattle.std.specs.Prelude.{Ok, Result}

module _ (h l : List ℕ) {b : Result Begun Refusal} (e : b ≡ begun_by (start_answer h l) (read_of l) (counted_of l)) where
  pub ready : {x : LogFormat} {n : ℕ} → b ≡ Ok (Ready x n) → (m : ℕ) × (start_answer h l ≡ Ok (Pages m)) × (x ≡ read_of l) × (n ≡ counted_of l)
  ready {x} {n} q = begun-ready (read_of l) (counted_of l) (start_answer h l) x n (sym e ∙ q)

pub ready_tests : (h l : List ℕ) (x : LogFormat) (n : ℕ) → begun_by (start_answer h l) (read_of l) (counted_of l) ≡ Ok (Ready x n) → test_fault h l ≡ Ok tt
ready_tests h l x n q = let m = begun-ready (read_of l) (counted_of l) (start_answer h l) x n q in (begun h l m.0 m.1).tests
