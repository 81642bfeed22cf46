-- A stream has no fault exactly when it is the frames of an allowed forest with one root.
use Prim.Native.Nat.{ℕ}
use mathlib.Core.Path.{◌≡◌, ap, ◌∙◌}
use mathlib.Core.Logic.{◌↔◌}
use mathlib.Core.List.{List}
use Rattle.forest.specs.Forest.{Forest, forest_frames}
use Rattle.forest.specs.Allowed.{AllBelow, OneRoot}
use Rattle.forest.specs.Faults.{Fine, stream_fault}
use Rattle.forest.proofs.Written.{written-fine}
use Rattle.forest.proofs.Parses.{fine-written}

-- the theorem
pub built-exactly : (s : List ℕ) → AllBelow 256 s → (stream_fault s ≡ Fine) ↔ ((f : Forest) × (s ≡ forest_frames f) × OneRoot f)
built-exactly s bytes = (fine-written s bytes, λ w. ap stream_fault w.1 ∙ written-fine w.0 w.2)
