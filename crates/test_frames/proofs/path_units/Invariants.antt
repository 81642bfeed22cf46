use Rattle.names.specs.Codes.{codes}
use Prim.Native.Nat.{◌/◌}
use mathlib.Core.Bool.{false}
use mathlib.Core.Path.{◌≡◌}
use lib.ListN.{length, take, drop}
use Rattle.test_frames.proofs.path_units.Given as goal

abbrev pub invariant-loop-i : goal.invariant-loop-i
invariant-loop-i l =
    (length l.units ≡ length l.initial.units) × (take l.i l.units ≡ take l.i (codes false l.path))
    × (drop (length l.path / 2) l.units ≡ drop (length l.path / 2) l.initial.units)
