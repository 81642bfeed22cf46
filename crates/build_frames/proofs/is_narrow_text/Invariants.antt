use Prim.Native.Nat.{◌-◌, ◌%◌, ◌≤◌}
use mathlib.Core.Path.{◌≡◌}
use mathlib.Core.Bool.{false}
use lib.ListN.{length, drop}
use Rattle.names.specs.Codes.{codes}
use Rattle.layout.specs.Layout.{is_narrow}
use Rattle.build_frames.proofs.is_narrow_text.Given as goal

abbrev pub invariant-loop-i : goal.invariant-loop-i
invariant-loop-i l = (l.i ≤ length l.s) × (l.i % 2 ≡ 0) × (is_narrow (codes false l.s) ≡ is_narrow (codes false (drop l.i l.s)))

abbrev pub decreases-loop-i : goal.decreases-loop-i
decreases-loop-i l = length l.s - l.i
