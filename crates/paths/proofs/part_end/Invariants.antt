use Rattle.paths.specs.Paths.{first_part}
use lib.ListN.{length, drop}
use Prim.Native.Nat.{◌+◌, ◌≤◌}
use mathlib.Core.Path.{◌≡◌}
use Rattle.paths.proofs.part_end.Given as goal

abbrev pub invariant-loop-i : goal.invariant-loop-i
invariant-loop-i l = (l.i ≤ length l.path) × (l.start + length (first_part (drop l.start l.path)) ≡ l.i + length (first_part (drop l.i l.path)))
