use Prim.Native.Nat.{◌-◌, ◌≤◌}
use mathlib.Core.Path.{◌≡◌}
use lib.ListN.{length}
use Rattle.build_write.proofs.Values.{Going}
use Rattle.build_write.proofs.put_values.Given as goal

abbrev pub invariant-loop-out : goal.invariant-loop-out
invariant-loop-out l = (l.w.at ≤ length l.s) × (l.w.count ≤ l.w.offset) × (length l.out ≡ length l.initial.out) × Going l.s l.at l.initial.out l.offset l.out l.w

abbrev pub decreases-loop-out : goal.decreases-loop-out
decreases-loop-out l = length l.s - l.w.at
