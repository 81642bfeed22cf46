use Prim.Native.Nat.{◌-◌, ◌≤◌}
use mathlib.Core.Path.{◌≡◌}
use lib.ListN.{length}
use Rattle.build_write.proofs.Lists.{Listed}
use Rattle.build_write.proofs.put_offsets.Given as goal

abbrev pub invariant-loop-p : goal.invariant-loop-p
invariant-loop-p l = (l.p.at ≤ length l.s) × (length l.out ≡ length l.initial.out) × Listed l.s l.at l.initial.out l.place l.first l.out l.p

abbrev pub decreases-loop-p : goal.decreases-loop-p
decreases-loop-p l = length l.s - l.p.at
