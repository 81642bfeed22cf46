use mathlib.Core.Path.{◌≡◌}
use lib.ListN.{length}
use Rattle.build_write.proofs.Leaves.{Going}
use Rattle.build_write.proofs.put_elements.Given as goal

abbrev pub invariant-loop-p : goal.invariant-loop-p
invariant-loop-p l = (length l.out ≡ length l.initial.out) × Going l.initial.out l.place l.first l.n l.out l.p

abbrev pub decreases-loop-p : goal.decreases-loop-p
decreases-loop-p l = l.p.left
