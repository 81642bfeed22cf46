use Prim.Native.Nat.{◌+◌, ◌-◌}
use lib.ListN.{length}
use Rattle.remnants.specs.Terms.{cursor, sought_left}
use Rattle.remnants.proofs.Seeks.{Looked}
use Rattle.remnants.proofs.seek.Given as goal

abbrev pub invariant-loop-at : goal.invariant-loop-at
invariant-loop-at l = Looked l.bins (sought_left l.bins l.from (cursor l.initial.at l.initial.cell l.initial.bin)) l.from l.at l.cell l.bin

abbrev pub decreases-loop-at : goal.decreases-loop-at
decreases-loop-at l = length l.bins - l.at + (length l.bins - l.cell)
