use Rattle.cells.proofs.Steps.{TilesLeft}
use Prim.Native.Nat.{◌-◌}
use Rattle.cells.proofs.tile.Given as goal

abbrev pub invariant-loop-at : goal.invariant-loop-at
invariant-loop-at l = TilesLeft l.bins l.initial.map l.start l.end l.map l.at l.used l.free

abbrev pub decreases-loop-at : goal.decreases-loop-at
decreases-loop-at l = l.end - l.at
