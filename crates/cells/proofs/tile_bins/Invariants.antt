use Rattle.cells.proofs.Turns.{TilesLeft}
use lib.ListN.{length}
use Prim.Native.Nat.{◌-◌}
use Rattle.cells.proofs.tile_bins.Given as goal

abbrev pub invariant-loop-at : goal.invariant-loop-at
invariant-loop-at l = TilesLeft l.bins l.initial.map l.map l.at l.count l.used l.free

abbrev pub decreases-loop-at : goal.decreases-loop-at
decreases-loop-at l = length l.bins - l.at
