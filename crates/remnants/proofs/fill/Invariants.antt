use Prim.Native.Nat.{◌-◌, ◌*◌}
use lib.ListN.{length}
use Rattle.remnants.specs.Terms.{sought_left}
use Rattle.remnants.proofs.Stores.{Filling}
use Rattle.remnants.proofs.fill.Given as goal

abbrev pub invariant-loop-rows : goal.invariant-loop-rows
invariant-loop-rows l = Filling l.bins l.from (sought_left l.bins l.from l.initial.c) l.initial.rows l.rows l.c l.n

abbrev pub decreases-loop-rows : goal.decreases-loop-rows
decreases-loop-rows l = length l.initial.rows - 4 * l.n
