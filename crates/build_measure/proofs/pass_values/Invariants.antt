use Prim.Native.Nat.{◌-◌}
use lib.ListN.{length}
use Rattle.build_measure.specs.Terms.{Passed}
use Rattle.build_measure.proofs.pass_values.Given as goal

abbrev pub invariant-loop-k : goal.invariant-loop-k
invariant-loop-k l = Passed l.s l.at l.n l.p l.size

abbrev pub decreases-loop-k : goal.decreases-loop-k
decreases-loop-k l = length l.s - l.p
