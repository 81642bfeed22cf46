-- The measures of the cycle of calls {pass_key}. A key has the levels that are left below it; along its subkeys what is left of the stream falls.
use Rattle.std.proofs.Common.{◌-◌, length}
use Rattle.build_measure.proofs.Going.{Going}
use Rattle.build_measure.proofs.+pass_key.Given as goal

abbrev pub decreases-pass_key : goal.decreases-pass_key
decreases-pass_key l = 512 - l.level

abbrev pub invariant-loop-o : goal.invariant-loop-o
invariant-loop-o l = Going l.s l.level l.initial.w l.w

abbrev pub decreases-loop-o : goal.decreases-loop-o
decreases-loop-o l = length l.s - l.w.at
