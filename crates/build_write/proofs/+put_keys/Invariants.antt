-- The measures of the cycle of calls {put_keys}. A forest has the levels that are left; along the keys side by side what is left of the stream falls.
use Rattle.std.proofs.Common.{◌≡◌, ◌-◌, ◌≤◌, length}
use Rattle.build_write.proofs.Forests.{Going}
use Rattle.build_write.proofs.+put_keys.Given as goal

abbrev pub decreases-put_keys : goal.decreases-put_keys
decreases-put_keys l = l.levels

abbrev pub invariant-loop-out : goal.invariant-loop-out
invariant-loop-out l =
    (l.p.at ≤ length l.s) × (l.p.count ≤ l.p.offset) × (length l.out ≡ length l.initial.out)
    × Going l.s l.at l.initial.out l.offset l.parent l.item l.levels l.out l.p

abbrev pub decreases-loop-out : goal.decreases-loop-out
decreases-loop-out l = length l.s - l.p.at
