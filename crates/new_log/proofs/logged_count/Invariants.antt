use mathlib.Core.Path.{◌≡◌}
use Rattle.new_log.specs.Layout.{logged_below}
use Rattle.new_log.proofs.logged_count.Given as goal

abbrev pub invariant-loop-base : goal.invariant-loop-base
invariant-loop-base l = l.count ≡ logged_below l.log l.base
