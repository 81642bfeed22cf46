use mathlib.Core.Path.{◌≡◌}
use mathlib.Core.Bool.{true}
use Rattle.sectors.specs.Logged.{in_below}
use Rattle.log_versions.specs.Versions.{is_logged, logged}
use Rattle.new_log.proofs.all_in.Given as goal

abbrev pub invariant-loop-base : goal.invariant-loop-base
invariant-loop-base l = in_below (is_logged l.log) (logged l.log) l.base l.hive ≡ true
