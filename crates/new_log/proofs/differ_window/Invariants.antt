use lib.ListN.{length}
use Rattle.log_versions.specs.Versions.{versions}
use Rattle.log_versions.specs.Terms.{rest, Stands}
use Rattle.new_log.specs.Windows.{differs}
use Rattle.new_log.proofs.Windows.{Left}
use Rattle.new_log.proofs.differ_window.Given as goal

abbrev pub invariant-loop-c : goal.invariant-loop-c
invariant-loop-c l = Left (differs l.hive l.log) l.base l.initial.map (versions l.log) l.map (rest l.log l.c) × Stands l.log l.c

abbrev pub decreases-loop-c : goal.decreases-loop-c
decreases-loop-c l = length (rest l.log l.c)
