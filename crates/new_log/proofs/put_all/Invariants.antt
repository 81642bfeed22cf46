use mathlib.Core.Path.{◌≡◌}
use lib.ListN.{length}
use Rattle.log_versions.specs.Versions.{versions}
use Rattle.log_versions.specs.Terms.{rest, Stands}
use Rattle.new_log.specs.Terms.{put_each}
use Rattle.new_log.proofs.put_all.Given as goal

abbrev pub invariant-loop-c : goal.invariant-loop-c
invariant-loop-c l = (length l.hive ≡ length l.initial.hive) × (put_each l.log (rest l.log l.c) l.hive ≡ put_each l.log (versions l.log) l.initial.hive) × Stands l.log l.c

abbrev pub decreases-loop-c : goal.decreases-loop-c
decreases-loop-c l = length (rest l.log l.c)
