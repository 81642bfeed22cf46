use Rattle.log_versions.specs.Versions.{versions_of, bytes_in}
use Rattle.log_versions.specs.Terms.{rest, Stands}
use Rattle.new_log.specs.Tests.{all_stamped}
use lib.ListN.{length}
use mathlib.Core.Path.{◌≡◌}
use Rattle.new_log.proofs.all_stamped.Given as goal

abbrev pub invariant-loop-c : goal.invariant-loop-c
invariant-loop-c l = (all_stamped l.stamp (versions_of l.log 0) ≡ all_stamped l.stamp (bytes_in l.log 0 (rest l.log l.c))) × Stands l.log l.c

abbrev pub decreases-loop-c : goal.decreases-loop-c
decreases-loop-c l = length (rest l.log l.c)
