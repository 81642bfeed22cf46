use mathlib.Core.Path.{◌≡◌}
use lib.ListN.{length}
use Rattle.log_versions.specs.Versions.{last_place, logged_place}
use Rattle.log_versions.specs.Terms.{rest, Stands}
use Rattle.new_log.proofs.logged_place.Given as goal

abbrev pub invariant-loop-c : goal.invariant-loop-c
invariant-loop-c l = (last_place l.place l.page (rest l.log l.c) ≡ logged_place l.log l.page) × Stands l.log l.c

abbrev pub decreases-loop-c : goal.decreases-loop-c
decreases-loop-c l = length (rest l.log l.c)
