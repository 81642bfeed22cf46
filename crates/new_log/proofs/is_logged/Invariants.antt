use mathlib.Core.Path.{◌≡◌}
use lib.ListN.{length}
use Rattle.log_versions.specs.Versions.{names, is_logged}
use Rattle.log_versions.specs.Terms.{rest, Stands}
use Rattle.new_log.proofs.is_logged.Given as goal

abbrev pub invariant-loop-c : goal.invariant-loop-c
invariant-loop-c l = (is_logged l.log l.page ≡ names l.page (rest l.log l.c)) × Stands l.log l.c

abbrev pub decreases-loop-c : goal.decreases-loop-c
decreases-loop-c l = length (rest l.log l.c)
