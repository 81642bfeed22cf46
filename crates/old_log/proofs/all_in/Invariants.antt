use Rattle.sectors.specs.Logged.{in_below}
use Rattle.old_log.specs.Layout.{is_logged, logged_place, logged}
use mathlib.Core.Bool.{true}
use mathlib.Core.Path.{◌≡◌}
use Rattle.old_log.proofs.all_in.Given as goal

abbrev pub invariant-loop-page : goal.invariant-loop-page
invariant-loop-page l = (l.from ≡ logged_place l.log l.page) × (in_below (is_logged l.log) (logged l.log) l.page l.hive ≡ true)
