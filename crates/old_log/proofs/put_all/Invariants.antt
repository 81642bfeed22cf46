use Rattle.old_log.specs.Layout.{is_logged, logged_place, logged}
use Rattle.sectors.specs.Logged.{put_below}
use lib.ListN.{length}
use mathlib.Core.Path.{◌≡◌}
use Rattle.old_log.proofs.put_all.Given as goal

abbrev pub invariant-loop-page : goal.invariant-loop-page
invariant-loop-page l =
    (l.from ≡ logged_place l.log l.page) × (length l.hive ≡ length l.initial.hive) × (l.hive ≡ put_below (is_logged l.log) (logged l.log) l.page l.initial.hive)
