use Rattle.recovery.proofs.Called.{ready}
use Rattle.recovery.specs.AtOnce.{all_answer, all_hive}
use Rattle.recovery.proofs.AtOnce.{all-put}
use mathlib.Core.Path.{ap, ◌∙◌}
use Rattle.std.specs.Prelude.{Ok}
use Rattle.recovery.proofs.all_pages.Goals as goal

pub returns-clause-hive_after : goal.returns-clause-hive_after
unfolding all_answer all_hive
returns-clause-hive_after c =
    let m = ready _ _ c.begin.ensures (c.in_ok-read.was ∙ ap Ok c.in-Ready.is) in
    rw m.1 (c.put_all.ensures ∙ all-put _ _ m.0 m.1)
