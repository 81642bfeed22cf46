use Rattle.std.proofs.Common.{◌≡◌, ◌+◌, ◌-◌, arith}
use Rattle.std.proofs.lemmas.Grind.{common_steps}
use Rattle.old_log.specs.Layout.{logged}
use Rattle.old_log.proofs.zero_agrees.Goals as goal

pub returns : goal.returns
unfolding logged
returns c =
    let a = c.logged_place-at.result.0 in
    let part : a + 512 - a ≡ 512 = omega arith in
    grind (arith, common_steps)
