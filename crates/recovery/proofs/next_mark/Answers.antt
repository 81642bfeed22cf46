use Rattle.logs.proofs.Laws.{bins-sized, marked-below, next-least}
use Rattle.recovery.proofs.Ways.{good-head}
use native.Mathlib.Omega.{arith}
use Rattle.logs.specs.Logs.{head_fault}
use Rattle.std.specs.Prelude.{Ok}
use mathlib.Core.Path.{◌≡◌, sym, ◌∙◌}
use Rattle.recovery.proofs.next_mark.Goals as goal

pub page_place-to-requires : goal.page_place-to-requires
page_place-to-requires c =
    let l = c.args.log.now in
    let ok : head_fault l ≡ Ok tt = (good-head _ _ _ (sym c.head_test.ensures ∙ c.in_ok-read.was)).0 in
    let m = (next-least l c.args.from _ (sym c.next_logged.ensures ∙ c.in-Some.is)).marked in
    omega (arith, marked-below l ok _ m, (bins-sized l ok).limit)
