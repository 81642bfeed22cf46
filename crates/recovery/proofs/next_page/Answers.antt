use Rattle.logs.proofs.Laws.{head_of, bins-sized, logged-below, next-least}
use Rattle.recovery.proofs.Ways.{logged-sound}
use native.Mathlib.Omega.{arith}
use Rattle.logs.specs.Logs.{log_fault}
use Rattle.std.specs.Prelude.{Ok}
use mathlib.Core.Path.{◌≡◌, sym, ◌∙◌}
use Rattle.recovery.proofs.next_page.Goals as goal

pub next_logged-requires-clause-log_value : goal.next_logged-requires-clause-log_value
next_logged-requires-clause-log_value c =
    head_of _ (logged-sound _ _ _ _ _ (sym c.log_test.ensures ∙ c.in_ok-read.was)).0

pub logged_place-requires-clause-page_value : goal.logged_place-requires-clause-page_value
logged_place-requires-clause-page_value c =
    (next-least c.args.log.now c.args.from _ (sym c.next_logged.ensures ∙ c.in-Some.is)).marked

pub page_place-requires : goal.page_place-requires
page_place-requires c =
    let l = c.args.log.now in
    let ok : log_fault l ≡ Ok tt = (logged-sound _ _ _ _ _ (sym c.log_test.ensures ∙ c.in_ok-read.was)).0 in
    let m = (next-least l c.args.from _ (sym c.next_logged.ensures ∙ c.in-Some.is)).marked in
    omega (arith, logged-below l ok _ m, (bins-sized l (head_of l ok)).limit)
