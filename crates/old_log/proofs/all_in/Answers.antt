use Rattle.std.proofs.Common.{sym, ◌∙◌, arith}
use Rattle.sectors.proofs.Logged.{in-false}
use Rattle.old_log.specs.Layout.{page_count, is_logged, logged}
use Rattle.old_log.proofs.all_in.Goals as goal

pub returns-then-not-is_in : goal.returns-then-not-is_in
returns-then-not-is_in c =
    let l = c.args.log.now in
    sym
    (in-false (is_logged l) (logged l) c.args.hive.now c.loop-page.page (page_count l) (omega (arith, c.bins_size-n.ensures.0))
    (sym c.is_in.ensures ∙ c.if-not-is_in.true))
