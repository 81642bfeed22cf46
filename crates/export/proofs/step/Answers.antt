use mathlib.Core.Path.{sym, ◌∙◌}
use Rattle.export.proofs.Exports.{accepted-formed, step_is}
use Rattle.export.proofs.Refusals.{step-unread}
use Rattle.export.proofs.step.Goals as goal

pub returns-in_err-check-clause-out_after : goal.returns-in_err-check-clause-out_after
returns-in_err-check-clause-out_after c =
    sym (step-unread c.args.hive.now c.args.map.now (sym c.check.ensures.value ∙ c.in_err-check.was) c.args.n c.args.out.now).1

pub returns-clause-value : goal.returns-clause-value
returns-clause-value c =
    let e = sym c.check.ensures.value ∙ c.in_ok-check.was in
    let q = step_is c.args.hive.now (accepted-formed c.args.hive.now c.args.map.now e) c.args.out.now c.args.map.now e c.args.n in
    c.step_in.ensures.value ∙ rw (c.bins_of.ensures, c.minor_of.ensures, c.root_of.ensures) q.0

pub returns-clause-out_after : goal.returns-clause-out_after
returns-clause-out_after c =
    let e = sym c.check.ensures.value ∙ c.in_ok-check.was in
    let q = step_is c.args.hive.now (accepted-formed c.args.hive.now c.args.map.now e) c.args.out.now c.args.map.now e c.args.n in
    c.step_in.ensures.out_after ∙ rw (c.bins_of.ensures, c.minor_of.ensures, c.root_of.ensures) q.1
