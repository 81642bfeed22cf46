use mathlib.Core.Path.{sym, ◌∙◌}
use native.Mathlib.Omega.{arith}
use Rattle.export.proofs.Calls.{run_on}
use Rattle.export.proofs.Refusals.{run-unread}
use Rattle.export.proofs.run.Goals as goal

pub returns-in_err-base_flaw-clause-levels_after : goal.returns-in_err-base_flaw-clause-levels_after
returns-in_err-base_flaw-clause-levels_after c =
    sym (run-unread c.args.hive.now c.args.levels.now c.args.c c.args.out.now (sym c.base_flaw.ensures ∙ c.in_err-base_flaw.was)).2

pub returns-in_err-base_flaw-clause-out_after : goal.returns-in_err-base_flaw-clause-out_after
returns-in_err-base_flaw-clause-out_after c =
    sym (run-unread c.args.hive.now c.args.levels.now c.args.c c.args.out.now (sym c.base_flaw.ensures ∙ c.in_err-base_flaw.was)).1

pub returns-clause-levels_after : goal.returns-clause-levels_after
returns-clause-levels_after c =
    let e = sym c.base_flaw.ensures ∙ c.in_ok-base_flaw.was in
    let q = run_on c.args.hive.now c.args.levels.now c.args.c c.args.out.now e (omega arith) (omega arith) in
    c.run_in.ensures.levels_after ∙ rw (c.bins_of.ensures, c.minor_of.ensures) (sym q.1)

pub returns-clause-out_after : goal.returns-clause-out_after
returns-clause-out_after c =
    let e = sym c.base_flaw.ensures ∙ c.in_ok-base_flaw.was in
    let q = run_on c.args.hive.now c.args.levels.now c.args.c c.args.out.now e (omega arith) (omega arith) in
    c.run_in.ensures.out_after ∙ rw (c.bins_of.ensures, c.minor_of.ensures) (sym q.2)
