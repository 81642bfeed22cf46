use Rattle.recovery.proofs.Ways.{logged-sound, flawed-log, bad-log, by-hive, by_tests}
use native.Mathlib.Omega.{arith}
use mathlib.Core.Path.{sym, ◌∙◌}
use Rattle.recovery.proofs.begin.Goals as goal

pub returns-in_err-read : goal.returns-in_err-read
returns-in_err-read c =
    let e = bad-log c.args.hive.now c.args.log.now (flawed-log _ _ _ _ (sym c.log_test.ensures ∙ c.in_err-read.was)) in
    grind (arith, by_tests)

pub returns-in_err-hive_flaw : goal.returns-in_err-hive_flaw
returns-in_err-hive_flaw c =
    let e = logged-sound _ _ _ _ _ (sym c.log_test.ensures ∙ c.in_ok-read.was) in
    let t = by-hive c.args.hive.now c.args.log.now e.0 in
    grind (arith, by_tests)

pub returns : goal.returns
returns c =
    let e = logged-sound _ _ _ _ _ (sym c.log_test.ensures ∙ c.in_ok-read.was) in
    let t = by-hive c.args.hive.now c.args.log.now e.0 in
    grind (arith, by_tests)
