use Rattle.std.proofs.Common.{arith, ◌∙◌, sym}
use Rattle.std.proofs.lemmas.Grind.{common_steps}
use Rattle.std.proofs.lemmas.Result.{err_from_is_err_and}
use Rattle.base.proofs.Tests.{no_block, past_block}
use Rattle.base.proofs.base_flaw.Goals as goal

pub returns-in_err-block_flaw : goal.returns-in_err-block_flaw
returns-in_err-block_flaw c =
    let p = err_from_is_err_and c.from_residual.result c.from_residual.ensures.1 in
    rw (p.1, p.2) (sym (no_block _ _ c.if-hive-lt4096.false (sym c.block_flaw.ensures ∙ c.in_err-block_flaw.was)))

pub returns-then-hive-bins_size : goal.returns-then-hive-bins_size
returns-then-hive-bins_size c =
    let e = past_block _ c.if-hive-lt4096.false (sym c.block_flaw.ensures ∙ c.in_ok-block_flaw.was) in grind (arith, common_steps)

pub returns-then-not-sequences_equal : goal.returns-then-not-sequences_equal
returns-then-not-sequences_equal c =
    let e = past_block _ c.if-hive-lt4096.false (sym c.block_flaw.ensures ∙ c.in_ok-block_flaw.was) in grind (arith, common_steps)

pub returns : goal.returns
returns c =
    let e = past_block _ c.if-hive-lt4096.false (sym c.block_flaw.ensures ∙ c.in_ok-block_flaw.was) in grind (arith, common_steps)
