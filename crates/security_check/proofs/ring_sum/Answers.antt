use Rattle.std.proofs.Common.{Ok, ap, rules, sym, ◌∙◌, arith}
use Rattle.security.proofs.Ring.{trail-item}
use Rattle.security_check.proofs.Rounds.{round-start, round-over, round-once, round-flawed, round-ended, round-next}
use Rattle.security_check.proofs.ring_sum.Goals as goal

pub loop-met-init : goal.loop-met-init
loop-met-init c = round-start _ _ _ _ c.requires.first_value

pub run_batch-requires : goal.run_batch-requires
run_batch-requires c =
    let r = c.loop-met.invariant in
    record { item = trail-item _ _ _ r.trail; once = round-once _ _ _ _ r 2048; walk = c.requires.walkable }

pub returns-in_err-n : goal.returns-in_err-n
returns-in_err-n c =
    let f = round-flawed _ _ _ _ c.loop-met.invariant 2048 (sym c.run_batch.ensures ∙ c.in_err-n.was) in
    search rules

pub returns-in-Ended : goal.returns-in-Ended
returns-in-Ended c = round-ended _ _ _ _ c.loop-met.invariant 2048 (sym c.run_batch.ensures ∙ c.in_ok-n.was ∙ ap Ok c.in-Ended.is)

pub loop-met-preserved : goal.loop-met-preserved
loop-met-preserved c = round-next _ _ _ _ c.loop-met.invariant 2048 (sym c.run_batch.ensures ∙ c.in_ok-n.was ∙ ap Ok c.in-Next.is)

pub returns : goal.returns
returns c = round-over _ _ _ _ c.loop-met.invariant (omega arith)

pub returns-in-Next : goal.returns-in-Next
returns-in-Next c =
    let r = round-next _ _ _ _ c.loop-met.invariant 2048 (sym c.run_batch.ensures ∙ c.in_ok-n.was ∙ ap Ok c.in-Next.is) in
    round-over _ _ _ _ r (omega arith)
