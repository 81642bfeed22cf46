use Rattle.remnants.proofs.Stores.{filled_on, filled-end, filled-full}
use Rattle.remnants.proofs.fill.Goals as goal

pub returns-in_default : goal.returns-in_default
returns-in_default c =
    let w = filled-end c.loop-rows.invariant c.in_default.is in
    record { value = w.0; rows_after = w.1 }

pub loop-rows-preserved : goal.loop-rows-preserved
loop-rows-preserved c =
    filled_on c.loop-rows.invariant c.in-Some.is c.loop-rows-test.true c.remain_at.ensures.value c.store.ensures c.seek-c.ensures

pub returns : goal.returns
returns c =
    let w = filled-full c.loop-rows.invariant c.loop-rows-test.false in
    record { value = w.0; rows_after = w.1 }
