use Rattle.std.proofs.Common.{refl, arith}
use Rattle.security_check.proofs.Compares.{compare-end, compare-stop, compare-on}
use Rattle.security_check.proofs.compare.Goals as goal

pub returns-then-item_at-k : goal.returns-then-item_at-k
returns-then-item_at-k c = compare-stop _ _ _ _ c.loop-i.invariant c.loop-i-test.true refl c.item_at.ensures refl c.if-item_at-k.true

pub loop-i-preserved : goal.loop-i-preserved
loop-i-preserved c =
    let z = c.from-sum.ensures in
    rw c.from-sum.ensures
    (compare-on _ _ _ _ c.loop-i.invariant c.loop-i-test.true refl c.item_at.ensures refl c.if-item_at-k.false)

pub returns : goal.returns
returns c = compare-end _ _ _ _ c.loop-i.invariant (omega arith)
