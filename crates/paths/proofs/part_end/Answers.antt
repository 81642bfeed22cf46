use Rattle.std.proofs.Common.{arith}
use Rattle.paths.proofs.Parts.{part_cut, part-on, part-over}
use Rattle.paths.proofs.part_end.Goals as goal

pub returns-then-path-i-eq-BACKSLASH : goal.returns-then-path-i-eq-BACKSLASH
returns-then-path-i-eq-BACKSLASH c = part_cut _ _ _ c.loop-i.invariant.1 c.loop-i-test.true c.if-path-i-eq-BACKSLASH.true

pub loop-i-preserved : goal.loop-i-preserved
loop-i-preserved c = (omega arith, part-on _ _ _ c.loop-i.invariant.1 c.loop-i-test.true c.if-path-i-eq-BACKSLASH.false)

pub returns : goal.returns
returns c =
    let i = c.loop-i.invariant.0 in
    let e = part-over _ _ _ c.loop-i.invariant.1 c.loop-i-test.false in
    omega arith
