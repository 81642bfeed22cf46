use native.Mathlib.Omega.{arith}
use Rattle.build_write.proofs.Leaves.{element-fits, goes_on, all_there}
use Rattle.build_write.proofs.put_elements.Goals as goal

pub put_element-p-requires : goal.put_element-p-requires
put_element-p-requires c =
    element-fits _ _ _ _ _ _ c.loop-p.invariant.1 c.loop-p-test.true _ c.loop-p.invariant.0
    c.requires.0 c.requires.1
    c.requires.2 c.requires.3
    c.requires.4

pub loop-p-smaller : goal.loop-p-smaller
loop-p-smaller c =
    let x =
    element-fits _ _ _ _ _ _ c.loop-p.invariant.1 c.loop-p-test.true _
    c.loop-p.invariant.0 c.requires.0
    c.requires.1
    c.requires.2
    c.requires.3
    c.requires.4 in
    let m = c.put_element-p.ensures x.2.0 x.2.1 x.2.2 x.2.3 in omega (arith, m.fewer)

pub loop-p-preserved : goal.loop-p-preserved
loop-p-preserved c = (omega (arith, c.loop-p.invariant.0), goes_on _ _ _ _ _ _ c.loop-p.invariant.1 c.loop-p-test.true _ _ c.put_element-p.ensures)

pub returns : goal.returns
returns c = all_there _ _ _ _ _ _ c.loop-p.invariant.1 c.loop-p-test.false
