use native.Mathlib.Omega.{arith}
use Rattle.cells.proofs.Gaps.{without-start, with-room, without_on}
use Rattle.cells.proofs.next_with.Goals as goal

pub loop-o-init : goal.loop-o-init
loop-o-init c =
    without-start c.requires.bin c.requires.i_bound _

pub overflow_add-o : goal.overflow_add-o
overflow_add-o c = let b = c.requires.bin in omega (arith, b.inside, b.small)

pub overflow_add-o-in-loop-o : goal.overflow_add-o-in-loop-o
overflow_add-o-in-loop-o c = let b = c.requires.bin in omega (arith, b.inside, b.small, c.requires.i_bound)

pub bounds-bins-o : goal.bounds-bins-o
bounds-bins-o c =
    let p = c.requires in
    omega (arith, with-room p.bin p.i_bound _ c.loop-o.invariant c.loop-o-test.true, p.bin.inside, p.i_bound)

pub returns-then-bins-o : goal.returns-then-bins-o
returns-then-bins-o c =
    c.loop-o.invariant

pub overflow_add-o-in-loop-o-2 : goal.overflow_add-o-in-loop-o-2
overflow_add-o-in-loop-o-2 c = let b = c.requires.bin in omega (arith, b.inside, b.small)

pub loop-o-preserved : goal.loop-o-preserved
loop-o-preserved c =
    let p = c.requires in
    without_on p.bin p.i_bound _ c.loop-o.invariant c.loop-o-test.true c.if-bins-o.false

pub returns : goal.returns
returns c =
    c.loop-o.invariant
