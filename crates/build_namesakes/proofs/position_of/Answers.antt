use mathlib.Core.Path.{refl}
use Rattle.build_namesakes.proofs.Rows.{start-here, start-on, row-held, held-laid}
use Rattle.build_namesakes.proofs.position_of.Goals as goal

pub loop-i-init : goal.loop-i-init
loop-i-init c =
    start-here _ _ refl

pub frame_end-p-requires : goal.frame_end-p-requires
frame_end-p-requires c =
    let a = c.args in
    let l = c.loop-i in
    held-laid a.s.now l.p (row-held a.s.now a.at c.requires c.loop-i-test.true l.invariant)

pub loop-i-preserved : goal.loop-i-preserved
loop-i-preserved c =
    let a = c.args in
    let l = c.loop-i in
    start-on a.s.now a.at l._i l.invariant c.frame_end-p.ensures.is
