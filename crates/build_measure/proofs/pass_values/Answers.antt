use native.Mathlib.Omega.{arith}
use native.Mathlib.Numerals.{add-one}
use Rattle.build_measure.proofs.Rows.{good-laid, passed_none, passed-more, passed-few}
use Rattle.build_measure.proofs.pass_values.Goals as goal

pub loop-k-init : goal.loop-k-init
loop-k-init c = passed_none _ _ c.requires

pub frame_end-p-requires : goal.frame_end-p-requires
frame_end-p-requires c = let e = c.in-Some.ensures in good-laid (e.1.good e.0)

pub overflow_add-size : goal.overflow_add-size
overflow_add-size c = omega (arith, passed-few c.loop-k.invariant, c.in-Some.ensures.1.few)

pub loop-k-preserved : goal.loop-k-preserved
loop-k-preserved c =
    let e = c.in-Some.ensures in
    rw (add-one c.loop-k.n, c.capped-size.ensures) (passed-more _ c.loop-k.invariant e.1 e.0 c.frame_end-p.ensures)
