use native.Mathlib.Omega.{arith}
use lib.ListN.{length-set}
use Rattle.stream.proofs.Laws.{widen-turn}
use Rattle.stream.proofs.widen.Goals as goal

pub loop-i-preserved : goal.loop-i-preserved
loop-i-preserved c =
    let a = c.args in (
      simp length-set c.loop-i.invariant.0,
      rw c.loop-i.invariant.1 (widen-turn a.s.now a.out.now c.loop-i.i (omega arith) (omega (arith, c.type_inv.s c.loop-i.i))),
    )
