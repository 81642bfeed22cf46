use Rattle.build_cells.proofs.Laws.{zeros-next, zeros-last}
use lib.ListN.{length-set}
use mathlib.Core.Path.{refl, ◌∙◌}
use native.Mathlib.Omega.{arith}
use Rattle.build_cells.proofs.put_zeros.Goals as goal

pub loop-i-init : goal.loop-i-init
loop-i-init c =
    (refl, refl)

pub loop-i-preserved : goal.loop-i-preserved
loop-i-preserved c =
    let a = c.args in
    let i = c.loop-i.i in
    (simp length-set c.loop-i.invariant.0, rw c.loop-i.invariant.1 (zeros-next a.out.now a.at a.n i (omega arith)))

pub returns : goal.returns
returns c = let a = c.args in c.loop-i.invariant.1 ∙ zeros-last a.out.now a.at a.n c.loop-i.i (omega arith)
