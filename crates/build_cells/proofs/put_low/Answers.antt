use Rattle.names.proofs.LawsCodes.{wide-length}
use Rattle.build_cells.proofs.Laws.{low-next, put_last}
use Rattle.names.specs.Codes.{codes}
use lib.ListN.{length-set}
use mathlib.Core.Path.{refl, ◌∙◌}
use mathlib.Core.Bool.{false}
use native.Mathlib.Omega.{arith}
use Rattle.build_cells.proofs.put_low.Goals as goal

pub loop-i-init : goal.loop-i-init
loop-i-init c = (refl, refl)

pub loop-i-preserved : goal.loop-i-preserved
loop-i-preserved c =
    let a = c.args in
    let i = c.loop-i.i in
    let e = wide-length a.name.now in
    (simp length-set c.loop-i.invariant.0, rw c.loop-i.invariant.1 (low-next a.name.now a.out.now a.at i c.requires.name_value (omega arith)))

pub returns : goal.returns
returns c =
    let a = c.args in
    let e = wide-length a.name.now in
    c.loop-i.invariant.1 ∙ put_last (codes false a.name.now) a.out.now a.at c.loop-i.i (omega arith)

pub bounds-out-at : goal.bounds-out-at
bounds-out-at c =
    let e = wide-length c.args.name.now in
    omega (arith, c.loop-i.invariant.0)
