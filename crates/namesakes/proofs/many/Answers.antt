use native.Mathlib.Omega.{arith}
use Rattle.cells.proofs.Parts.{data-short}
use Rattle.namesake_laws.proofs.Blocks.{reach-first, reach-on, reach-end}
use Rattle.namesakes.proofs.many.Goals as goal

pub block-best-requires : goal.block-best-requires
block-best-requires c =
    record { names_lie = c.requires; best_le_count = omega arith }

pub loop-s-init : goal.loop-s-init
loop-s-init c =
    reach-first _ _ 4096 c.block-best.ensures

pub block-best-requires-in-loop-s : goal.block-best-requires-in-loop-s
block-best-requires-in-loop-s c =
    record { names_lie = c.requires; best_le_count = c.loop-s.invariant.within }

pub overflow_add-s : goal.overflow_add-s
overflow_add-s c =
    let a = c.args in
    omega (
      arith,
      data-short a.bins.now a.e.cell,
      c.well_formed.0.0,
      c.requires.room,
      c.loop-s.invariant.within,
      c.loop-s-test.true,
    )

pub loop-s-smaller : goal.loop-s-smaller
loop-s-smaller c =
    omega (arith, c.block-best-in-loop-s.ensures.within, c.loop-s-test.true)

pub loop-s-preserved : goal.loop-s-preserved
loop-s-preserved c =
    reach-on _ _ 4096 c.loop-s.invariant c.block-best-in-loop-s.ensures

pub returns : goal.returns
returns c = reach-end _ _ c.loop-s.invariant (omega (arith, c.loop-s-test.false))
