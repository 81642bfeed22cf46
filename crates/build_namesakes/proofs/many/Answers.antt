use native.Mathlib.Omega.{arith}
use Prim.Native.Nat.{◌+◌, ◌-◌}
use mathlib.Core.Path.{◌≡◌, refl, ap, ◌∙◌}
use Rattle.namesake_laws.proofs.Blocks.{reach-first, reach-on, block-later}
use Rattle.build_namesakes.specs.Rows.{start_of, called}
use Rattle.build_namesakes.proofs.Rows.{start-here, start-jump, called-later, row-less, row-later, row-few}
use Rattle.build_namesakes.proofs.many.Goals as goal

pub loop-b-init : goal.loop-b-init
loop-b-init c =
    let a = c.args in
    let z : 0 ≡ 4096 - 4096 = omega arith in
    (omega arith, start-here a.s.now a.at refl ∙ ap (start_of a.s.now a.at) z, reach-first (called a.s.now a.at) _ 4096 c.block-best.ensures)

pub position_of-p-requires : goal.position_of-p-requires
position_of-p-requires c =
    let a = c.args in
    let l = c.loop-b in
    let i = l.invariant.2.within in
    let t = c.loop-b-test.true in
    row-less a.s.now l.p (row-later a.s.now a.at c.requires (omega arith) l.invariant.1) (omega arith)

pub block-requires : goal.block-requires
block-requires c =
    let a = c.args in
    let l = c.loop-b in
    let i = l.invariant.2.within in
    let t = c.loop-b-test.true in
    let e = start-jump a.s.now a.at 4096 l.b l.invariant.0 l.invariant.1 c.position_of-p.ensures in
    row-less a.s.now c.position_of-p.result (row-later a.s.now a.at c.requires (omega arith) e) (omega arith)

pub overflow_add-b : goal.overflow_add-b
overflow_add-b c =
    let a = c.args in
    omega (
      arith,
      row-few a.s.now a.at c.requires,
      c.well_formed.0.0,
      c.loop-b-test.true,
      c.loop-b.invariant.2.within,
    )

pub loop-b-preserved : goal.loop-b-preserved
loop-b-preserved c =
    let a = c.args in
    let l = c.loop-b in
    let t = c.loop-b-test.true in
    let q = c.position_of-p in
    let e = start-jump a.s.now a.at 4096 l.b l.invariant.0 l.invariant.1 q.ensures in
    let z : l.b ≡ l.b + 4096 - 4096 = omega arith in (
      omega arith,
      e ∙ ap (start_of a.s.now a.at) z,
      reach-on (called a.s.now a.at) _ 4096 l.invariant.2
          (block-later (called a.s.now a.at) (called a.s.now q.result) l.b (λ i. called-later a.s.now a.at l.b i e) 4096 (omega arith) c.block.ensures),
    )
