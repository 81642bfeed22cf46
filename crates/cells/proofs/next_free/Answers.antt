use native.Mathlib.Omega.{arith}
use mathlib.Core.Path.{refl, sym, ap, ◌∙◌}
use borrow.Author.Tests.{not-true, not-false}
use Rattle.fields.specs.declared.Size.{Size}
use Rattle.cells.proofs.Gaps.{bin-size, turn-bin, same_bin, cell-size, turn-cell, same-used, at-free, at-end, farther}
use Rattle.cells.proofs.next_free.Goals as goal

pub loop-cell-init : goal.loop-cell-init
loop-cell-init c =
    (c.requires, omega arith, refl)

pub overflow_add-bin : goal.overflow_add-bin
overflow_add-bin c = let s = c.loop-cell.invariant.0 in omega (arith, s.inside, s.small)

pub u32_at-n-requires : goal.u32_at-n-requires
u32_at-n-requires c =
    let b = (bin-size _ c.loop-cell.invariant.0 c.loop-cell-test.true c.if-cell-bin.true).header in omega (arith, b.inside, b.some, b.pages)

pub overflow_add-cell : goal.overflow_add-cell
overflow_add-cell c = let s = c.loop-cell.invariant.0 in omega (arith, s.inside, s.small)

pub overflow_add-bin-then-cell-bin : goal.overflow_add-bin-then-cell-bin
overflow_add-bin-then-cell-bin c =
    let b = (bin-size _ c.loop-cell.invariant.0 c.loop-cell-test.true c.if-cell-bin.true).header in
    let s = c.loop-cell.invariant.0 in omega (arith, b.inside, s.small, c.u32_at-n.ensures)

pub loop-cell-smaller-then-cell-bin : goal.loop-cell-smaller-then-cell-bin
loop-cell-smaller-then-cell-bin c =
    omega (arith, c.loop-cell.invariant.1)

pub loop-cell-preserved-then-cell-bin : goal.loop-cell-preserved-then-cell-bin
loop-cell-preserved-then-cell-bin c =
    let l = c.loop-cell in
    let lt = c.loop-cell-test.true in
    let e = c.if-cell-bin.true in
    rw c.u32_at-n.ensures (turn-bin _ l.invariant.0 lt e, omega (arith, l.invariant.1), l.invariant.2 ∙ same_bin _ l.invariant.0 lt e)

pub size_at-c-requires : goal.size_at-c-requires
size_at-c-requires c =
    let s = c.loop-cell.invariant.0 in
    let g = (cell-size _ s c.loop-cell-test.true c.if-cell-bin.false).good in omega (arith, s.inside, s.order, g.some, g.eights, g.inside)

pub overflow_add-next : goal.overflow_add-next
overflow_add-next c =
    let s = c.loop-cell.invariant.0 in
    let t = turn-cell _ s c.loop-cell-test.true c.if-cell-bin.false in
    rw c.size_at-c.ensures (omega (arith, t.order, t.inside, t.small))

pub returns-then-not-c : goal.returns-then-not-c
returns-then-not-c c =
    let at_turn = c in
    let l = at_turn.loop-cell in
    let lt = at_turn.loop-cell-test.true in
    let ne = c.if-cell-bin.false in
    let z = c.size_at-c.ensures in
    rw z (farther _ l.invariant.1 l.invariant.2 (at-free _ l.invariant.0 lt ne (ap (λ (y : Size). y.used) (sym z) ∙ not-true _ c.if-not-c.true)))

pub loop-cell-smaller : goal.loop-cell-smaller
loop-cell-smaller c =
    let s = c.loop-cell.invariant.0 in
    let g = (cell-size _ s c.loop-cell-test.true c.if-cell-bin.false).good in
    rw c.size_at-c.ensures (omega (arith, g.some))

pub loop-cell-preserved : goal.loop-cell-preserved
loop-cell-preserved c =
    let l = c.loop-cell in
    let lt = c.loop-cell-test.true in
    let ne = c.if-cell-bin.false in
    let z = c.size_at-c.ensures in
    rw z (
      turn-cell _ l.invariant.0 lt ne,
      omega (arith, l.invariant.1),
      l.invariant.2 ∙ same-used _ l.invariant.0 lt ne (ap (λ (y : Size). y.used) (sym z) ∙ not-false _ c.if-not-c.false),
    )

pub returns : goal.returns
returns c =
    let l = c.loop-cell in
    farther _ l.invariant.1 l.invariant.2 (at-end _ l.invariant.0 c.loop-cell-test.false)
