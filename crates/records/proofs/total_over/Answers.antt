use Rattle.std.proofs.Common.{rules}
use native.Mathlib.Omega.{arith}
use mathlib.Core.Path.{sym, ◌∙◌}
use Rattle.records.proofs.Totals.{counted_start, counted-bad, counted-on, counted-end}
use Rattle.records.proofs.total_over.Goals as goal

pub loop-j-init : goal.loop-j-init
loop-j-init c = counted_start _ _ _ _ c.requires.1

pub returns-in_err-leaf : goal.returns-in_err-leaf
returns-in_err-leaf c =
    let l = c.loop-j in
    let e = counted-bad _ _ _ _ c.requires.1 l.sum l.j l.invariant _ (omega arith) c.leaf_offset.ensures (sym c.leaf_at.ensures ∙ c.in_err-leaf.was) in
    search (rules, e)

pub overflow_add-sum : goal.overflow_add-sum
overflow_add-sum c =
    let l = c.loop-j in
    let w = counted-on _ _ _ _ c.requires.1 l.sum l.j l.invariant _ (omega arith) c.leaf_offset.ensures _ (λ i. omega (arith, c.type_inv.bins i))
    (sym c.leaf_at.ensures ∙ c.in_ok-leaf.was) in
    omega arith

pub loop-j-preserved : goal.loop-j-preserved
loop-j-preserved c =
    let l = c.loop-j in
    counted-on _ _ _ _ c.requires.1 l.sum l.j l.invariant _ (omega arith) c.leaf_offset.ensures _ (λ i. omega (arith, c.type_inv.bins i))
    (sym c.leaf_at.ensures ∙ c.in_ok-leaf.was)

pub returns : goal.returns
returns c = let l = c.loop-j in counted-end _ _ _ _ c.requires.1 l.sum l.j l.invariant (omega arith)
