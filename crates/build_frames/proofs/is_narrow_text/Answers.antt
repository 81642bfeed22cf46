use native.Mathlib.Omega.{arith}
use Prim.Native.Nat.{◌+◌}
use mathlib.Core.Path.{sym, ◌∙◌}
use Rattle.build_frames.proofs.Names.{narrow-on, narrow-stop, narrow-end, four-on, four-stop}
use Rattle.build_frames.proofs.is_narrow_text.Goals as goal

pub returns-then-high_of_four-ne0 : goal.returns-then-high_of_four-ne0
returns-then-high_of_four-ne0 c =
    let l = c.loop-i in
    let s = c.args.s.now in
    sym (l.invariant.2 ∙ four-stop s l.i (omega arith) _ c.high_of_four.ensures c.if-high_of_four-ne0.true)

pub loop-i-preserved-then-s-i-ge8 : goal.loop-i-preserved-then-s-i-ge8
loop-i-preserved-then-s-i-ge8 c =
    let l = c.loop-i in
    let s = c.args.s.now in (
      omega arith,
      omega arith,
      l.invariant.2 ∙ four-on s l.i (omega arith) _ c.high_of_four.ensures
          (λ j. omega (arith, c.type_inv.s j)) (omega arith),
    )

pub returns-then-s-i-ne0 : goal.returns-then-s-i-ne0
returns-then-s-i-ne0 c =
    let l = c.loop-i in
    let s = c.args.s.now in
    sym (l.invariant.2 ∙ narrow-stop s l.i (l.i + 1) (l.i + 2) (omega arith) (omega arith) (omega arith) c.if-s-i-ne0.true)

pub loop-i-preserved : goal.loop-i-preserved
loop-i-preserved c =
    let l = c.loop-i in
    let s = c.args.s.now in (
      omega arith,
      omega arith,
      l.invariant.2 ∙ narrow-on s l.i (l.i + 1) (l.i + 2) (omega arith) (omega arith) (omega arith)
          (omega (arith, c.type_inv.s l.i)) (omega arith),
    )

pub returns : goal.returns
returns c =
    let l = c.loop-i in
    sym (l.invariant.2 ∙ narrow-end c.args.s.now l.i (omega arith))
