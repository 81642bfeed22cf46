use native.Mathlib.Omega.{arith}
use mathlib.Core.Path.{sym, ap, ◌∙◌}
use borrow.Author.Tests.{eq-eqb, eqb-true}
use Rattle.fields.proofs.Bools.{never}
use Rattle.names.specs.Upper_case.{upper}
use Rattle.names.specs.Comparison.{is_same}
use Rattle.names.proofs.Turns.{turn-apart, turn_level, turn-ended}
use Rattle.names.proofs.is_same.Goals as goal

pub returns-then-not-same_letter : goal.returns-then-not-same_letter
returns-then-not-same_letter c =
    let l = c.loop-i in
    sym (l.invariant ∙ turn-apart _ _ l.i (omega arith) (omega arith)
    (λ e. never c.same_letter.result
    (c.same_letter.ensures
    ∙ eq-eqb _ _ (ap upper c.code_at.ensures ∙ e ∙ sym (ap upper c.code_at-in-loop-i.ensures)))
    (c.if-not-same_letter.true)))

pub loop-i-preserved : goal.loop-i-preserved
loop-i-preserved c =
    let l = c.loop-i in
    l.invariant ∙ ap is_same (turn_level _ _ l.i (omega arith) (omega arith)
    (sym (ap upper c.code_at.ensures)
    ∙ eqb-true _ _ (sym c.same_letter.ensures ∙ c.if-not-same_letter.false)
    ∙ ap upper c.code_at-in-loop-i.ensures))

pub returns : goal.returns
returns c = let l = c.loop-i in sym (l.invariant ∙ ap is_same (turn-ended _ _ l.i (omega arith) (omega arith)))
