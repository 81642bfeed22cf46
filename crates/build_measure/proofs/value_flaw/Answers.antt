use native.Mathlib.Omega.{arith}
use mathlib.Core.Path.{sym, ◌∙◌}
use Rattle.build_measure.proofs.Faulty.{value-late, value-misnamed, value-large, value-sound}
use Rattle.build_measure.proofs.value_flaw.Goals as goal

pub returns-then-h-ne0 : goal.returns-then-h-ne0
returns-then-h-ne0 c = λ k ks x. c.flawed.ensures ∙ sym (value-late x c.if-h-ne0.true)

pub returns-then-not-is_value_name : goal.returns-then-not-is_value_name
returns-then-not-is_value_name c =
    λ k ks x. c.flawed-then-not-is_value_name.ensures
    ∙ sym
    (value-misnamed x (omega (arith, c.if-h-ne0.false))
    (sym (c.is_value_name.ensures _ c.requires) ∙ c.if-not-is_value_name.true))

pub returns-then-not-is_small : goal.returns-then-not-is_small
returns-then-not-is_small c =
    λ k ks x. c.flawed-then-not-is_small.ensures
    ∙ sym
    (value-large x (omega (arith, c.if-h-ne0.false))
    (sym (c.is_value_name.ensures _ c.requires)
    ∙ c.if-not-is_value_name.false)
    (sym (c.is_small.ensures _ c.requires)
    ∙ c.if-not-is_small.true))

pub returns : goal.returns
returns c =
    λ k ks x. sym
    (value-sound x (omega (arith, c.if-h-ne0.false))
    (sym (c.is_value_name.ensures _ c.requires)
    ∙ c.if-not-is_value_name.false)
    (sym (c.is_small.ensures _ c.requires) ∙ c.if-not-is_small.false))
