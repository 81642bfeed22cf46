use native.Mathlib.Omega.{arith}
use mathlib.Core.Path.{sym, ◌∙◌}
use Rattle.build_measure.proofs.Faulty.{key-unsorted, key-misnamed, key-deep, key-many, key-sound}
use Rattle.build_measure.proofs.key_flaw.Goals as goal

pub returns-then-not-is_in_order : goal.returns-then-not-is_in_order
returns-then-not-is_in_order c =
    λ k ks x. c.flawed.ensures ∙ sym (key-unsorted x (sym (c.is_in_order.ensures _ x.elders) ∙ c.if-not-is_in_order.true))

pub returns-then-not-is_key_name : goal.returns-then-not-is_key_name
returns-then-not-is_key_name c =
    λ k ks x. c.flawed-then-not-is_key_name.ensures
    ∙ sym
    (key-misnamed x (sym (c.is_in_order.ensures _ x.elders) ∙ c.if-not-is_in_order.false)
    (sym (c.is_key_name.ensures _) ∙ c.if-not-is_key_name.true))

pub returns-then-h-ge-LEVELS : goal.returns-then-h-ge-LEVELS
returns-then-h-ge-LEVELS c =
    let at-if1 = c in
    λ k ks x. c.flawed-then-h-ge-LEVELS.ensures
    ∙ sym
    (key-deep x (sym (at-if1.is_in_order.ensures _ x.elders) ∙ at-if1.if-not-is_in_order.false)
    (sym (c.is_key_name.ensures _) ∙ c.if-not-is_key_name.false) (omega (arith, c.if-h-ge-LEVELS.true)))

pub returns-then-h-ge-SUBKEYS : goal.returns-then-h-ge-SUBKEYS
returns-then-h-ge-SUBKEYS c =
    λ k ks x. c.flawed-then-h-ge-SUBKEYS.ensures
    ∙ sym
    (key-many x
    (sym (c.is_in_order.ensures _ x.elders)
    ∙ c.if-not-is_in_order.false)
    (sym (c.is_key_name.ensures _)
    ∙ c.if-not-is_key_name.false)
    (omega (arith, c.if-h-ge-LEVELS.false)) (omega (arith, c.if-h-ge-SUBKEYS.true)))

pub returns : goal.returns
returns c =
    λ k ks x. sym
    (key-sound x
    (sym (c.is_in_order.ensures _ x.elders)
    ∙ c.if-not-is_in_order.false)
    (sym (c.is_key_name.ensures _) ∙ c.if-not-is_key_name.false)
    (omega (arith, c.if-h-ge-LEVELS.false)) (omega (arith, c.if-h-ge-SUBKEYS.false)))
