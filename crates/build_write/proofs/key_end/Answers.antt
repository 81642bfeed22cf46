use native.Mathlib.Omega.{arith}
use mathlib.Core.Path.{◌∙◌}
use Rattle.build_write.proofs.Stands.{key-inside, end-leaf, end_list, end-alone}
use Rattle.build_write.proofs.key_end.Goals as goal

pub u32_at-subkeys-requires : goal.u32_at-subkeys-requires
u32_at-subkeys-requires c = omega (arith, key-inside _ _ _ _ _ c.requires.3)

pub u32_at-values-requires : goal.u32_at-values-requires
u32_at-values-requires c = omega (arith, key-inside _ _ _ _ _ c.requires.3)

pub u32_at-requires : goal.u32_at-requires
u32_at-requires c = omega (arith, key-inside _ _ _ _ _ c.requires.3)

pub u32_at-requires-then-values-ne0 : goal.u32_at-requires-then-values-ne0
u32_at-requires-then-values-ne0 c = omega (arith, key-inside _ _ _ _ _ c.requires.3)

pub u16_at-requires : goal.u16_at-requires
u16_at-requires c = omega (arith, key-inside _ _ _ _ _ c.requires.3)

pub overflow_add-result : goal.overflow_add-result
overflow_add-result c =
    omega (
      arith,
      c.requires.3.low,
      end-leaf _ _ _ _ _ c.requires.3 _ c.u32_at-subkeys.ensures c.if-subkeys-ne0.true _ c.u32_at.ensures _ c.leaf_size.ensures,
    )

pub returns-then-subkeys-ne0 : goal.returns-then-subkeys-ne0
returns-then-subkeys-ne0 c =
    λ x vs b k. end-leaf _ _ _ _ _ k _ c.u32_at-subkeys.ensures c.if-subkeys-ne0.true _ c.u32_at.ensures _ c.leaf_size.ensures

pub overflow_add-result-then-values-ne0 : goal.overflow_add-result-then-values-ne0
overflow_add-result-then-values-ne0 c =
    omega (
      arith,
      c.requires.3.low,
      end_list _ _ _ _ _ c.requires.3 _ c.u32_at-subkeys.ensures c.if-subkeys-ne0.false _ c.u32_at-values.ensures c.if-values-ne0.true _
          c.u32_at-then-values-ne0.ensures _ c.list_size.ensures,
    )

pub returns-then-values-ne0 : goal.returns-then-values-ne0
returns-then-values-ne0 c =
    λ x vs b k. end_list _ _ _ _ _ k _ c.u32_at-subkeys.ensures c.if-subkeys-ne0.false _ c.u32_at-values.ensures c.if-values-ne0.true _
    c.u32_at-then-values-ne0.ensures _ c.list_size.ensures

pub overflow_add-result-else-values-ne0 : goal.overflow_add-result-else-values-ne0
overflow_add-result-else-values-ne0 c =
    omega (
      arith,
      c.requires.3.low,
      end-alone _ _ _ _ _ c.requires.3 _ c.u32_at-subkeys.ensures c.if-subkeys-ne0.false _ c.u32_at-values.ensures c.if-values-ne0.false _
          (c.from.ensures ∙ c.u16_at.ensures) _ c.cell_size.ensures,
    )

pub returns-else-values-ne0 : goal.returns-else-values-ne0
returns-else-values-ne0 c =
    λ x vs b k. end-alone _ _ _ _ _ k _ c.u32_at-subkeys.ensures c.if-subkeys-ne0.false _ c.u32_at-values.ensures c.if-values-ne0.false _
    (c.from.ensures ∙ c.u16_at.ensures) _ c.cell_size.ensures
