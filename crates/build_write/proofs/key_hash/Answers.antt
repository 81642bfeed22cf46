use native.Mathlib.Omega.{arith}
use mathlib.Core.Path.{◌∙◌}
use Rattle.build_write.proofs.Stands.{key-inside, len-here, hash-here}
use Rattle.build_write.proofs.key_hash.Goals as goal

pub u16_at-requires : goal.u16_at-requires
u16_at-requires c = omega (arith, key-inside _ _ _ _ _ c.requires.3)

pub u16_at-requires-2 : goal.u16_at-requires-2
u16_at-requires-2 c = omega (arith, key-inside _ _ _ _ _ c.requires.3)

pub slice_bounds-hash-end : goal.slice_bounds-hash-end
slice_bounds-hash-end c = omega (arith, key-inside _ _ _ _ _ c.requires.3, len-here _ _ _ _ _ c.requires.3, c.u16_at-2.ensures)

pub returns : goal.returns
returns c =
    λ x vs b k. c.hash.ensures
    ∙ hash-here _ _ _ _ _ k _ _ _ c.u16_at.ensures c.is_flagged-narrow.ensures (c.from.ensures ∙ c.u16_at-2.ensures)
