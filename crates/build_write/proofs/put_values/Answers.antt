use mathlib.Core.Path.{refl, sym, ◌∙◌}
use native.Mathlib.Omega.{arith}
use Rattle.build_write.proofs.Values.{room_in, starts-going, going-laid, next_fits, goes_on, all-written}
use Rattle.layout.proofs.Bounds.{value-least}
use Rattle.build_write.proofs.put_values.Goals as goal

pub loop-out-init : goal.loop-out-init
loop-out-init c = (c.requires.2.starts, omega arith, refl, starts-going _ _ _ _ _ refl refl refl refl refl)

pub is_value-requires : goal.is_value-requires
is_value-requires c = going-laid _ _ _ _ _ _ c.loop-out.invariant.3 _ _ c.requires.2

pub put_next-w-requires : goal.put_next-w-requires
put_next-w-requires c =
    next_fits _ _ _ _ _ _ c.loop-out.invariant.3 (sym c.is_value.ensures ∙ c.loop-out-test.true) _ c.loop-out.invariant.1
    c.requires.0 c.requires.1 c.requires.2 (room_in c.loop-out.invariant.2 c.requires.3)

pub loop-out-smaller : goal.loop-out-smaller
loop-out-smaller c =
    let x =
    next_fits _ _ _ _ _ _ c.loop-out.invariant.3
    (sym c.is_value.ensures ∙ c.loop-out-test.true) _
    c.loop-out.invariant.1
    c.requires.0
    c.requires.1
    c.requires.2
    (room_in c.loop-out.invariant.2
    c.requires.3) in
    let m = c.put_next-w.ensures x.0 x.1.is in omega (arith, m.further, m.inside)

pub loop-out-preserved : goal.loop-out-preserved
loop-out-preserved c =
    let x =
    next_fits _ _ _ _ _ _ c.loop-out.invariant.3
    (sym c.is_value.ensures ∙ c.loop-out-test.true) _
    c.loop-out.invariant.1
    c.requires.0
    c.requires.1
    c.requires.2
    (room_in c.loop-out.invariant.2
    c.requires.3) in
    let m = c.put_next-w.ensures x.0 x.1.is in (
      m.inside,
      omega (arith, m.counted, m.behind, value-least x.0, c.loop-out.invariant.1),
      omega (arith, c.loop-out.invariant.2),
      goes_on _ _ _ _ _ _ c.loop-out.invariant.3
          (sym c.is_value.ensures ∙ c.loop-out-test.true) _ _
          c.put_next-w.ensures,
    )

pub returns : goal.returns
returns c = all-written _ _ _ _ _ _ c.loop-out.invariant.3 (sym c.is_value.ensures ∙ c.loop-out-test.false)
