use mathlib.Core.Path.{sym, ◌∙◌}
use native.Mathlib.Omega.{arith}
use Rattle.build_write.proofs.Lists.{more_room, listed-laid, list-fits, lists-on, all_listed}
use Rattle.build_write.proofs.put_offsets.Goals as goal

pub is_value-requires : goal.is_value-requires
is_value-requires c = listed-laid _ _ _ _ _ _ _ c.loop-p.invariant.2 _ _ c.requires.2

pub list_next-p-requires : goal.list_next-p-requires
list_next-p-requires c =
    list-fits _ _ _ _ _ _ _ c.loop-p.invariant.2 (sym c.is_value.ensures ∙ c.loop-p-test.true) _ c.requires.0 c.requires.1
    c.requires.2 c.requires.3 (more_room c.loop-p.invariant.1 c.requires.4)

pub loop-p-smaller : goal.loop-p-smaller
loop-p-smaller c =
    let x =
    list-fits _ _ _ _ _ _ _ c.loop-p.invariant.2
    (sym c.is_value.ensures ∙ c.loop-p-test.true) _
    c.requires.0
    c.requires.1
    c.requires.2
    c.requires.3
    (more_room c.loop-p.invariant.1
    c.requires.4) in
    let m = c.list_next-p.ensures x.0 x.1.is in omega (arith, m.further, m.inside)

pub loop-p-preserved : goal.loop-p-preserved
loop-p-preserved c =
    let x =
    list-fits _ _ _ _ _ _ _ c.loop-p.invariant.2
    (sym c.is_value.ensures ∙ c.loop-p-test.true) _
    c.requires.0
    c.requires.1
    c.requires.2
    c.requires.3
    (more_room c.loop-p.invariant.1
    c.requires.4) in
    let m = c.list_next-p.ensures x.0 x.1.is in (
      m.inside,
      omega (arith, c.loop-p.invariant.1),
      lists-on _ _ _ _ _ _ _ c.loop-p.invariant.2
          (sym c.is_value.ensures ∙ c.loop-p-test.true) _ _
          c.list_next-p.ensures,
    )

pub returns : goal.returns
returns c = all_listed _ _ _ _ _ _ _ c.loop-p.invariant.2 (sym c.is_value.ensures ∙ c.loop-p-test.false)
