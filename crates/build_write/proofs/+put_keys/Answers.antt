-- The proof of the cycle of calls {put_keys}. Assumes nothing.
use Rattle.std.proofs.Common.{◌-◌, refl, sym, ◌∙◌, arith}
use Rattle.build_write.proofs.Forests.{starts-going, going-laid, all-written}
use Rattle.build_write.proofs.Turns.{BelowAs, none_below, below-is, a-level, key-starts, behind-values, keys_below, key-finishes, onward, rest_goes}
use Rattle.build_write.proofs.+put_keys.Goals.{then-is_opening, else-is_opening}
use Rattle.build_write.proofs.+put_keys.Goals as goal

pub loop-out-init : goal.loop-out-init
loop-out-init t c = (c.requires.2.starts, omega arith, refl, starts-going _ _ _ _ _ _ _)

pub is_opening-requires : goal.is_opening-requires
is_opening-requires t c = let g = c.loop-out.invariant in (g.0, going-laid _ _ _ _ _ _ _ _ _ g.3 _ _ c.requires.2 c.requires.3)

pub start_key-w-requires : goal.start_key-w-requires
start_key-w-requires t c =
    let g = c.loop-out.invariant in
    let one = sym c.loop-out-test.ensures in
    let r = c.requires in
    key-starts _ _ _ _ _ _ _ _ _ g.3 one g.2 _ _ r.2 r.3

pub is_opening-requires-in-loop-out : goal.is_opening-requires-in-loop-out
is_opening-requires-in-loop-out t c =
    let g = c.loop-out.invariant in
    let one = sym c.loop-out-test.ensures in
    let r = c.requires in
    behind-values _ _ _ _ _ _ _ _ _ g.3 one g.2 _ _ r.2 r.3 _ _ c.start_key-w.ensures

pub overflow_sub-levels : goal.overflow_sub-levels
overflow_sub-levels t c =
    let g = c.loop-out.invariant in
    let one = sym c.loop-out-test.ensures in
    let r = c.requires in
    omega (arith, a-level _ _ _ _ _ _ _ _ _ g.3 one g.2 _ _ r.2 r.3)

pub put_keys-c-requires : goal.put_keys-c-requires
put_keys-c-requires t c =
    let g = c.loop-out.invariant in
    let one = sym c.loop-out-test.ensures in
    let r = c.requires in
    let l = a-level _ _ _ _ _ _ _ _ _ g.3 one g.2 _ _ r.2 r.3 in
    (omega (arith, c.decreases, l), keys_below _ _ _ _ _ _ _ _ _ g.3 one g.2 _ _ r.2 r.3 _ _ c.start_key-w.ensures r.5)

pub finish_key-p-requires : goal.finish_key-p-requires
finish_key-p-requires t c =
    let g = c.loop-out.invariant in
    let one = sym c.loop-out-test.ensures in
    let r = c.requires in
    let u : BelowAs c.args.s.now c.start_key-w.result.at c.start_key-w.result.offset c.loop-out.p.offset c.args.item (c.args.levels - 1) c.start_key-w.new.out c.if-is_opening.out c.if-is_opening.c =
    elim c.if-is_opening.branch [
      | then-is_opening w ↦ below-is _ _ _ _ _ _ _ w.out-is w.c-is w.put_keys-c.ensures
      | else-is_opening w ↦ below-is _ _ _ _ _ _ _ w.out-is w.c-is (none_below _ _ _ _ _ _ _ (sym c.is_opening-in-loop-out.ensures ∙ w.if-is_opening.false))
    ] in
    (key-finishes _ _ _ _ _ _ _ _ _ g.3 one g.2 _ _ r.2 r.3 _ _ c.start_key-w.ensures _ _ u g.1, r.4, r.5)

pub loop-out-smaller : goal.loop-out-smaller
loop-out-smaller t c =
    let g = c.loop-out.invariant in
    let one = sym c.loop-out-test.ensures in
    let r = c.requires in
    let u : BelowAs c.args.s.now c.start_key-w.result.at c.start_key-w.result.offset c.loop-out.p.offset c.args.item (c.args.levels - 1) c.start_key-w.new.out c.if-is_opening.out c.if-is_opening.c =
    elim c.if-is_opening.branch [
      | then-is_opening w ↦ below-is _ _ _ _ _ _ _ w.out-is w.c-is w.put_keys-c.ensures
      | else-is_opening w ↦ below-is _ _ _ _ _ _ _ w.out-is w.c-is (none_below _ _ _ _ _ _ _ (sym c.is_opening-in-loop-out.ensures ∙ w.if-is_opening.false))
    ] in
    let o = onward _ _ _ _ _ _ _ _ _ g.3 one g.2 _ _ r.2 r.3 _ _ c.start_key-w.ensures _ _ u g.1 _ _ c.finish_key-p.ensures in
    omega (arith, o.0, o.1)

pub loop-out-preserved : goal.loop-out-preserved
loop-out-preserved t c =
    let g = c.loop-out.invariant in
    let one = sym c.loop-out-test.ensures in
    let r = c.requires in
    let u : BelowAs c.args.s.now c.start_key-w.result.at c.start_key-w.result.offset c.loop-out.p.offset c.args.item (c.args.levels - 1) c.start_key-w.new.out c.if-is_opening.out c.if-is_opening.c =
    elim c.if-is_opening.branch [
      | then-is_opening w ↦ below-is _ _ _ _ _ _ _ w.out-is w.c-is w.put_keys-c.ensures
      | else-is_opening w ↦ below-is _ _ _ _ _ _ _ w.out-is w.c-is (none_below _ _ _ _ _ _ _ (sym c.is_opening-in-loop-out.ensures ∙ w.if-is_opening.false))
    ] in
    let o = onward _ _ _ _ _ _ _ _ _ g.3 one g.2 _ _ r.2 r.3 _ _ c.start_key-w.ensures _ _ u g.1 _ _ c.finish_key-p.ensures in (
      o.1,
      o.2,
      o.3,
      λ f t₁ h room. rest_goes _ _ _ _ _ _ _ _ _ g.3 one g.2 f t₁ h room _ _ c.start_key-w.ensures _ _ u g.1 _ _ c.finish_key-p.ensures,
    )

pub returns : goal.returns
returns t c = all-written _ _ _ _ _ _ _ _ _ c.loop-out.invariant.3 (sym c.loop-out-test.ensures)
