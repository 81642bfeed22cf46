use Rattle.cells.proofs.Steps.{good, done, fault, walked-used, walked-free}
use Rattle.cells.specs.Map.{marks}
use Rattle.cells.specs.Tiling.{good_size, row_of}
use mathlib.Core.Bool.{true}
use mathlib.Core.Path.{◌≡◌, refl, sym, ◌∙◌}
use Prim.Native.Nat.{◌-◌}
use native.Mathlib.Omega.{arith}
use Rattle.cells.proofs.tile.Goals.{Else-not-good_size}
use Rattle.cells.proofs.tile.Goals as goal

-- in a turn whose size is good
is-good : (c : Else-not-good_size) →
    good_size c.size_at-c.result.bytes
    (c.args.end - c.loop-at.at)
    ≡ true
is-good c = sym c.good_size.ensures ∙ c.if-not-good_size.false

pub loop-at-init : goal.loop-at-init
loop-at-init c = record { before-end = omega arith; eights = omega arith; small = omega arith; kept = refl; counts = refl; bits = refl }

pub shape_of-map-then-not-good_size : goal.shape_of-map-then-not-good_size
shape_of-map-then-not-good_size c =
    c.loop-at.invariant.kept

pub returns-then-not-good_size : goal.returns-then-not-good_size
unfolding row_of marks
returns-then-not-good_size c = let l = c.loop-at in
    let no = sym c.good_size.ensures ∙ c.if-not-good_size.true in
    let e = fault _ l.at _ c.loop-at-test.true (rw c.size_at-c.ensures at no) in
    record { value = sym (l.invariant.counts ∙ rw e); map_after = sym (l.invariant.bits ∙ rw e) }

pub overflow_add-next : goal.overflow_add-next
overflow_add-next c = let g = good _ _ (is-good (goal.at.overflow_add-next c).Else-not-good_size) in omega arith

pub overflow_add-used : goal.overflow_add-used
overflow_add-used c = let g = good _ _ (is-good (goal.at.overflow_add-used c).Else-not-good_size) in omega arith

pub overflow_add-free : goal.overflow_add-free
overflow_add-free c = let g = good _ _ (is-good (goal.at.overflow_add-free c).Else-not-good_size) in omega arith

pub loop-at-smaller-then-c : goal.loop-at-smaller-then-c
loop-at-smaller-then-c c = let g = good _ _ (is-good (goal.at.loop-at-smaller-then-c c).Else-not-good_size) in omega arith

pub loop-at-preserved-then-c : goal.loop-at-preserved-then-c
loop-at-preserved-then-c c = let e = (goal.at.loop-at-preserved-then-c c).Else-not-good_size in
    let l = e.loop-at in
    rw c.mark.ensures
    (walked-used l.invariant e.loop-at-test.true e.size_at-c.ensures (is-good e)
    c.if-c.true)

pub loop-at-smaller : goal.loop-at-smaller
loop-at-smaller c = let g = good _ _ (is-good (goal.at.loop-at-smaller c).Else-not-good_size) in omega arith

pub loop-at-preserved : goal.loop-at-preserved
loop-at-preserved c = let e = (goal.at.loop-at-preserved c).Else-not-good_size in
    let l = e.loop-at in
    walked-free l.invariant e.loop-at-test.true e.size_at-c.ensures (is-good e) c.if-c.false

pub shape_of-map : goal.shape_of-map
shape_of-map c =
    c.loop-at.invariant.kept

pub returns : goal.returns
unfolding row_of marks
returns c = let l = c.loop-at in
    let e = done c.args.bins.now l.at _ c.loop-at-test.false in
    record { value = sym (l.invariant.counts ∙ rw e); map_after = sym (l.invariant.bits ∙ rw e) }
