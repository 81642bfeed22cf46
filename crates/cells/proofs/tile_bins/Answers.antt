use Rattle.std.proofs.lemmas.Result.{err_from_is_err_and}
use Rattle.cells.proofs.Turns.{done, fault, fits, walked, refused}
use Rattle.cells.specs.Map.{marks_all}
use Rattle.cells.specs.Tiling.{survey_of}
use mathlib.Core.Path.{refl, sym, ◌∙◌}
use native.Mathlib.Omega.{arith}
use Rattle.cells.proofs.tile_bins.Goals as goal

pub loop-at-init : goal.loop-at-init
loop-at-init c = record { before-end = omega arith; pages = omega arith; few = omega arith; small = omega arith; kept = refl; counts = refl; bits = refl }

pub shape_of-map-then-n-eq0 : goal.shape_of-map-then-n-eq0
shape_of-map-then-n-eq0 c =
    c.loop-at.invariant.kept

pub returns-then-n-eq0 : goal.returns-then-n-eq0
unfolding survey_of marks_all
returns-then-n-eq0 c =
    let l = c.loop-at in
    let e =
    fault c.args.bins.now l.at c.loop-at-test.true
    (sym c.bin_size-n.ensures ∙ c.if-n-eq0.true) in
    record { value = sym (l.invariant.counts ∙ rw e); map_after = sym (l.invariant.bits ∙ rw e) }

pub overflow_add-next : goal.overflow_add-next
overflow_add-next c = let g = fits c.loop-at.invariant c.loop-at-test.true c.bin_size-n.ensures in omega arith

pub tile-requires : goal.tile-requires
tile-requires c = let l = c.loop-at.invariant in
    let g = fits l c.loop-at-test.true c.bin_size-n.ensures in
    record { order = omega arith; eights = omega arith; ends = omega arith; inside = omega arith; small = omega arith }

pub shape_of-map : goal.shape_of-map
shape_of-map c =
    c.loop-at.invariant.kept

pub returns : goal.returns
unfolding survey_of marks_all
returns c = let l = c.loop-at in
    let e = done c.args.bins.now l.at c.loop-at-test.false in
    record { value = sym (l.invariant.counts ∙ rw e); map_after = sym (l.invariant.bits ∙ rw e) }

pub returns-in_err-u : goal.returns-in_err-u
returns-in_err-u c =
    let p = err_from_is_err_and c.from_residual.result c.from_residual.ensures.1 in
    let r = refused c.loop-at.invariant c.loop-at-test.true c.bin_size-n.ensures c.if-n-eq0.false (sym c.tile.ensures.value ∙ c.in_err-u.was) in
    record { value = rw (p.1, p.2) (sym r.0); map_after = c.tile.ensures.map_after ∙ sym r.1 }

pub overflow_add-used : goal.overflow_add-used
overflow_add-used c =
    let w = walked c.loop-at.invariant c.loop-at-test.true c.bin_size-n.ensures c.if-n-eq0.false (sym c.tile.ensures.value ∙ c.in_ok-u.was) in
    omega arith

pub overflow_add-free : goal.overflow_add-free
overflow_add-free c =
    let w = walked c.loop-at.invariant c.loop-at-test.true c.bin_size-n.ensures c.if-n-eq0.false (sym c.tile.ensures.value ∙ c.in_ok-u.was) in
    omega arith

pub loop-at-preserved : goal.loop-at-preserved
loop-at-preserved c =
    rw c.tile.ensures.map_after
    (walked c.loop-at.invariant c.loop-at-test.true c.bin_size-n.ensures c.if-n-eq0.false (sym c.tile.ensures.value ∙ c.in_ok-u.was))
