use Rattle.std.proofs.Common.{Ok, Err, sym, ap, ◌∙◌}
use Rattle.paths.proofs.Descents.{descended-start, descended-faulty, descended-cut, descended-last}
use Rattle.paths.proofs.Parts.{end-within}
use Rattle.paths.proofs.descend.Goals as goal

pub loop-start-init : goal.loop-start-init
loop-start-init c = descended-start _ _ _ _ c.requires.path_value c.requires.from_value

pub slice_bounds-below-end : goal.slice_bounds-below-end
slice_bounds-below-end c = end-within _ _ _ c.loop-start-test.true c.part_end-end.ensures c.loop-start.invariant.good

pub loop-start-preserved-then-start-path : goal.loop-start-preserved-then-start-path
loop-start-preserved-then-start-path c =
    let l = c.loop-start in
    descended-cut _ _ _ _ _ _ l.invariant _ c.loop-start-test.true c.part_end-end.ensures _
    c.key_fields-k.ensures _ c.below.ensures (c.in-Ok-Some.is ∙ ap Ok c.in-Ok-Some.field-0-is) c.if-start-path.true

pub loop-start-preserved : goal.loop-start-preserved
loop-start-preserved c =
    let l = c.loop-start in
    descended-last _ _ _ _ _ _ l.invariant _ c.loop-start-test.true c.part_end-end.ensures _
    c.key_fields-k.ensures _ c.below.ensures (c.in-Ok-Some.is ∙ ap Ok c.in-Ok-Some.field-0-is) c.if-start-path.false

pub returns-in-Err : goal.returns-in-Err
returns-in-Err c =
    let l = c.loop-start in
    ap Err c.refused.ensures
    ∙ sym
    (descended-faulty _ _ _ _ _ _ l.invariant _ c.loop-start-test.true
    c.part_end-end.ensures _ c.key_fields-k.ensures _ c.below.ensures
    c.in-Err.is)
