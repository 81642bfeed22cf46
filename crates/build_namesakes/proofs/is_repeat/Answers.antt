use mathlib.Core.Path.{refl, sym, ◌∙◌}
use Rattle.namesake_laws.proofs.Searches.{none-met, met-on, met-here}
use Rattle.build_frames.specs.Terms.{name_in}
use Rattle.build_namesakes.specs.Rows.{start_of, called}
use Rattle.build_namesakes.proofs.Rows.{start-here, start-on, row-held, held-laid, read-compared}
use Rattle.build_namesakes.proofs.is_repeat.Goals as goal

pub loop-i-init : goal.loop-i-init
loop-i-init c = let a = c.args in (start-here _ _ refl, none-met (called a.s.now a.at) _ refl)

pub name_at-requires : goal.name_at-requires
name_at-requires c =
    let a = c.args in
    row-held a.s.now a.at c.requires.0 c.loop-i-test.true c.loop-i.invariant.0

pub returns-then-is_namesake : goal.returns-then-is_namesake
returns-then-is_namesake c =
    let a = c.args in
    let l = c.loop-i in
    sym (met-here (called a.s.now a.at) _ a.j l._i c.loop-i-test.true
    (read-compared a.s.now l.p (start_of a.s.now a.at l._i) (name_in a.s.now a.x) c.name_at.ensures.0 l.invariant.0
    c.is_namesake.ensures
    ∙ c.if-is_namesake.true))

pub frame_end-p-requires : goal.frame_end-p-requires
frame_end-p-requires c =
    let a = c.args in
    let l = c.loop-i in
    held-laid a.s.now l.p (row-held a.s.now a.at c.requires.0 c.loop-i-test.true l.invariant.0)

pub loop-i-preserved : goal.loop-i-preserved
loop-i-preserved c =
    let a = c.args in
    let l = c.loop-i in (
      start-on a.s.now a.at l._i l.invariant.0 c.frame_end-p.ensures.is,
      met-on (called a.s.now a.at) _ l._i l.invariant.1
          (read-compared a.s.now l.p (start_of a.s.now a.at l._i) (name_in a.s.now a.x) c.name_at.ensures.0 l.invariant.0 c.is_namesake.ensures
          ∙ c.if-is_namesake.false),
    )
