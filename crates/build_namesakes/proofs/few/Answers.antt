use mathlib.Core.Path.{refl, sym, ap, ◌∙◌}
use Rattle.namesake_laws.specs.Repeats.{met_in}
use Rattle.namesake_laws.proofs.Blocks.{pass-start, pass_on, pass-found}
use Rattle.build_namesakes.specs.Rows.{called}
use Rattle.build_namesakes.proofs.Rows.{start-here, start-on, row-held, held-laid, read_name}
use Rattle.build_namesakes.proofs.few.Goals as goal

pub loop-j-init : goal.loop-j-init
loop-j-init c =
    (start-here _ _ refl, pass-start _)

pub name_at-requires : goal.name_at-requires
name_at-requires c =
    let a = c.args in
    row-held a.s.now a.at c.requires c.loop-j-test.true c.loop-j.invariant.0

pub returns-then-is_repeat : goal.returns-then-is_repeat
returns-then-is_repeat c =
    let a = c.args in
    let l = c.loop-j in
    let e = read_name a.s.now l.p c.name_at.ensures.0 l.invariant.0 in
    pass-found (called a.s.now a.at) _ l.invariant.1 _ c.loop-j-test.true
    (ap (met_in (called a.s.now a.at) l.j) (sym e) ∙ sym c.is_repeat.ensures ∙ c.if-is_repeat.true)

pub frame_end-p-requires : goal.frame_end-p-requires
frame_end-p-requires c =
    let a = c.args in
    let l = c.loop-j in
    held-laid a.s.now l.p (row-held a.s.now a.at c.requires c.loop-j-test.true l.invariant.0)

pub loop-j-preserved : goal.loop-j-preserved
loop-j-preserved c =
    let a = c.args in
    let l = c.loop-j in
    let e = read_name a.s.now l.p c.name_at.ensures.0 l.invariant.0 in (
      start-on a.s.now a.at l.j l.invariant.0 c.frame_end-p.ensures.is,
      pass_on (called a.s.now a.at) _ l.invariant.1
          (ap (met_in (called a.s.now a.at) l.j) (sym e) ∙ sym c.is_repeat.ensures ∙ c.if-is_repeat.false),
    )
