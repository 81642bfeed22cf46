use mathlib.Core.Path.{sym, ap, ◌∙◌}
use native.Mathlib.Omega.{arith}
use Rattle.std.specs.Prelude.{Ok}
use Rattle.export.proofs.Ways.{due-lies}
use Rattle.export.proofs.take_turn.Goals as goal

pub put_frame-requires-clause-what_lies : goal.put_frame-requires-clause-what_lies
put_frame-requires-clause-what_lies c =
    (due-lies _ _ _ _ (sym c.due_frame.ensures ∙ c.in_ok-f.was ∙ ap Ok c.in-Some.is)).lies

pub put_frame-requires-clause-what_in_bounds : goal.put_frame-requires-clause-what_in_bounds
put_frame-requires-clause-what_in_bounds c =
    let l = (due-lies _ _ _ _ (sym c.due_frame.ensures ∙ c.in_ok-f.was ∙ ap Ok c.in-Some.is)).len in
    omega arith

pub move_on-next-requires : goal.move_on-next-requires
move_on-next-requires c =
    (due-lies _ _ _ _ (sym c.due_frame.ensures ∙ c.in_ok-f.was ∙ ap Ok c.in-Some.is)).goes
