use Rattle.std.specs.Prelude.{Ok, Some}
use mathlib.Core.Path.{ap, ◌∙◌}
use native.Mathlib.Omega.{arith}
use Rattle.export.proofs.Ways.{step_so, child-few}
use Rattle.export.proofs.walk_due.Goals as goal

pub overflow_mul-len : goal.overflow_mul-len
overflow_mul-len c =
    let e = c.in_ok-ahead_of.was ∙ ap Ok (c.in-Some-Opens.is ∙ ap Some c.in-Some-Opens.field-0-is) in
    omega (arith, c.characters.ensures, child-few _ _ _ (step_so _ _ _ c.requires.depth_nonzero.0 c.requires.depth_nonzero.1 c.ahead_of.ensures e))

pub overflow_add-len : goal.overflow_add-len
overflow_add-len c =
    let e = c.in_ok-ahead_of.was ∙ ap Ok (c.in-Some-Opens.is ∙ ap Some c.in-Some-Opens.field-0-is) in
    omega (arith, c.characters.ensures, child-few _ _ _ (step_so _ _ _ c.requires.depth_nonzero.0 c.requires.depth_nonzero.1 c.ahead_of.ensures e))
