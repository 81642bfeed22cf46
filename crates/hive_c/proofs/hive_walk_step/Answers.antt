use Rattle.walk.specs.Events.{keeps_count}
use Rattle.walk.proofs.Depths.{step_keeps}
use mathlib.Core.Path.{ap, ◌∙◌}
use Rattle.hive_c.proofs.hive_walk_step.Goals as goal
use Rattle.fields.specs.declared.Refusal.{Refusal}
use Rattle.std.specs.Prelude.{Option, Result}
use Rattle.walk.specs.declared.Walked.{Walked}

pub walked-requires : goal.walked-requires
walked-requires c =
    let at-step = c in
    ap (λ (x : Result (Option Walked) Refusal). keeps_count x at-step.args.depth) at-step.step.ensures.value ∙ step_keeps _ _ _
