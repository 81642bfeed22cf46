use Rattle.walk.specs.Events.{keeps_count}
use Rattle.walk.proofs.Depths.{begin-keeps}
use mathlib.Core.Path.{ap, ◌∙◌}
use Rattle.hive_c.proofs.hive_walk_begin.Goals as goal
use Rattle.fields.specs.declared.Refusal.{Refusal}
use Rattle.std.specs.Prelude.{Option, Result}
use Rattle.walk.specs.declared.Walked.{Walked}

pub walked-requires : goal.walked-requires
walked-requires c = ap (λ (x : Result (Option Walked) Refusal). keeps_count x 0) c.begin.ensures.value ∙ begin-keeps _ _
