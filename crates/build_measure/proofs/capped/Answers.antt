use mathlib.Core.Path.{◌∙◌}
use Rattle.build_measure.proofs.Sizes.{cap-min}
use Rattle.build_measure.proofs.capped.Goals as goal

pub returns : goal.returns
returns c = c.min.ensures ∙ cap-min _
