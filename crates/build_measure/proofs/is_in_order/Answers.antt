use mathlib.Core.Path.{sym, ◌∙◌}
use Rattle.build_measure.proofs.Faulty.{first_key, later-key}
use Rattle.build_measure.proofs.is_in_order.Goals as goal

pub returns-then-h-eq0 : goal.returns-then-h-eq0
returns-then-h-eq0 c = λ ys e. rw c.if-h-eq0.true (sym (first_key _ _ _ ys e c.if-h-eq0.true))

pub returns-else-h-eq0 : goal.returns-else-h-eq0
returns-else-h-eq0 c = λ ys e. c.is_above.ensures ∙ sym (later-key _ _ _ ys e c.if-h-eq0.false)
