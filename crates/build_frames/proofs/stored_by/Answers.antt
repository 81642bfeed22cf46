use native.Mathlib.Omega.{arith}
use mathlib.Core.Path.{sym, ◌∙◌}
use Rattle.build_frames.proofs.Names.{stored-narrow, stored-wide}
use Rattle.build_frames.proofs.stored_by.Goals as goal

pub returns-then-narrow : goal.returns-then-narrow
returns-then-narrow c = record {
  upper_bound = omega arith;
  stored_by = λ s l e. record { is = sym (stored-narrow s _ l (sym e ∙ c.if-narrow.true)); few = omega arith };
}

pub returns-else-narrow : goal.returns-else-narrow
returns-else-narrow c = record {
  upper_bound = omega arith;
  stored_by = λ s l e. record { is = sym (stored-wide s _ l (sym e ∙ c.if-narrow.false)); few = omega arith };
}
