use Rattle.std.proofs.Common.{arith, inl, inr, sym, ◌∙◌}
use Rattle.std.proofs.lemmas.Grind.{common_steps}
use Rattle.build_frames.proofs.Arms.{said-nothing, said-opens, opens-lies, said-holds, said-closes}
use Rattle.build_measure.proofs.Entire.{no_frames, first-unlaid, first-value, first-closes, first-misnamed}
use Rattle.build_measure.proofs.first_frame.Goals as goal

pub returns-then-is_empty : goal.returns-then-is_empty
returns-then-is_empty c = no_frames _ (grind (arith, common_steps))

pub returns-in-Opens-2 : goal.returns-in-Opens-2
returns-in-Opens-2 c =
    first-misnamed _
    (record { says = said-opens c.shape_at.ensures c.in-Opens.is; lies = opens-lies c.shape_at.ensures c.in-Opens.is })
    (sym (c.is_key_name.ensures _) ∙ c.if-is_key_name.false)

pub returns-in-Holds : goal.returns-in-Holds
returns-in-Holds c = elim c.in-Holds.is [
  | inl h ↦ first-value _ (grind (arith, common_steps)) (said-holds c.shape_at.ensures h.1)
  | inr h ↦ first-closes _ (grind (arith, common_steps)) (said-closes c.shape_at.ensures h)
]

pub returns-in-Unlaid : goal.returns-in-Unlaid
returns-in-Unlaid c = first-unlaid _ (grind (arith, common_steps)) (said-nothing c.shape_at.ensures c.in-Unlaid.is)
