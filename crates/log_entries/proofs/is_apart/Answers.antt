use Rattle.std.proofs.Common.{sym, ◌∙◌, arith}
use Rattle.std.proofs.lemmas.Bool.Decides.{nat_tests}
use Rattle.log_entries.proofs.Tests.{empty-all, past_all}
use Rattle.log_entries.proofs.is_apart.Goals.{then-wide_at-eq0, else-wide_at-eq0}
use Rattle.log_entries.proofs.is_apart.Goals as goal

pub returns-then-end-wide_at : goal.returns-then-end-wide_at
returns-then-end-wide_at c =
    elim c.if-wide_at-eq0.branch [
      | then-wide_at-eq0 w ↦ c.if-end-wide_at.true ∙ sym (empty-all _ _ _ _ (omega arith))
      | else-wide_at-eq0 w ↦ c.if-end-wide_at.true ∙ sym (past_all _ _ _ _ (λ j p. grind (arith, nat_tests, c.requires.end_by j p)))
    ]
