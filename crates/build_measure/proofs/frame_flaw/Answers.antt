use mathlib.Core.Path.{sym, ◌∙◌}
use Rattle.forest.proofs.Tests.{close-sound}
use Rattle.build_measure.proofs.Faulty.{unlaid-here}
use Rattle.build_measure.proofs.frame_flaw.Goals as goal

pub returns-in-Closes : goal.returns-in-Closes
returns-in-Closes c =
    rw c.in-Closes.is (λ k ks x. sym (close-sound k ks))

pub returns-in-Unlaid : goal.returns-in-Unlaid
returns-in-Unlaid c = rw c.in-Unlaid.is (λ k ks x. c.flawed.ensures ∙ sym (unlaid-here _))
