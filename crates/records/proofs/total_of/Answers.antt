use native.Mathlib.Omega.{arith}
use mathlib.Core.Path.{sym, ◌∙◌}
use Rattle.records.proofs.Totals.{total-ready}
use Rattle.records.proofs.total_of.Goals as goal

pub total_over-requires : goal.total_over-requires
total_over-requires c = total-ready _ _ _ c.args.k c.if-k-eq0.false _ (sym c.head_at.ensures ∙ c.in_ok-ls.was) (λ i. omega (arith, c.type_inv.bins i))
