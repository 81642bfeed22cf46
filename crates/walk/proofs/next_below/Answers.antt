use Rattle.records.proofs.Totals.{total-ready}
use mathlib.Core.Path.{sym, ◌∙◌}
use native.Mathlib.Omega.{arith}
use Rattle.walk.proofs.next_below.Goals as goal

pub next_in-requires : goal.next_in-requires
next_in-requires c =
    total-ready _ _ _ c.args.k
    c.if-k-eq0.false _ (sym c.head_at.ensures ∙ c.in_ok-ls.was)
    (λ i. omega (arith, c.type_inv.bins i))
