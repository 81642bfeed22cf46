use Rattle.walk.proofs.Ways.{leaf-ready}
use mathlib.Core.Path.{sym, ◌∙◌}
use native.Mathlib.Omega.{arith}
use Rattle.walk.proofs.next_in.Goals as goal

pub next_of-requires : goal.next_of-requires
next_of-requires c =
    let r =
    leaf-ready _ c.leaf_offset-o.result
    (sym c.leaf_at.ensures ∙ c.in_ok-leaf.was)
    (λ i. omega (arith, c.type_inv.bins i)) in
    (omega (arith, c.requires.0), r.0, r.1)
