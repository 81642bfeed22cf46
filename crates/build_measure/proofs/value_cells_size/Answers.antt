use native.Mathlib.Omega.{arith}
use Prim.Native.Nat.{ℕ, ◌≤◌}
use mathlib.Core.Path.{sym, subst, ◌∙◌}
use Rattle.build_frames.proofs.Arms.{said-holds, holds-lies}
use Rattle.build_frames.proofs.Names.{held_fits}
use Rattle.layout.proofs.Bounds.{value-least}
use Rattle.build_frames.specs.Terms.{item_in}
use Rattle.build_measure.proofs.Rows.{value-few, sized-good, sized-by}
use Rattle.build_measure.proofs.value_cells_size.Goals as goal

pub value_size-requires : goal.value_size-requires
value_size-requires c =
    let l = holds-lies c.shape_at.ensures c.in-Holds.is in
    held_fits _ _ l (sym (c.is_value_name.ensures _ l) ∙ c.if-is_value_name.true) (sym (c.is_small.ensures _ l) ∙ c.if-is_small.true)

pub returns-then-is_small : goal.returns-then-is_small
returns-then-is_small c =
    let l = holds-lies c.shape_at.ensures c.in-Holds.is in
    let n = sym (c.is_value_name.ensures _ l) ∙ c.if-is_value_name.true in
    let m = sym (c.is_small.ensures _ l) ∙ c.if-is_small.true in
    let e = c.value_size.ensures in
    let p = value-least (item_in c.args.s.now c.in-Holds.v) in
    let f = subst (λ (q : ℕ). q ≤ 2000000) (sym e) (value-few _ _ (held_fits _ _ l n m)) in
    (omega arith, sized-by (said-holds c.shape_at.ensures c.in-Holds.is) (sized-good _ n m e f))
