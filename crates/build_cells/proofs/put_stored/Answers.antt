use Rattle.build_cells.proofs.Laws.{told-narrow, stored_low, stored_same, whole_length}
use lib.Seq.{sets}
use lib.ListN.{length}
use mathlib.Core.Path.{sym, ap, ◌∙◌}
use native.Mathlib.Omega.{arith}
use Rattle.build_cells.proofs.put_stored.Goals as goal

pub put_low-requires : goal.put_low-requires
put_low-requires c =
    let e = ap length (stored_low _ _ c.requires.name c.if-narrow.true) in
    record { name_value = told-narrow _ _ c.requires.name c.if-narrow.true; name_in_bounds = omega (arith, c.requires.name_in_bounds) }

pub put_copy-requires : goal.put_copy-requires
put_copy-requires c =
    omega (arith, whole_length _ _ c.requires.name c.if-narrow.false, c.requires.name_in_bounds)

pub returns-then-narrow : goal.returns-then-narrow
returns-then-narrow c =
    c.put_low.ensures
    ∙ ap (sets c.args.out.now c.args.at) (sym (stored_low _ _ c.requires.name c.if-narrow.true))

pub returns-else-narrow : goal.returns-else-narrow
returns-else-narrow c =
    c.put_copy.ensures
    ∙ ap
    (sets c.args.out.now c.args.at)
    (sym
    (stored_same _ _ c.requires.name c.if-narrow.false
    (λ i. omega (arith, c.type_inv.name i))))
