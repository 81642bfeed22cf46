use Rattle.std.proofs.Common.{sym, ◌∙◌}
use Rattle.std.proofs.lemmas.Result.{err_from_is_err_and}
use Rattle.tree.proofs.Roots.{root-row, walk_refused, walk-counted}
use Rattle.tree.proofs.check_tree.Goals as goal

pub returns-in_err-n : goal.returns-in_err-n
returns-in_err-n c =
    let a = c.args in
    let e = root-row a.hive.now a.map.now c.minor_of-minor.ensures c.root_of-root.ensures c.bins_of.ensures in
    let p = err_from_is_err_and c.from_residual.result c.from_residual.ensures.1 in
    rw (p.1, p.2) (sym (walk_refused _ _ c.requires _ (sym e ∙ sym c.check_siblings.ensures ∙ c.in_err-n.was)))

pub returns : goal.returns
returns c =
    let a = c.args in
    let e = root-row a.hive.now a.map.now c.minor_of-minor.ensures c.root_of-root.ensures c.bins_of.ensures in
    sym (walk-counted _ _ c.requires _ (sym e ∙ sym c.check_siblings.ensures ∙ c.in_ok-n.was))
