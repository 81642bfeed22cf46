use Rattle.std.proofs.Common.{Ok, sym, ap, ◌∙◌, arith}
use Rattle.std.proofs.lemmas.Result.{err_from_is_err_and}
use Rattle.fields.specs.Faults.{nowhere}
use Rattle.records.proofs.LawsPlaces.{named-length, named-at}
use Rattle.search.proofs.Turns.{turn-found, turn-faulty, turn_on, turn_end}
use Rattle.search.proofs.search_leaves.Goals as goal

pub returns-in_err-o : goal.returns-in_err-o
returns-in_err-o c =
    let l = c.loop-j in
    let n = named-length c.args.bins.now c.args.ls c.requires in
    let p = err_from_is_err_and c.from_residual.result c.from_residual.ensures.1 in
    rw (p.1, p.2) (sym (turn-faulty _ _ l.j _ l.invariant _ (omega arith) (c.leaf_offset-l.ensures ∙ named-at _ _ c.requires _ (omega arith)) (sym c.search_leaf.ensures ∙ c.in_err-o.was)))

pub returns-in-Some : goal.returns-in-Some
returns-in-Some c =
    let l = c.loop-j in
    let n = named-length c.args.bins.now c.args.ls c.requires in
    sym (turn-found _ _ l.j _ l.invariant _ (omega arith) (c.leaf_offset-l.ensures ∙ named-at _ _ c.requires _ (omega arith)) (sym c.search_leaf.ensures ∙ c.in_ok-o.was ∙ ap Ok c.in-Some.is))

pub loop-j-preserved : goal.loop-j-preserved
loop-j-preserved c =
    let l = c.loop-j in
    let n = named-length c.args.bins.now c.args.ls c.requires in
    turn_on _ _ l.j _ l.invariant _ (omega arith) (c.leaf_offset-l.ensures ∙ named-at _ _ c.requires _ (omega arith)) (sym c.search_leaf.ensures ∙ c.in_ok-o.was ∙ ap Ok c.in_default.is)

pub returns : goal.returns
returns c =
    let n = named-length c.args.bins.now c.args.ls c.requires in
    sym (turn_end _ _ c.loop-j.j nowhere c.loop-j.invariant (omega arith))
