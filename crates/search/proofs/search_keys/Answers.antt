use Rattle.std.proofs.Common.{Ok, refl, sym, ap, ◌∙◌, arith}
use Rattle.std.proofs.lemmas.Result.{err_from_is_err_and}
use Rattle.records.specs.Terms.{no_child}
use Rattle.records.proofs.LawsElements.{elements-length, element-at}
use Rattle.search.proofs.Turns.{turn-found, turn-faulty, turn_on, turn_end}
use Rattle.search.proofs.Ways.{key-by}
use Rattle.search.proofs.search_keys.Goals as goal

pub returns-in_err-o : goal.returns-in_err-o
returns-in_err-o c =
    let l = c.loop-i in
    let n = elements-length c.args.bins.now c.args.leaf in
    let p = err_from_is_err_and c.from_residual.result c.from_residual.ensures.1 in
    rw (p.1, p.2) (sym (turn-faulty _ _ l.i _ l.invariant _ (omega arith) (element-at _ _ _ (omega arith) refl) (sym (key-by _ _ _ _ c.child_offset-at.ensures) ∙ sym c.key_named.ensures ∙ c.in_err-o.was)))

pub returns-in-Some : goal.returns-in-Some
returns-in-Some c =
    let l = c.loop-i in
    let n = elements-length c.args.bins.now c.args.leaf in
    sym (turn-found _ _ l.i _ l.invariant _ (omega arith) (element-at _ _ _ (omega arith) refl) (sym (key-by _ _ _ _ c.child_offset-at.ensures) ∙ sym c.key_named.ensures ∙ c.in_ok-o.was ∙ ap Ok c.in-Some.is))

pub loop-i-preserved : goal.loop-i-preserved
loop-i-preserved c =
    let l = c.loop-i in
    let n = elements-length c.args.bins.now c.args.leaf in
    turn_on _ _ l.i _ l.invariant _ (omega arith) (element-at _ _ _ (omega arith) refl) (sym (key-by _ _ _ _ c.child_offset-at.ensures) ∙ sym c.key_named.ensures ∙ c.in_ok-o.was ∙ ap Ok c.in_default.is)

pub returns : goal.returns
returns c =
    let n = elements-length c.args.bins.now c.args.leaf in
    sym (turn_end _ _ c.loop-i.i no_child c.loop-i.invariant (omega arith))
