use Rattle.std.proofs.Common.{List, ℕ, sym, ap, ◌∙◌}
use Rattle.std.proofs.lemmas.Result.{err_from_is_err_and}
use Rattle.tree.specs.Tree.{ring_charge, answer}
use Rattle.tree.specs.Terms.{keys_answer}
use Rattle.tree.proofs.Roots.{check-refused, check-ready, check-stops, check-on, check-walked}
use Rattle.tree.proofs.check.Goals as goal

pub check_tree-requires : goal.check_tree-requires
check_tree-requires c =
    let s = c.survey.ensures in
    rw s.map_after (check-ready _ _ (sym s.value ∙ c.in_ok-t.was))

pub check_items-requires : goal.check_items-requires
check_items-requires c =
    let s = c.survey.ensures in
    let walk = ap (λ (x : List ℕ). keys_answer c.args.hive.now x c.in_ok-t.t) (sym s.map_after) ∙ sym c.check_tree.ensures ∙ c.in_ok-report.was in
    rw s.map_after (check-walked _ _ (sym s.value ∙ c.in_ok-t.was) walk)

pub returns-in_err-t-clause-value : goal.returns-in_err-t-clause-value
returns-in_err-t-clause-value c =
    let p = err_from_is_err_and c.from_residual.result c.from_residual.ensures.1 in
    p.1 ∙ sym (check-refused _ _ (sym c.survey.ensures.value ∙ c.in_err-t.was) p.2)

pub returns-in_err-report-clause-value : goal.returns-in_err-report-clause-value
returns-in_err-report-clause-value c =
    let s = c.survey.ensures in
    let p = err_from_is_err_and c.from_residual-in_err-report.result c.from_residual-in_err-report.ensures.1 in
    let walk = ap (λ (x : List ℕ). keys_answer c.args.hive.now x c.in_ok-t.t) (sym s.map_after) ∙ sym c.check_tree.ensures ∙ c.in_err-report.was in
    rw (p.1, p.2) (sym (check-stops _ _ (sym s.value ∙ c.in_ok-t.was) walk))

pub returns-clause-value : goal.returns-clause-value
returns-clause-value c =
    let s = c.survey.ensures in
    let walk = ap (λ (x : List ℕ). keys_answer c.args.hive.now x c.in_ok-t.t) (sym s.map_after) ∙ sym c.check_tree.ensures ∙ c.in_ok-report.was in
    c.check_items.ensures.value ∙ ap (λ (x : List ℕ). answer (ring_charge c.args.hive.now x) c.in_ok-report.report) s.map_after
    ∙ sym (check-on _ _ (sym s.value ∙ c.in_ok-t.was) walk)
