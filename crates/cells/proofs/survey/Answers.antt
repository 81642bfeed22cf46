use Rattle.std.proofs.Common.{sym, ◌∙◌}
use Rattle.std.proofs.lemmas.Result.{err_from_is_err_and}
use Rattle.cells.proofs.Fronts.{front-facts, front-data, survey-front, survey-on}
use Rattle.cells.proofs.survey.Goals as goal

pub bins_of-requires : goal.bins_of-requires
bins_of-requires c = (front-facts _ _ (sym c.front_flaw.ensures ∙ c.in_ok-front_flaw.was)).0

pub scan-requires : goal.scan-requires
scan-requires c = rw c.bins_of.ensures (front-data _ _ (sym c.front_flaw.ensures ∙ c.in_ok-front_flaw.was))

pub returns-in_err-front_flaw : goal.returns-in_err-front_flaw
returns-in_err-front_flaw c =
    let p = err_from_is_err_and c.from_residual.result c.from_residual.ensures.1 in
    let s = survey-front c.args.hive.now c.args.map.now (sym c.front_flaw.ensures ∙ c.in_err-front_flaw.was) in
    record { value = rw (p.1, p.2) (sym s.0); map_after = sym s.1 }

pub returns : goal.returns
returns c =
    let a = c.args in
    let s = survey-on a.hive.now a.map.now _ _ (sym c.front_flaw.ensures ∙ c.in_ok-front_flaw.was) c.bins_of.ensures c.scan.ensures.value in
    record { value = sym s.0; map_after = c.scan.ensures.map_after ∙ sym s.1 }
