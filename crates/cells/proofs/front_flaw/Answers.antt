use Rattle.std.proofs.Common.{sym, ◌∙◌, arith}
use Rattle.std.proofs.lemmas.Result.{err_from_is_err_and}
use Rattle.base.proofs.Laws.{base-facts}
use Rattle.cells.proofs.Fronts.{front-base, front-small, front-good}
use Rattle.cells.proofs.front_flaw.Goals as goal

pub returns-in_err-base_flaw : goal.returns-in_err-base_flaw
returns-in_err-base_flaw c =
    let p = err_from_is_err_and c.from_residual.result c.from_residual.ensures.1 in
    rw (p.1, p.2) (sym (front-base _ _ (sym c.base_flaw.ensures ∙ c.in_err-base_flaw.was)))

pub slice_bounds-bins_size-end : goal.slice_bounds-bins_size-end
slice_bounds-bins_size-end c = let b = base-facts _ (sym c.base_flaw.ensures ∙ c.in_ok-base_flaw.was) in omega arith

pub returns-then-room-bins_size : goal.returns-then-room-bins_size
returns-then-room-bins_size c = c.flawed.ensures ∙ sym (front-small _ _ (sym c.base_flaw.ensures ∙ c.in_ok-base_flaw.was) (omega arith))

pub returns : goal.returns
returns c = sym (front-good _ _ (sym c.base_flaw.ensures ∙ c.in_ok-base_flaw.was) (omega arith))
