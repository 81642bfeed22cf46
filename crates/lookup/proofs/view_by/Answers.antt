use Rattle.lookup.proofs.Answered.{Shown, view-answered, view-shown, view-part}
use native.Mathlib.Nat.{add-sub_cancel_left}
use mathlib.Core.Path.{sym, ◌∙◌}
use native.Mathlib.Omega.{arith}
use Rattle.lookup.proofs.view_by.Goals.{In-Ok}
use Rattle.lookup.proofs.view_by.Goals as goal

-- the part that holds the data
shown : (c : In-Ok) → Shown c.args.hive.now c.in-Ok.i
shown c =
    let a = view-answered _ _ _ _ (sym c.viewed_by.ensures ∙ c.in-Ok.is) in
    view-shown _ _ _ _ _ a.0 a.1

pub overflow_add-result : goal.overflow_add-result
overflow_add-result c = let s = shown (goal.at.overflow_add-result c).In-Ok in omega arith

pub slice_bounds-result-end-in-Ok : goal.slice_bounds-result-end-in-Ok
slice_bounds-result-end-in-Ok c = let s = shown (goal.at.slice_bounds-result-end-in-Ok c).In-Ok in omega arith

pub returns-in-Ok-clause-result_value : goal.returns-in-Ok-clause-result_value
returns-in-Ok-clause-result_value c =
    let i = c.in-Ok.i in
    rw (add-sub_cancel_left i.at.0 i.len) (sym (view-part _ _ _ _ (sym c.viewed_by.ensures ∙ c.in-Ok.is)))
