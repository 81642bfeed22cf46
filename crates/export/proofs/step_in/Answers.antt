use mathlib.Core.Path.{sym, ap, ◌∙◌}
use native.Mathlib.Omega.{arith}
use mathlib.Core.List.{List}
use Rattle.std.specs.Prelude.{ℕ, Ok}
use Rattle.export.specs.Answers.{start}
use Rattle.export.specs.Terms.{went}
use Rattle.export.proofs.Calls.{step_by, turn_by}
use Rattle.export.proofs.step_in.Goals as goal

pub returns-in_err-c : goal.returns-in_err-c
returns-in_err-c c =
    let e = c.pass.ensures.value ∙ ap (λ (ws : List ℕ). (went c.args.bins.now c.args.minor c.args.n ws start).answer) c.put_key.ensures in
    let q = step_by c.args.bins.now c.args.minor c.args.root c.args.n c.args.out.now (sym c.in_err-c.was ∙ e) in
    let v = q.0 in
    record { value = grind arith; out_after = sym q.1 }

pub returns-in_default : goal.returns-in_default
returns-in_default c =
    let e = c.pass.ensures.value ∙ ap (λ (ws : List ℕ). (went c.args.bins.now c.args.minor c.args.n ws start).answer) c.put_key.ensures in
    let q = step_by c.args.bins.now c.args.minor c.args.root c.args.n c.args.out.now (sym (c.in_ok-c.was ∙ ap Ok c.in_default.is) ∙ e) in
    record { value = sym q.0; out_after = sym q.1 }

pub returns-in_err-take_turn : goal.returns-in_err-take_turn
returns-in_err-take_turn c =
    let e = sym (c.in_ok-c.was ∙ ap Ok c.in-Some.is) ∙ c.pass.ensures.value
    ∙ ap (λ (ws : List ℕ). (went c.args.bins.now c.args.minor c.args.n ws start).answer) c.put_key.ensures in
    let f = c.pass.ensures.levels_after ∙ ap (λ (ws : List ℕ). (went c.args.bins.now c.args.minor c.args.n ws start).levels) c.put_key.ensures in
    let u = turn_by c.args.bins.now c.args.minor c.args.root c.args.n c.args.out.now e f (sym c.in_err-take_turn.was ∙ c.take_turn.ensures.value) in
    let v = u.0 in
    record { value = grind arith; out_after = c.take_turn.ensures.out_after ∙ u.1 }

pub returns : goal.returns
returns c =
    let e = sym (c.in_ok-c.was ∙ ap Ok c.in-Some.is) ∙ c.pass.ensures.value
    ∙ ap (λ (ws : List ℕ). (went c.args.bins.now c.args.minor c.args.n ws start).answer) c.put_key.ensures in
    let f = c.pass.ensures.levels_after ∙ ap (λ (ws : List ℕ). (went c.args.bins.now c.args.minor c.args.n ws start).levels) c.put_key.ensures in
    let u = turn_by c.args.bins.now c.args.minor c.args.root c.args.n c.args.out.now e f (sym c.in_ok-take_turn.was ∙ c.take_turn.ensures.value) in
    let v = u.0 in
    record { value = grind arith; out_after = c.take_turn.ensures.out_after ∙ u.1 }
