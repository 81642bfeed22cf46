use Rattle.std.proofs.Common.{◌≡◌, Ok, Err, MatchResult, sym, ◌∙◌, rules}
use Rattle.std.proofs.lemmas.Result.{err_from_is_err_and}
use Rattle.fields.specs.Faults.{no_key, refusal_of}
use Rattle.layout.specs.Layout.{size_of}
use Rattle.build_answers.proofs.Cases.{measure-wrong}
use Rattle.build_measure.proofs.Told.{told-fits, told-amiss}
use Rattle.build.proofs.Sizes.{measure-fits}
use Rattle.build.proofs.Calls.{refused-as}
use Rattle.build.proofs.measure.Goals as goal

pub returns-in_err-w : goal.returns-in_err-w
returns-in_err-w c =
    let a = c.args in
    let h : MatchResult c.measure_stream.result (λ w. c.map_err.result ≡ Ok w)
    (λ x. c.map_err.result ≡ Err (record { refusal = refusal_of no_key x.flaw; at = record { 0 = x.at } })) = search rules in
    let k = refused-as c.measure_stream.result h c.in_err-w.was in
    let p = err_from_is_err_and c.from_residual.result c.from_residual.ensures.1 in
    rw (p.1, p.2) (k.2 ∙ sym (measure-wrong a.stream.now _ (told-amiss a.stream.now k.1 c.measure_stream.ensures)))

pub returns : goal.returns
returns c =
    let a = c.args in
    let e : c.measure_stream.result ≡ Ok c.in_ok-w.w = search rules in
    let x = told-fits a.stream.now e c.measure_stream.ensures in
    c.size_answer.ensures (size_of x.forest) x.size_is ∙ measure-fits a.stream.now _ x
