use Rattle.std.proofs.Common.{◌≡◌, Ok, Err, MatchResult, ◌∙◌, arith, rules}
use Rattle.std.proofs.lemmas.Result.{err_from_is_err_and}
use Rattle.fields.specs.Faults.{no_key, refusal_of}
use Rattle.layout.specs.Layout.{size_of}
use Rattle.build_measure.proofs.Told.{told-fits, told-amiss}
use Rattle.build.proofs.Sizes.{measure-fits}
use Rattle.build.proofs.Calls.{put-fits, call-wrong, call-refused, call_long, call-done, refused-as}
use Rattle.build.proofs.build.Goals as goal

pub returns-in_err-w : goal.returns-in_err-w
returns-in_err-w c =
    let a = c.args in
    let h : MatchResult c.measure_stream.result (λ w. c.map_err.result ≡ Ok w)
    (λ x. c.map_err.result ≡ Err (record { refusal = refusal_of no_key x.flaw; at = record { 0 = x.at } })) = search rules in
    let k = refused-as c.measure_stream.result h c.in_err-w.was in
    let p = err_from_is_err_and c.from_residual.result c.from_residual.ensures.1 in
    let b = call-wrong a.stream.now a.descriptor.now a.out.now (told-amiss a.stream.now k.1 c.measure_stream.ensures) in
    record { value = rw (p.1, p.2) (k.2 ∙ b.0); out_after = b.1 }

pub returns-in_err-k : goal.returns-in_err-k
returns-in_err-k c =
    let a = c.args in
    let e : c.measure_stream.result ≡ Ok c.in_ok-w.w = search rules in
    let x = told-fits a.stream.now e c.measure_stream.ensures in
    let q = c.size_answer.ensures (size_of x.forest) x.size_is ∙ measure-fits a.stream.now _ x in
    let b = call-refused a.stream.now a.descriptor.now a.out.now q c.in_err-k.was in
    let p = err_from_is_err_and c.from_residual-in_err-k.result c.from_residual-in_err-k.ensures.1 in
    record { value = rw (p.1, p.2) b.0; out_after = b.1 }

pub returns-then-out-k : goal.returns-then-out-k
returns-then-out-k c =
    let a = c.args in
    let e : c.measure_stream.result ≡ Ok c.in_ok-w.w = search rules in
    let x = told-fits a.stream.now e c.measure_stream.ensures in
    let q = c.size_answer.ensures (size_of x.forest) x.size_is ∙ measure-fits a.stream.now _ x in
    let b = call_long a.stream.now a.descriptor.now a.out.now q c.in_ok-k.was (omega (arith, c.if-out-k.true)) in
    record { value = c.refuse_size.ensures ∙ b.0; out_after = b.1 }

pub put_hive-requires : goal.put_hive-requires
put_hive-requires c =
    let a = c.args in
    let e : c.measure_stream.result ≡ Ok c.in_ok-w.w = search rules in
    let x = told-fits a.stream.now e c.measure_stream.ensures in
    let q = c.size_answer.ensures (size_of x.forest) x.size_is ∙ measure-fits a.stream.now _ x in
    put-fits a.stream.now a.descriptor.now x q c.in_ok-k.was (omega (arith, c.if-out-k.false))

pub returns : goal.returns
returns c =
    let a = c.args in
    let e : c.measure_stream.result ≡ Ok c.in_ok-w.w = search rules in
    let x = told-fits a.stream.now e c.measure_stream.ensures in
    let q = c.size_answer.ensures (size_of x.forest) x.size_is ∙ measure-fits a.stream.now _ x in
    let b = call-done a.stream.now a.descriptor.now a.out.now q c.in_ok-k.was (omega (arith, c.if-out-k.false)) c.put_hive.ensures in
    record { value = b.0; out_after = b.1 }
