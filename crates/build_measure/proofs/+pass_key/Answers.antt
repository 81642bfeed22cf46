-- The proof of the cycle of calls {pass_key}. Assumes nothing.
use Rattle.std.proofs.Common.{◌≡◌, Ok, Some, None, rules, arith}
use Rattle.std.proofs.lemmas.Result.{err_from_is_err_and}
use Rattle.build_measure.proofs.Frames.{all-bytes}
use Rattle.build_measure.proofs.Going.{going_start, size_few, level-left, key-laid, more-fits, going_more, wrong-next, wrong-below, going_end}
use Rattle.build_measure.proofs.+pass_key.Goals as goal

pub loop-o-init : goal.loop-o-init
loop-o-init t c = going_start _ _ c.pass_values-r.ensures c.begin_key-w.ensures

pub returns-in-Err : goal.returns-in-Err
returns-in-Err t c =
    let x = rw c.in-Err.is at c.next_step.ensures in
    wrong-next _ c.loop-o.invariant c.pass_values-r.ensures c.begin_key-w.ensures c.in_default.ensures x

pub frame_end-end-requires : goal.frame_end-end-requires
frame_end-end-requires t c =
    let e : c.next_step.result ≡ Ok (Some c.in-Ok-Some.o) = search rules in
    let k = rw e at c.next_step.ensures in
    key-laid _ c.loop-o.invariant (all-bytes c.args.s.now (λ i. (c.type_inv.s i).fits)) k

pub pass_key-requires : goal.pass_key-requires
pass_key-requires t c =
    let e : c.next_step.result ≡ Ok (Some c.in-Ok-Some.o) = search rules in
    let k = rw e at c.next_step.ensures in
    let f = level-left _ c.loop-o.invariant (all-bytes c.args.s.now (λ i. (c.type_inv.s i).fits)) k in
    let m = c.decreases in
    (omega arith, (c.frame_end-end.ensures.inside, omega arith))

pub returns-in_err-t : goal.returns-in_err-t
returns-in_err-t t c =
    let e : c.next_step.result ≡ Ok (Some c.in-Ok-Some.o) = search rules in
    let k = rw e at c.next_step.ensures in
    let p = err_from_is_err_and c.from_residual.result c.from_residual.ensures.1 in
    rw (p.1, p.2)
    (wrong-below _ c.loop-o.invariant c.pass_values-r.ensures c.begin_key-w.ensures c.in_default.ensures (all-bytes c.args.s.now (λ i. (c.type_inv.s i).fits))
    k c.frame_end-end.ensures c.in_err-t.ensures)

pub add_key-w-requires : goal.add_key-w-requires
add_key-w-requires t c =
    let e : c.next_step.result ≡ Ok (Some c.in-Ok-Some.o) = search rules in
    let k = rw e at c.next_step.ensures in
    more-fits _ c.loop-o.invariant (all-bytes c.args.s.now (λ i. (c.type_inv.s i).fits)) k c.frame_end-end.ensures c.in_ok-t.ensures c.well_formed.0.0

pub loop-o-preserved : goal.loop-o-preserved
loop-o-preserved t c =
    let e : c.next_step.result ≡ Ok (Some c.in-Ok-Some.o) = search rules in
    let k = rw e at c.next_step.ensures in
    going_more _ c.loop-o.invariant (all-bytes c.args.s.now (λ i. (c.type_inv.s i).fits)) k c.frame_end-end.ensures c.in_ok-t.ensures
    c.add_key-w.ensures

pub end_key-requires : goal.end_key-requires
end_key-requires t c =
    let e : c.next_step.result ≡ Ok None = search rules in
    (rw e at c.next_step.ensures, size_few _ c.loop-o.invariant, c.loop-o.invariant.few)

pub returns-in-Ok-None : goal.returns-in-Ok-None
returns-in-Ok-None t c =
    let e : c.next_step.result ≡ Ok None = search rules in
    let k = rw e at c.next_step.ensures in
    going_end _ c.loop-o.invariant c.pass_values-r.ensures c.begin_key-w.ensures c.in_default.ensures (all-bytes c.args.s.now (λ i. (c.type_inv.s i).fits))
    k c.end_key.ensures
