use Rattle.std.proofs.Common.{◌≡◌, Ok, Err, MatchResult, [], refl, rules}
use Rattle.std.proofs.lemmas.Result.{err_from_is_err_and}
use Rattle.build_measure.proofs.Frames.{all-bytes}
use Rattle.build_measure.proofs.Entire.{root-laid, root-wrong, root-fits, after-flawed, whole-fits, told-root, told-end, told-after}
use Rattle.build_measure.proofs.Others.{placed}
use Rattle.build_measure.proofs.measure_stream.Goals as goal

pub frame_end-end-requires : goal.frame_end-end-requires
frame_end-end-requires c =
    let e : c.first_frame.result ≡ Ok c.in_ok-o.o = search rules in
    root-laid _ (told-root c.args.s.now e c.first_frame.ensures).opens

pub returns-in_err-t : goal.returns-in_err-t
returns-in_err-t c =
    let e : c.first_frame.result ≡ Ok c.in_ok-o.o = search rules in
    let r = told-root c.args.s.now e c.first_frame.ensures in
    let p = err_from_is_err_and c.from_residual-in_err-t.result c.from_residual-in_err-t.ensures.1 in
    rw (p.1, p.2) (root-wrong _ (all-bytes c.args.s.now (λ i. (c.type_inv.s i).fits)) r c.frame_end-end.ensures (c.in_err-t.ensures [] refl))

pub returns-in_err-map_err : goal.returns-in_err-map_err
returns-in_err-map_err c =
    let e : c.first_frame.result ≡ Ok c.in_ok-o.o = search rules in
    let r = told-root c.args.s.now e c.first_frame.ensures in
    let h : MatchResult c.after_root.result (λ n. c.map_err-2.result ≡ Ok n)
    (λ f. c.map_err-2.result ≡ Err (record { flaw = f; at = c.in_ok-t.t.at })) = search rules in
    let k = placed c.after_root.result c.in_ok-t.t.at h c.in_err-map_err.was in
    let p = err_from_is_err_and c.from_residual-in_err-map_err.result c.from_residual-in_err-map_err.ensures.1 in
    rw (p.1, p.2, k.2)
    (after-flawed _ (all-bytes c.args.s.now (λ i. (c.type_inv.s i).fits)) r c.frame_end-end.ensures c.in_ok-t.ensures
    (told-after c.args.s.now _ k.1 c.after_root.ensures))

pub root_sums-requires : goal.root_sums-requires
root_sums-requires c =
    let e : c.first_frame.result ≡ Ok c.in_ok-o.o = search rules in
    let r = told-root c.args.s.now e c.first_frame.ensures in
    root-fits _ (all-bytes c.args.s.now (λ i. (c.type_inv.s i).fits)) r c.frame_end-end.ensures c.in_ok-t.ensures c.well_formed.0.0

pub returns : goal.returns
returns c =
    let e : c.first_frame.result ≡ Ok c.in_ok-o.o = search rules in
    let r = told-root c.args.s.now e c.first_frame.ensures in
    let a : c.after_root.result ≡ Ok tt = search rules in
    whole-fits _ (all-bytes c.args.s.now (λ i. (c.type_inv.s i).fits)) r c.frame_end-end.ensures c.in_ok-t.ensures
    (told-end c.args.s.now _ a c.after_root.ensures) c.root_sums.ensures
