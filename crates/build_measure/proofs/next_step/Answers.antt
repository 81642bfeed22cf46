use Rattle.std.proofs.Common.{◌≡◌, Ok, inl, inr, arith}
use Rattle.std.proofs.lemmas.Result.{err_from_is_err_and}
use Rattle.build_measure.proofs.Next.{at-end, at-fault, at-unlaid, at_value}
use Rattle.build_measure.proofs.next_step.Goals as goal

pub returns-then-p-s : goal.returns-then-p-s
returns-then-p-s c = at-end _ _ _ c.if-p-s.true

pub returns-in_err-frame_flaw : goal.returns-in_err-frame_flaw
returns-in_err-frame_flaw c =
    let p = err_from_is_err_and c.from_residual.result c.from_residual.ensures.1 in
    rw (p.1, p.2)
    (at-fault _ _ _ c.shape_at-f.ensures (omega (arith, c.requires.inside, c.if-p-s.false)) c.frame_flaw.ensures c.in_err-frame_flaw.was)

pub returns-in-Holds : goal.returns-in-Holds
returns-in-Holds c =
    let e : c.frame_flaw.result ≡ Ok tt = c.in_ok-frame_flaw.was in
    let t = rw e at c.frame_flaw.ensures in
    elim c.in-Holds.is [
      | inl i ↦ at_value _ _ _ c.shape_at-f.ensures t c.requires i.1
      | inr i ↦ at-unlaid _ _ _ c.shape_at-f.ensures t i
    ]
