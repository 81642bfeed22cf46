use Prim.Native.Nat.{ℕ}
use Rattle.test_frames.proofs.Units.{one_more}
use Rattle.names.specs.Codes.{codes}
use Rattle.names.proofs.LawsCodes.{wide-length}
use Prim.Native.Nat.{◌<◌, ◌/◌}
use native.Mathlib.Omega.{arith}
use mathlib.Core.Bool.{false}
use mathlib.Core.Path.{◌≡◌, ap, ◌∙◌}
use lib.ListN.{length, take, length-set}
use lib.Seq.{take_all, drop-set-lt}
use Rattle.test_frames.proofs.path_units.Goals as goal

pub loop-i-preserved : goal.loop-i-preserved
loop-i-preserved c =
    let p = c.args.path.now in
    let m = wide-length p in
    let i = c.loop-i.i in
    let below : i < length p / 2 = omega arith in (
      simp length-set c.loop-i.invariant.0,
      one_more p _ _ _ (omega (arith, c.loop-i.invariant.0)) (omega (arith, m)) c.u16_at.ensures c.loop-i.invariant.1,
      drop-set-lt (length p / 2) c.loop-i.units i _ below ∙ c.loop-i.invariant.2,
    )

pub returns-clause-units_after : goal.returns-clause-units_after
returns-clause-units_after c =
    let p = c.args.path.now in
    let m = wide-length p in
    let i = c.loop-i.i in
    let e : length p / 2 ≡ i = omega arith in
    ap (λ (n : ℕ). take n c.loop-i.units) e ∙ c.loop-i.invariant.1 ∙ take_all i (codes false p) (omega arith)
