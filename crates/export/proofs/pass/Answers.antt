use mathlib.Core.Path.{◌≡◌, sym, ap, ◌∙◌}
use native.Mathlib.Omega.{arith}
use Prim.Native.Nat.{◌+◌, ◌-◌}
use Rattle.std.specs.Prelude.{Ok}
use Rattle.export.proofs.Ways.{due-lies}
use Rattle.export.proofs.Turns.{behind-fits, went-comes}
use Rattle.export.proofs.pass.Goals as goal

pub move_on-next-requires : goal.move_on-next-requires
move_on-next-requires c =
    (due-lies _ _ _ _ (sym c.due_frame.ensures ∙ c.in_ok-f.was ∙ ap Ok c.in-Some.is)).goes

pub loop-preserved : goal.loop-preserved
loop-preserved c =
    let l = c.loop in
    let e = sym c.due_frame.ensures ∙ c.in_ok-f.was ∙ ap Ok c.in-Some.is in
    let z = behind-fits c.args.bins.now c.args.minor l.levels l.next e l.invariant.1 in
    let k : c.args.n - l.counter - 1 ≡ c.args.n - (l.counter + 1) = omega arith in
    let w = l.invariant.0 ∙ went-comes c.args.bins.now c.args.minor (c.args.n - l.counter) l.levels l.next (omega arith) e in
    rw (c.move_on-next.ensures.value, c.move_on-next.ensures.levels_after) (rw k at w, z.0, z.1 ∙ l.invariant.2)
