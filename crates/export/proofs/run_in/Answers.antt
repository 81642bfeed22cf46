use mathlib.Core.Path.{sym, ap, ◌∙◌}
use native.Mathlib.Omega.{arith}
use Prim.Native.Nat.{◌-◌}
use lib.ListN.{length}
use Rattle.std.specs.Prelude.{Ok}
use Rattle.export.specs.Due.{due_at}
use Rattle.export.proofs.Turns.{stops-over, stops-bad, run-less, stop-levels, stop-out, stop-answer}
use Rattle.export.proofs.run_in.Goals as goal

pub returns-in-Ok-None : goal.returns-in-Ok-None
returns-in-Ok-None c =
    let l = c.loop-behind in
    let t = sym c.take_turn.ensures.value ∙ c.in-Ok-None.is ∙ ap Ok c.in-Ok-None.field-0-is in
    let s = stops-over (due_at c.args.bins.now c.args.minor l.levels l.next) l.next.depth (length l.out - l.at) l.at t in
    record {
      value = c.ended.ensures ∙ stop-answer c.args.bins.now c.args.minor c.args.levels.now c.args.c c.args.out.now l.invariant.0 s;
      levels_after = c.take_turn.ensures.levels_after ∙ stop-levels c.args.bins.now c.args.minor c.args.levels.now c.args.c c.args.out.now l.invariant.0 s;
      out_after = c.take_turn.ensures.out_after ∙ stop-out c.args.bins.now c.args.minor c.args.levels.now c.args.c c.args.out.now l.invariant.0 s;
    }

pub returns-in-Err : goal.returns-in-Err
returns-in-Err c =
    let l = c.loop-behind in
    let t = sym c.take_turn.ensures.value ∙ c.in-Err.is in
    let s = stops-bad (due_at c.args.bins.now c.args.minor l.levels l.next) l.next.depth (length l.out - l.at) l.at t in
    record {
      value = c.ended-in-Err.ensures ∙ stop-answer c.args.bins.now c.args.minor c.args.levels.now c.args.c c.args.out.now l.invariant.0 s;
      levels_after = c.take_turn.ensures.levels_after ∙ stop-levels c.args.bins.now c.args.minor c.args.levels.now c.args.c c.args.out.now l.invariant.0 s;
      out_after = c.take_turn.ensures.out_after ∙ stop-out c.args.bins.now c.args.minor c.args.levels.now c.args.c c.args.out.now l.invariant.0 s;
    }

pub loop-behind-smaller : goal.loop-behind-smaller
loop-behind-smaller c =
    let l = c.loop-behind in
    let t = sym c.take_turn.ensures.value ∙ c.in-Ok-Some.is ∙ ap Ok c.in-Ok-Some.field-0-is in
    let z = run-less c.args.bins.now c.args.minor c.args.levels.now c.args.c c.args.out.now l.invariant.0 t in
    omega (arith, z.0, z.1)
