use Rattle.std.proofs.Common.{arith, rules, sym, ◌∙◌}
use Rattle.fields.specs.Faults.{nowhere}
use Rattle.fields.proofs.Loops.{loop-stop, loop-on, loop-end}
use Rattle.values.proofs.Rooms.{entries-length}
use Rattle.values.proofs.each_value_flaw.Goals as goal

pub returns-in_err-whole_value_flaw : goal.returns-in_err-whole_value_flaw
returns-in_err-whole_value_flaw c =
    let n = entries-length c.args.bins.now c.args.e in
    let f =
    sym
    (loop-stop _ _ c.loop-i.i _ c.loop-i.invariant _ (omega arith) c.entry.ensures
    (sym c.whole_value_flaw.ensures ∙ c.in_err-whole_value_flaw.was)) in search rules

pub loop-i-preserved : goal.loop-i-preserved
loop-i-preserved c =
    let n = entries-length c.args.bins.now c.args.e in
    loop-on _ _ c.loop-i.i _ c.loop-i.invariant _ (omega arith) c.entry.ensures (sym c.whole_value_flaw.ensures ∙ c.in_ok-whole_value_flaw.was)

pub returns : goal.returns
returns c =
    let n = entries-length c.args.bins.now c.args.e in sym (loop-end _ _ c.loop-i.i nowhere c.loop-i.invariant (omega arith))
