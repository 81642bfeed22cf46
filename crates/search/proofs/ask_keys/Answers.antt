use Rattle.std.proofs.Common.{sym, ap, ◌∙◌}
use Rattle.search.specs.declared.Turn.TheVariants.{Stop}
use Rattle.search.proofs.Asks.{first-is, first-found}
use Rattle.search.proofs.ask_keys.Goals as goal

pub returns-in-Left : goal.returns-in-Left
returns-in-Left c =
    sym
    (first-is c.args.bins.now c.args.name.now c.args.leaf c.requires.count_nonzero c.child_offset-first.ensures
    c.ask_key.ensures c.in-Left.is)

pub returns-in-Stop-Err : goal.returns-in-Stop-Err
returns-in-Stop-Err c =
    sym
    (first-is c.args.bins.now c.args.name.now c.args.leaf c.requires.count_nonzero c.child_offset-first.ensures
    c.ask_key.ensures (c.in-Stop-Err.is ∙ ap Stop c.in-Stop-Err.field-0-is))

pub returns-in-Right : goal.returns-in-Right
returns-in-Right c =
    c.ask_last-in-Right.ensures
    ∙ sym
    (first-is c.args.bins.now c.args.name.now c.args.leaf c.requires.count_nonzero c.child_offset-first.ensures
    c.ask_key.ensures c.in-Right.is)

pub returns-in-Stop-Ok : goal.returns-in-Stop-Ok
returns-in-Stop-Ok c =
    c.ask_last.ensures
    ∙ sym
    (first-is c.args.bins.now c.args.name.now c.args.leaf c.requires.count_nonzero c.child_offset-first.ensures
    c.ask_key.ensures (c.in-Stop-Ok.is ∙ ap Stop c.in-Stop-Ok.field-0-is) ∙ first-found _ _)
