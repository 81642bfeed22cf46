use Rattle.std.proofs.Common.{sym, ap, ◌∙◌}
use Rattle.search.specs.declared.Turn.TheVariants.{Stop}
use Rattle.search.proofs.Asks.{last-is, last-found}
use Rattle.search.proofs.ask_last.Goals as goal

pub returns-in-Right : goal.returns-in-Right
returns-in-Right c =
    sym
    (last-is c.args.bins.now c.args.name.now c.args.leaf c.requires.count_nonzero c.child_offset-last.ensures
    c.ask_key.ensures c.in-Right.is)

pub returns-in-Stop-Err : goal.returns-in-Stop-Err
returns-in-Stop-Err c =
    sym
    (last-is c.args.bins.now c.args.name.now c.args.leaf c.requires.count_nonzero c.child_offset-last.ensures
    c.ask_key.ensures (c.in-Stop-Err.is ∙ ap Stop c.in-Stop-Err.field-0-is))

pub returns-in-Left : goal.returns-in-Left
returns-in-Left c =
    ap Stop c.quick_keys-in-Left.ensures
    ∙ sym
    (last-is c.args.bins.now c.args.name.now c.args.leaf c.requires.count_nonzero c.child_offset-last.ensures
    c.ask_key.ensures c.in-Left.is)

pub returns-in-Stop-Ok : goal.returns-in-Stop-Ok
returns-in-Stop-Ok c =
    ap Stop c.quick_keys.ensures
    ∙ sym
    (last-is c.args.bins.now c.args.name.now c.args.leaf c.requires.count_nonzero c.child_offset-last.ensures
    c.ask_key.ensures (c.in-Stop-Ok.is ∙ ap Stop c.in-Stop-Ok.field-0-is) ∙ last-found _ _)
