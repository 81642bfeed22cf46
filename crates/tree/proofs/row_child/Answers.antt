use Rattle.tree.proofs.Rows.{row-element}
use Rattle.tree.proofs.row_child.Goals as goal

pub returns-else-row-eq0 : goal.returns-else-row-eq0
returns-else-row-eq0 c = row-element _ _ _ c.requires.0 c.if-row-eq0.false c.child_of.ensures
