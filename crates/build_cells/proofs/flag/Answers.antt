use Rattle.layout.specs.Layout.{flag_of}
use Rattle.build_cells.proofs.flag.Goals as goal

pub returns-then-told : goal.returns-then-told
unfolding flag_of
returns-then-told c = rw c.if-told.true

pub returns-else-told : goal.returns-else-told
unfolding flag_of
returns-else-told c = rw c.if-told.false
