use Rattle.build_cells.proofs.Laws.{low-length, whole_length}
use mathlib.Core.Path.{sym}
use Rattle.build_cells.proofs.stored_len.Goals as goal

pub returns-then-narrow : goal.returns-then-narrow
returns-then-narrow c =
    sym (low-length _ _ c.requires c.if-narrow.true)

pub returns-else-narrow : goal.returns-else-narrow
returns-else-narrow c =
    sym (whole_length _ _ c.requires c.if-narrow.false)
