use Rattle.cells.proofs.Naming.{length_none, length_some}
use mathlib.Core.Path.{sym, ◌∙◌}
use native.Mathlib.Omega.{arith}
use Rattle.cells.proofs.find_cell.Goals as goal

pub returns-then-n-eq0 : goal.returns-then-n-eq0
returns-then-n-eq0 c = sym (length_none _ _ _ _ (sym c.named_length-n.ensures ∙ c.if-n-eq0.true))

pub overflow_sub-result : goal.overflow_sub-result
overflow_sub-result c = let s = length_some _ _ _ _ _ c.named_length-n.ensures c.if-n-eq0.false in let g = s.1.sized in omega (arith, s.2)

pub returns : goal.returns
returns c = sym (length_some _ _ _ _ _ c.named_length-n.ensures c.if-n-eq0.false).0
