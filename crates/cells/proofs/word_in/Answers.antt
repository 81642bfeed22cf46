use native.Mathlib.Omega.{arith}
use mathlib.Core.Path.{◌∙◌}
use Rattle.cells.proofs.Parts.{word_room, word-is}
use borrow.Author.Rules.{rules}
use Rattle.cells.proofs.word_in.Goals as goal

pub overflow_add-o-2 : goal.overflow_add-o-2
overflow_add-o-2 c = let h = word_room _ _ _ c.requires in search rules

pub u32_at-requires : goal.u32_at-requires
u32_at-requires c = let h = word_room _ _ _ c.requires in omega arith

pub returns : goal.returns
returns c =
    c.u32_at.ensures ∙ word-is _ _ _ c.requires
