use Rattle.cells.specs.Rule.{Map}
use Rattle.namesakes.proofs.Laws.{passed-lie}
use Rattle.std.proofs.Common.{sym, ◌∙◌}
use Rattle.tree.proofs.values_and_lists_flaw.Goals as goal

pub namesake_flaw-requires : goal.namesake_flaw-requires
namesake_flaw-requires c = passed-lie Map _ _ _ _ (sym c.values_flaw.ensures ∙ c.in_ok-values_flaw.was)
