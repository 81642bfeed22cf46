use Rattle.lookup.proofs.Value_searches.{value_room}
use mathlib.Core.Path.{sym, ◌∙◌}
use Rattle.lookup.proofs.value_named.Goals as goal

pub is_called-requires : goal.is_called-requires
is_called-requires c = value_room _ _ c.args.name.now _ (sym c.value_at.ensures ∙ c.in_ok-x.was)
