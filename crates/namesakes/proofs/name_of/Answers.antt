use mathlib.Core.Path.{ap, ◌∙◌}
use Rattle.namesakes.specs.Namesakes.{value_name}
use Rattle.namesakes.proofs.Readings.{record-room}
use Rattle.namesakes.proofs.name_of.Goals as goal

pub entry-requires : goal.entry-requires
entry-requires c = let p = c.requires in record { room = p.names_lie.room; i_lt_count = p.i_lt_count }

pub name_at-requires : goal.name_at-requires
name_at-requires c = let p = c.requires in record-room _ _ p.names_lie _ p.i_lt_count c.entry.ensures

pub returns : goal.returns
returns c =
    c.name_at.ensures ∙ ap (value_name _) c.entry.ensures
