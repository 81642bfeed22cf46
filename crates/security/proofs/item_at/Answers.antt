use mathlib.Core.Path.{◌∙◌}
use Rattle.records.proofs.LawsRecord.{front-room}
use Rattle.security.proofs.Items.{item-front}
use Rattle.security.proofs.item_at.Goals as goal

pub item_in-requires : goal.item_in-requires
item_in-requires c =
    rw c.part_in.ensures (front-room _ _ 20 c.requires)

pub returns : goal.returns
returns c = (rw c.part_in.ensures at c.item_in.ensures) ∙ item-front _ _
