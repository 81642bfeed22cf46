use mathlib.Core.Path.{◌∙◌}
use Rattle.records.proofs.LawsRecord.{front-room}
use Rattle.records.proofs.ListFronts.{leaf-front}
use Rattle.records.proofs.leaf_fields.Goals as goal

pub leaf_in-requires : goal.leaf_in-requires
leaf_in-requires c =
    rw c.part_in.ensures (front-room _ _ 4 c.requires)

pub returns : goal.returns
returns c = (rw c.part_in.ensures at c.leaf_in.ensures) ∙ leaf-front _ _
