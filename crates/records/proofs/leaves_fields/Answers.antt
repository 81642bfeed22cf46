use mathlib.Core.Path.{◌∙◌}
use Rattle.records.proofs.LawsRecord.{front-room}
use Rattle.records.proofs.ListFronts.{leaves-front}
use Rattle.records.proofs.leaves_fields.Goals as goal

pub leaves_in-requires : goal.leaves_in-requires
leaves_in-requires c =
    rw c.part_in.ensures (front-room _ _ 4 c.requires)

pub returns : goal.returns
returns c = (rw c.part_in.ensures at c.leaves_in.ensures) ∙ leaves-front _ _
