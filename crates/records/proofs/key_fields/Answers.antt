use mathlib.Core.Path.{◌∙◌}
use Rattle.records.proofs.LawsRecord.{front-room}
use Rattle.records.proofs.KeyTests.{key-front}
use Rattle.records.proofs.key_fields.Goals as goal

pub key_in-requires : goal.key_in-requires
key_in-requires c =
    rw c.part_in.ensures (front-room _ _ 76 c.requires)

pub returns : goal.returns
returns c = (rw c.part_in.ensures at c.key_in.ensures) ∙ key-front _ _
