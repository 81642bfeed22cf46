use native.Mathlib.Omega.{arith}
use mathlib.Core.Path.{ap, ◌∙◌}
use lib.ListN.{length}
use Rattle.records.proofs.LawsRecord.{front-room}
use Rattle.namesakes.proofs.Readings.{name-front}
use Rattle.namesakes.proofs.name_at.Goals as goal

pub u16_at-requires : goal.u16_at-requires
u16_at-requires c = omega (arith, ap length c.part_in-r.ensures, front-room _ _ 20 c.requires)

pub is_narrow-requires : goal.is_narrow-requires
is_narrow-requires c = omega (arith, ap length c.part_in-r.ensures, front-room _ _ 20 c.requires)

pub returns : goal.returns
returns c = name-front _ _ _ c.part_in-r.ensures _ _ (c.from.ensures ∙ c.u16_at.ensures) c.is_narrow.ensures
