use native.Mathlib.Numerals.{add-one}
use Rattle.build_frames.proofs.Arms.{said-holds}
use Rattle.build_measure.proofs.Repeats.{asked-one, asked-none}
use Rattle.build_measure.proofs.Others.{other-held}
use Rattle.build_measure.proofs.asked.Goals as goal

pub returns-in-Holds : goal.returns-in-Holds
returns-in-Holds c = rw (add-one _) (asked-one c.requires _ (said-holds c.shape_at.ensures c.in-Holds.is))

pub returns-in_default : goal.returns-in_default
returns-in_default c = asked-none c.requires (other-held _ c.shape_at.ensures c.in_default.not-Holds)
