use Rattle.build_frames.proofs.Arms.{said-nothing}
use Rattle.build_measure.proofs.Entire.{after-unlaid}
use Rattle.build_measure.proofs.Others.{other-after}
use Rattle.build_measure.proofs.after_root.Goals as goal

pub returns-in-Unlaid : goal.returns-in-Unlaid
returns-in-Unlaid c = after-unlaid _ _ c.requires c.if-p-s.false (said-nothing c.shape_at.ensures c.in-Unlaid.is) c.flawed.ensures

pub returns-in_default : goal.returns-in_default
returns-in_default c = other-after _ _ c.requires c.if-p-s.false _ c.shape_at.ensures c.in_default.not-Unlaid c.flawed-in_default.ensures
