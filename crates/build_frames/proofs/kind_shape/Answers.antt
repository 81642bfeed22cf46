use native.Mathlib.Omega.{arith}
use mathlib.Core.Path.{◌∙◌}
use Rattle.build_frames.proofs.Frames.{read_none, read-end, read_by, kind-open, kind-item, kind-none, kind-close, close-some, close-none}
use Rattle.build_frames.proofs.kind_shape.Goals as goal

pub returns-in-16 : goal.returns-in-16
returns-in-16 c = read_by (kind-open _ _ c.in-16.is) c.open_shape.ensures

pub returns-in-17 : goal.returns-in-17
returns-in-17 c = read_by (kind-item _ _ (omega arith) c.in-17.is) c.item_shape.ensures

pub returns-in-18 : goal.returns-in-18
returns-in-18 c =
    read-end _ (kind-close _ _ (omega arith) (omega arith) c.in-18.is ∙ close-none _ _ _ c.requires c.if-len-eq0.true)

pub returns-in_default : goal.returns-in_default
returns-in_default c =
    read_none _ (kind-close _ _ (omega arith) (omega arith) c.in-18.is ∙ close-some _ _ _ c.requires c.if-len-eq0.false)

pub returns-in_default-2 : goal.returns-in_default-2
returns-in_default-2 c = read_none _ (kind-none _ _ (omega arith) (omega arith) (omega arith))
