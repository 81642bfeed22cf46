use native.Mathlib.Omega.{arith}
use Rattle.build_frames.proofs.Frames.{read_none, read_by, head-cut, payload_cut, frame-whole}
use Rattle.build_frames.proofs.shape_at.Goals as goal

pub returns-then-left-lt6 : goal.returns-then-left-lt6
returns-then-left-lt6 c = let a = c.args in read_none _ (head-cut a.s.now a.at c.if-left-lt6.true)

pub returns-then-left-len : goal.returns-then-left-len
returns-then-left-len c =
    let a = c.args in
    read_none _ (payload_cut a.s.now a.at (omega arith) c.u32_at-len.result c.u32_at-len.ensures (omega arith))

pub returns : goal.returns
returns c =
    read_by
    (frame-whole _ _ c.if-left-lt6.false _ c.u32_at-len.ensures c.if-left-len.false _
    c.u16_at.ensures)
    c.kind_shape.ensures
