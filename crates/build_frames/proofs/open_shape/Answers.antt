use Rattle.build_frames.proofs.Frames.{read_none, open-short, open-odd, open-whole}
use Rattle.build_frames.proofs.open_shape.Goals as goal
use Rattle.build_frames.proofs.open_shape.Goals.{then-len-lt8-via-then-len-lt8, then-len-lt8-via-else-len-lt8+then-len-ne0}

pub returns-then-len-lt8 : goal.returns-then-len-lt8
returns-then-len-lt8 c = elim c.then-len-lt8.branch [
  | then-len-lt8-via-then-len-lt8 w ↦ read_none _ (open-short _ _ _ c.requires w.if-len-lt8.true)
  | then-len-lt8-via-else-len-lt8+then-len-ne0 w ↦ read_none _ (open-odd _ _ _ c.requires w.if-len-lt8.false w.if-len-ne0.true)
]

pub returns : goal.returns
returns c = open-whole _ _ _ c.requires c.if-len-lt8.false _ c.u64_at.ensures c.if-len-ne0.false
