use Rattle.build_frames.proofs.Frames.{read_none, item-short, item-odd, item-long, item-whole}
use Rattle.build_frames.proofs.item_shape.Goals as goal
use Rattle.build_frames.proofs.item_shape.Goals.{then-n-ne0-via-then-n-ne0, then-n-ne0-via-else-n-ne0+then-len-n}

pub returns-then-len-lt8 : goal.returns-then-len-lt8
returns-then-len-lt8 c = read_none _ (item-short _ _ _ c.requires c.if-len-lt8.true)

pub returns-then-n-ne0 : goal.returns-then-n-ne0
returns-then-n-ne0 c = elim c.then-n-ne0.branch [
  | then-n-ne0-via-then-n-ne0 w ↦ read_none _ (item-odd _ _ _ c.requires c.if-len-lt8.false _ c.u32_at-n.ensures w.if-n-ne0.true)
  | then-n-ne0-via-else-n-ne0+then-len-n w ↦
      read_none _ (item-long _ _ _ c.requires c.if-len-lt8.false _ c.u32_at-n.ensures w.if-n-ne0.false w.if-len-n.true)
]

pub returns : goal.returns
returns c =
    item-whole _ _ _ c.requires c.if-len-lt8.false _ c.u32_at-n.ensures _ c.u32_at.ensures c.if-n-ne0.false c.if-len-n.false
