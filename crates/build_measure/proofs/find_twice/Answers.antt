use Rattle.build_measure.proofs.Repeats.{twice-at, none-twice}
use Rattle.build_measure.proofs.find_twice.Goals as goal

pub returns-then-i-n : goal.returns-then-i-n
returns-then-i-n c = twice-at c.requires c.asked-n.ensures c.first_repeat-i.ensures c.if-i-n.true _ c.position_of.ensures

pub returns-else-i-n : goal.returns-else-i-n
returns-else-i-n c = none-twice c.requires c.asked-n.ensures c.first_repeat-i.ensures c.if-i-n.false
