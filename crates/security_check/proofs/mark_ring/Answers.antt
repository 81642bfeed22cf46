use Rattle.std.proofs.Common.{arith}
use Rattle.security.proofs.Gathers.{closes_by, goes_by}
use Rattle.security_check.proofs.Marking.{marking-start, marking-fits, marking-room, marking-done, marking-on, marking-over}
use Rattle.security_check.proofs.mark_ring.Goals as goal

pub loop-met-init : goal.loop-met-init
loop-met-init c = marking-start _ _ _ c.requires.rung c.requires.fact.room

pub put_bit-requires : goal.put_bit-requires
put_bit-requires c = marking-room _ _ _ c.loop-met.invariant

pub item_at-requires : goal.item_at-requires
item_at-requires c = marking-fits _ _ _ c.loop-met.invariant

pub returns-then-at-first : goal.returns-then-at-first
returns-then-at-first c =
    marking-done _ _ _ c.loop-met.invariant c.put_bit.ensures (closes_by _ _ _ c.item_at.ensures c.if-at-first.true)

pub loop-met-preserved : goal.loop-met-preserved
loop-met-preserved c =
    let r = c.item_at.ensures in
    rw r (marking-on _ _ _ c.loop-met.invariant c.put_bit.ensures (goes_by _ _ _ r c.if-at-first.false))

pub returns : goal.returns
returns c = marking-over _ _ _ c.loop-met.invariant (omega arith)
