use Rattle.std.proofs.Common.{◌+◌, ◌-◌, sym, arith}
use Rattle.search.specs.declared.TheConstants.{TURNS}
use Rattle.search.proofs.Asks.{halves-over, halves-none, halves-left, halves-right, halves-stop}
use Rattle.search.proofs.by_halves.Goals as goal
use Rattle.search.proofs.by_halves.Goals.{in-Left, in-Right}

pub returns-then-hi-lo : goal.returns-then-hi-lo
returns-then-hi-lo g c = λ says h.
    let l = c.loop-turn in
    sym (halves-none says (TURNS - l.turn) l.lo l.hi (l.invariant.1 says h) (TURNS - (l.turn + 1)) (omega arith) (omega arith))

pub returns-in-Stop : goal.returns-in-Stop
returns-in-Stop g c = λ says h.
    let l = c.loop-turn in
    let i = l.invariant.0 in
    sym
    (halves-stop says (TURNS - l.turn) l.lo l.hi (l.invariant.1 says h) (TURNS - (l.turn + 1)) (omega arith)
    c.if-hi-lo.false (h _ _ (omega arith) c.ask.ensures) c.in-Stop.is)

pub loop-turn-preserved : goal.loop-turn-preserved
loop-turn-preserved g c =
    let l = c.loop-turn in
    let i = l.invariant.0 in
    elim c.match-ask.branch [
      | in-Left w ↦ rw (w.lo-is, w.hi-is) (
        omega arith,
        λ says h. halves-left says (TURNS - l.turn) l.lo l.hi (l.invariant.1 says h) (TURNS - (l.turn + 1)) (omega arith)
            c.if-hi-lo.false (h _ _ (omega arith) c.ask.ensures) w.in-Left.is,
      )
      | in-Right w ↦ rw (w.lo-is, w.hi-is) (
        i,
        λ says h. halves-right says (TURNS - l.turn) l.lo l.hi (l.invariant.1 says h) (TURNS - (l.turn + 1)) (omega arith)
            c.if-hi-lo.false (h _ _ (omega arith) c.ask.ensures) w.in-Right.is,
      )
    ]

pub returns : goal.returns
returns g c = λ says h. sym (halves-over says (TURNS - c.loop-turn.turn) c.loop-turn.lo c.loop-turn.hi (c.loop-turn.invariant.1 says h) (omega arith))
