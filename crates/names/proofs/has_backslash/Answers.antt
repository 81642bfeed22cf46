use Prim.Native.Nat.{◌+◌}
use native.Mathlib.Omega.{arith}
use Rattle.names.proofs.LawsCodes.{clear-four, four-last}
use Rattle.names.proofs.has_backslash.Goals.{else-loop-i-test, then-loop-i-test+else-among_four+else-last-i-gt4}
use Rattle.names.proofs.has_backslash.Goals as goal

pub returns : goal.returns
returns c =
    let l = c.loop-i in
    elim c.loop-i-test.branch [
      | else-loop-i-test w ↦ four-last _ l.i _ l.invariant (omega arith) (omega arith) c.among_four-2.ensures
      | then-loop-i-test+else-among_four+else-last-i-gt4 w ↦
          four-last _ (l.i + 4) _ (clear-four _ l.i l.invariant w.if-among_four.false w.among_four.ensures) (omega arith) (omega arith) c.among_four-2.ensures
    ]
