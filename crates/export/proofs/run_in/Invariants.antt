use mathlib.Core.Path.{◌≡◌}
use Prim.Native.Nat.{◌-◌}
use lib.ListN.{length}
use mathlib.Core.Bool.{true}
use mathlib.Core.List.{[]}
use Rattle.cells.specs.Rule.{Header}
use Rattle.records.specs.Keys.{key_fault}
use Rattle.walk.specs.Answers.{key_at}
use Rattle.export.proofs.Turns.{Running}
use Rattle.export.proofs.run_in.Given as goal
use Rattle.std.specs.Prelude.{Ok}

abbrev pub invariant-loop-behind : goal.invariant-loop-behind
invariant-loop-behind l =
    Running l.bins l.minor l.initial.levels l.initial.next l.initial.out l.levels l.next l.out l.at l.frames
    × (l.known ≡ true → key_fault Header l.bins [] (key_at l.levels l.next.depth) ≡ Ok tt)

abbrev pub decreases-loop-behind : goal.decreases-loop-behind
decreases-loop-behind l = length l.initial.out - l.at
