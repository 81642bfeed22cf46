use Rattle.log_entries.proofs.Pass.{Passed}
use Prim.Native.Nat.{◌-◌}
use lib.ListN.{length}
use Rattle.log_entries.proofs.chain_of.Given as goal

abbrev pub invariant-loop-chain : goal.invariant-loop-chain
invariant-loop-chain l = Passed l.log l.n l.chain

abbrev pub decreases-loop-chain : goal.decreases-loop-chain
decreases-loop-chain l = length l.log - l.chain.end
