use Rattle.std.proofs.Common.{◌≡◌}
use Rattle.base.specs.Block.{xors}
use Rattle.base.proofs.xor_of.Given as goal

abbrev pub invariant-loop-k : goal.invariant-loop-k
invariant-loop-k l = l.sum ≡ xors l.s l.k
