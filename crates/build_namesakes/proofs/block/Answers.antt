use native.Mathlib.Omega.{arith}
use Rattle.chains.proofs.Laws.{zeros-are}
use Rattle.build_namesakes.proofs.block.Goals as goal

pub in_block-requires : goal.in_block-requires
in_block-requires c = record {
  row = c.requires;
  empty = (record { some = omega arith; none = λ b. zeros-are 4096 b; links = omega arith; few = omega arith }, omega arith);
}
