use native.Mathlib.Omega.{arith}
use Rattle.chains.proofs.Laws.{zeros-are}
use Rattle.namesakes.proofs.block.Goals as goal

pub in_block-requires : goal.in_block-requires
in_block-requires c = record {
  names_lie = c.requires.names_lie;
  best_le_count = c.requires.best_le_count;
  empty = record { some = omega arith; none = λ b. zeros-are 4096 b; links = omega arith; few = omega arith };
}

pub returns : goal.returns
returns c =
    c.in_block.ensures
