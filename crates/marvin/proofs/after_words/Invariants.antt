use Rattle.std.proofs.Common.{◌≡◌}
use Rattle.marvin.specs.Hash.{after_words}
use Rattle.marvin.proofs.after_words.Given as goal

abbrev pub invariant-loop-k : goal.invariant-loop-k
invariant-loop-k l = l.s ≡ after_words l.fn.seed l.m l.k
