use Rattle.std.proofs.Common.{◌≡◌, ◌*◌}
use Rattle.bitmap.specs.Bits.{bits_before}
use Rattle.bitmap.proofs.ones_of_words.Given as goal

abbrev pub invariant-loop-k : goal.invariant-loop-k
invariant-loop-k l = l.n ≡ bits_before l.map (8 * (8 * l.k))
