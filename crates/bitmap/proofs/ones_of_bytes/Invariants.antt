use Rattle.std.proofs.Common.{◌≡◌, ◌+◌, ◌*◌}
use Rattle.bitmap.specs.Bits.{bits_before}
use Rattle.bitmap.proofs.ones_of_bytes.Given as goal

abbrev pub invariant-loop-b : goal.invariant-loop-b
invariant-loop-b l = bits_before l.map (8 * l.from) + l.n ≡ bits_before l.map (8 * (l.from + l.b-index))
