use mathlib.Core.Path.{◌≡◌}
use lib.ListN.{drop}
use Rattle.names.specs.Codes.{codes}
use Rattle.names.specs.Upper_case.{uppers}
use Rattle.names.specs.Hashing.{mixed_all, hash_of}
use Rattle.names.proofs.hash.Given as goal

-- the hash so far, mixed with what is left, is the whole hash
abbrev pub invariant-loop-i : goal.invariant-loop-i
invariant-loop-i l = hash_of (codes l.narrow l.s) ≡ mixed_all l.h (uppers (drop l.i (codes l.narrow l.s)))
