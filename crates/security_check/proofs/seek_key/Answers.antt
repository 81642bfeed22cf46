use Rattle.std.proofs.Common.{arith}
use Rattle.chains.proofs.Laws.{none_yet, zeros-are}
use Rattle.security_check.proofs.seek_key.Goals as goal

pub count_key-requires : goal.count_key-requires
count_key-requires c =
    record { legible = c.requires; ready = record { chained = none_yet _ _ _ (omega arith) (λ b. zeros-are 1 b); room = omega arith } }

pub returns : goal.returns
returns c =
    c.count_key.ensures.value
