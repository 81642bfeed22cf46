use Rattle.std.proofs.Common.{sym, ◌∙◌, arith}
use Rattle.log_entries.proofs.Tests.{not-apart}
use Rattle.log_entries.proofs.apart_from.Goals as goal

pub returns-then-not-are_apart : goal.returns-then-not-are_apart
returns-then-not-are_apart c =
    sym (not-apart _ _ _ c.args.i c.loop-j.j (omega arith) (sym c.are_apart.ensures ∙ c.if-not-are_apart.true))
