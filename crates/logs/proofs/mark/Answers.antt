use native.Mathlib.Omega.{arith}
use Rattle.logs.specs.Logs.{read_of, log_fault}
use Rattle.old_log.proofs.Facts.{head_of}
use Rattle.logs.proofs.mark.Goals as goal

pub mark-requires-clause-log_value : goal.mark-requires-clause-log_value
unfolding read_of log_fault
mark-requires-clause-log_value c = grind (arith, head_of)
