use native.Mathlib.Omega.{arith}
use Rattle.logs.specs.Logs.{read_of, log_bins}
use Rattle.logs.proofs.Laws.{head_of, bins-sized}
use Rattle.logs.proofs.bins_size.Goals as goal

pub returns-in-New : goal.returns-in-New
unfolding read_of log_bins
returns-in-New c =
    let b = (bins-sized _ (head_of _ c.requires.log_value)).limit in grind arith
