use native.Mathlib.Omega.{arith}
use mathlib.Core.Path.{ap}
use lib.ListN.{drop}
use lib.Seq.{length-take-le, take_at, drop_at}
use Rattle.base.specs.Block.{sector}
use Rattle.log_entries.specs.declared.Chain.{Chain}
use Rattle.log_entries.proofs.Counted.{bins-sized}
use Rattle.new_log.specs.Tests.{closing_of}
use Rattle.new_log.proofs.Facts.{log-long, some-counted}
use Rattle.new_log.proofs.store_closing.Goals as goal

pub overflow_cast-chain : goal.overflow_cast-chain
overflow_cast-chain c =
    let l = c.args.log.now in
    omega (arith, ap (λ (k : Chain). k.bins) c.requires.chain_value, (bins-sized l (some-counted l c.requires.log_value)).limit)

pub returns : goal.returns
unfolding closing_of
returns c =
    let l = c.args.log.now in
    let y = drop 512 c.args.hive.now in
    let n = length-take-le 512 l (log-long l c.requires.log_value) in
    rw (c.put_number_and_size.ensures, c.store.ensures, take_at (sector l) y 512 n, drop_at (sector l) y 512 n, c.requires.chain_value)
