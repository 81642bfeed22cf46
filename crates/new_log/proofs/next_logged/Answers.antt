use Prim.Native.Nat.{◌+◌, ◌/◌}
use native.Mathlib.Omega.{arith}
use mathlib.Core.Path.{sym, ap, ◌∙◌}
use Rattle.log_entries.specs.declared.Chain.{Chain}
use Rattle.new_log.proofs.Counts.{further, ended}
use Rattle.new_log.proofs.next_logged.Goals as goal

pub loop-base-preserved : goal.loop-base-preserved
loop-base-preserved c =
    let k = c.loop-base in
    (omega (arith, k.invariant.0), further c.args.log.now c.args.from k.base k.invariant.0 k.invariant.1 131072 (sym c.window_next.ensures ∙ c.in_default.is))

-- from past the last page
pub returns : goal.returns
returns c =
    let k = c.loop-base in
    ended c.args.log.now c.args.from k.base k.invariant.0 k.invariant.1 (omega (arith, ap (λ (x : Chain). x.largest / 512) c.requires))

-- past the last window
pub returns-in_default : goal.returns-in_default
returns-in_default c =
    let k = c.loop-base in
    let l = c.args.log.now in
    ended l c.args.from (k.base + 131072) (omega (arith, k.invariant.0))
    (further l c.args.from k.base k.invariant.0 k.invariant.1 131072 (sym c.window_next.ensures ∙ c.in_default.is))
    (omega (arith, ap (λ (x : Chain). x.largest / 512) c.requires))
