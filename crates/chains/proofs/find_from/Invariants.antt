use mathlib.Core.Path.{◌≡◌}
use Rattle.chains.specs.Chains.{find_in, OnChain}
use Rattle.chains.proofs.find_from.Given as goal

abbrev pub invariant-loop-q : goal.invariant-loop-q
invariant-loop-q l = OnChain l.keys l.buckets l.n l.x l.q × (find_in l.keys l.x l.p ≡ find_in l.keys l.x l.q)

abbrev pub decreases-loop-q : goal.decreases-loop-q
decreases-loop-q l = l.q
