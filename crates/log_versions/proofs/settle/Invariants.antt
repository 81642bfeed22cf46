use mathlib.Core.Path.{◌≡◌}
use Rattle.log_versions.specs.Terms.{rest, steps, Lies}
use Rattle.log_versions.proofs.settle.Given as goal

abbrev pub invariant-loop-c : goal.invariant-loop-c
invariant-loop-c l = (rest l.log l.c ≡ rest l.log l.initial.c) × Lies l.log l.c

abbrev pub decreases-loop-c : goal.decreases-loop-c
decreases-loop-c l = steps l.log l.c
