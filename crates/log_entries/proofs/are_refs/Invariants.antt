use Rattle.log_entries.specs.Entries.{are_refs}
use Rattle.log_entries.specs.Terms.{EndBy}
use mathlib.Core.Bool.{true}
use mathlib.Core.Path.{◌≡◌}
use Rattle.log_entries.proofs.are_refs.Given as goal

abbrev pub invariant-loop-i : goal.invariant-loop-i
invariant-loop-i l = (are_refs l.log l.at l.i ≡ true) × EndBy l.log l.at l.i l.end
