use Rattle.cells.specs.Rule.{rule_of, lent}
use Rattle.std.proofs.Common.{◌≡◌, drop}
use Rattle.fields.specs.Faults.{fault_over}
use Rattle.values.specs.Entries.{entries_of}
use Rattle.values.specs.Lists.{whole_value_fault}
use Rattle.values.proofs.each_value_flaw.Given as goal

abbrev pub invariant-loop-i : goal.invariant-loop-i
invariant-loop-i l =
    fault_over (whole_value_fault (rule_of l.map) l.bins (lent l.map) l.minor) (entries_of l.bins l.e)
    ≡ fault_over (whole_value_fault (rule_of l.map) l.bins (lent l.map) l.minor) (drop l.i (entries_of l.bins l.e))
