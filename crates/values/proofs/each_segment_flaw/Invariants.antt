use Rattle.cells.specs.Rule.{rule_of, lent}
use Rattle.std.proofs.Common.{◌≡◌, ◌-◌}
use Rattle.cells.specs.Named.{data_at}
use Rattle.fields.specs.Faults.{fault_over}
use Rattle.values.specs.Segments.{segment_fault, segments_from, segments_in}
use Rattle.values.proofs.each_segment_flaw.Given as goal

abbrev pub invariant-loop-i : goal.invariant-loop-i
invariant-loop-i l =
    fault_over (segment_fault (rule_of l.map) l.bins (lent l.map)) (segments_in l.bins l.e l.size)
    ≡ fault_over (segment_fault (rule_of l.map) l.bins (lent l.map)) (segments_from (data_at l.bins l.e.cell) l.i l.left (l.e.count - l.i))
