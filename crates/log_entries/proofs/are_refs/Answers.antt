use Rattle.std.proofs.Common.{sym, ◌∙◌, arith}
use Rattle.log_entries.proofs.Tests.{not-placed, overlaps}
use Rattle.log_entries.proofs.are_refs.Goals.{then-not-is_placed-via-then-not-is_placed, then-not-is_placed-via-else-not-is_placed+then-not-is_apart}
use Rattle.log_entries.proofs.are_refs.Goals as goal

pub returns-then-not-is_placed : goal.returns-then-not-is_placed
returns-then-not-is_placed c =
    elim c.then-not-is_placed.branch [
      | then-not-is_placed-via-then-not-is_placed w ↦ sym (not-placed _ _ _ c.loop-i.i (omega arith) (sym c.is_placed.ensures ∙ w.if-not-is_placed.true))
      | then-not-is_placed-via-else-not-is_placed+then-not-is_apart w ↦
          sym (overlaps _ _ _ c.loop-i.i (omega arith) (sym w.is_apart.ensures ∙ w.if-not-is_apart.true))
    ]
