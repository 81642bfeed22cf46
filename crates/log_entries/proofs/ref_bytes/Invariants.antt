use Rattle.log_entries.specs.Entries.{ref_bytes}
use Prim.Native.Nat.{◌*◌, ◌≤◌}
use mathlib.Core.Path.{◌≡◌}
use Rattle.log_entries.proofs.ref_bytes.Given as goal

abbrev pub invariant-loop-i : goal.invariant-loop-i
invariant-loop-i l = (l.sum ≡ ref_bytes l.log l.at l.i) × (l.sum ≤ 4294967295 * l.i)
