use Rattle.layout.specs.Layout.{parts_n, row_bytes}
use Rattle.values.specs.Segments.{segments_for}
use lib.Seq.{sets}
use lib.ListN.{length}
use mathlib.Core.Path.{◌≡◌}
use Prim.Native.Nat.{◌≤◌, ◌-◌}
use Rattle.build_cells.proofs.put_segments.Given as goal

abbrev pub invariant-loop-i : goal.invariant-loop-i
invariant-loop-i l =
    (l.n ≡ length l.body) × (l.i ≤ segments_for (length l.body)) × (length l.out ≡ length l.initial.out) × (l.out ≡ sets l.initial.out l.at (row_bytes (parts_n l.i l.body)))

abbrev pub decreases-loop-i : goal.decreases-loop-i
decreases-loop-i l = segments_for (length l.body) - l.i
