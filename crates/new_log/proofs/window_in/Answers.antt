use Prim.Native.Nat.{ℕ}
use mathlib.Core.Path.{sym, ap, ◌∙◌}
use mathlib.Core.Bool.{◌&&◌}
use lib.Dec.{eqb}
use lib.ListN.{length-replicate}
use Rattle.sectors.specs.Logged.{in_below}
use Rattle.log_versions.specs.Versions.{is_logged, logged}
use Rattle.new_log.proofs.Counts.{no_bits}
use Rattle.new_log.proofs.Ins.{bits_in}
use Rattle.new_log.proofs.window_in.Goals as goal

pub returns : goal.returns
returns c =
    let at-differ-window = c in
    let s = at-differ-window in
    let h = s.args.hive.now in
    let l = s.args.log.now in
    bits_in h l s.args.base 16384 at-differ-window.differ_window.ensures (length-replicate {A = ℕ} 16384 0) (no_bits 16384)
    ∙ ap (λ (n : ℕ). in_below (is_logged l) (logged l) s.args.base h && eqb n 0) (sym c.bits_before.ensures)
