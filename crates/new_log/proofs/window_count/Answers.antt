use Rattle.new_log.specs.Layout.{logged_below}
use Rattle.new_log.proofs.Counts.{no_bits, bits-counted}
use lib.ListN.{length-replicate}
use Prim.Native.Nat.{ℕ, ◌+◌}
use mathlib.Core.Path.{sym, ap, ◌∙◌}
use Rattle.new_log.proofs.window_count.Goals as goal

pub returns : goal.returns
returns c =
    let at-mark-window = c in
    let s = at-mark-window in
    let l = s.args.log.now in
    bits-counted l s.args.base 16384 at-mark-window.mark_window.ensures (length-replicate {A = ℕ} 16384 0) (no_bits 16384)
    ∙ ap (λ (n : ℕ). logged_below l s.args.base + n) (sym c.bits_before.ensures)
