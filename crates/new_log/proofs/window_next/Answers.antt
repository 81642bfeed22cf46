use Prim.Native.Nat.{ℕ, ◌/◌, ◌<◌, ◌+◌, ◌*◌}
use native.Mathlib.Omega.{arith}
use mathlib.Core.Path.{◌≡◌, sym, ap, ◌∙◌}
use lib.ListN.{length-replicate}
use Rattle.std.specs.Prelude.{Some}
use Rattle.bitmap.specs.Bits.{next_among}
use Rattle.log_entries.specs.declared.Chain.{Chain}
use Rattle.log_versions.specs.Versions.{is_logged}
use Rattle.new_log.proofs.Counts.{no_bits, next-at, next-nothing}
use Rattle.new_log.proofs.window_next.Goals.{In_ok-k}
use Rattle.new_log.proofs.window_next.Goals as goal

-- the page that is found
at : (c : In_ok-k) → (c.in_ok-k.k < 8 * 16384) × (next_among (8 * 16384) (is_logged c.args.log.now) c.args.base ≡ Some (c.args.base + c.in_ok-k.k))
at c =
    next-at c.args.log.now c.args.base 16384 c.mark_window.ensures (length-replicate {A = ℕ} 16384 0) (no_bits 16384) _
    (sym c.next_marked.ensures ∙ c.in_ok-k.was)

pub returns-in_err-k : goal.returns-in_err-k
returns-in_err-k c =
    c.from_residual.ensures
    ∙ sym
    (next-nothing c.args.log.now c.args.base 16384 c.mark_window.ensures (length-replicate {A = ℕ} 16384 0) (no_bits 16384)
    (sym c.next_marked.ensures ∙ c.in_err-k.was))

pub overflow_add-result : goal.overflow_add-result
overflow_add-result c =
    omega
    (arith, (at (goal.at.overflow_add-result c).In_ok-k).0, c.requires.base_bound, ap (λ (e : Chain). e.largest / 512) c.requires.chain_value)

pub returns : goal.returns
returns c = sym (at c).1
