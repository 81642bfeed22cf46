use mathlib.Core.Path.{sym, ap, ◌∙◌}
use native.Mathlib.Omega.{arith}
use Rattle.fields.specs.declared.Offset.{Offset}
use Prim.Native.Nat.{ℕ}
use Rattle.cells.proofs.Parts.{data-short}
use Rattle.values.proofs.Rooms.{entries_at}
use Rattle.values.proofs.entry.Goals as goal

pub overflow_mul-i : goal.overflow_mul-i
overflow_mul-i c = let a = c.args in let s = data-short a.bins.now a.e.cell in omega arith

pub returns : goal.returns
returns c =
    let a = c.args in
    ap (λ (x : ℕ). let o : Offset = record { 0 = x } in o) c.word_in.ensures ∙ sym (entries_at a.bins.now a.e a.i (omega arith))
