use Rattle.stream.proofs.Puts.{part-put}
use borrow.Rule.Slice.PartMut.{Post-is}
use lib.ListN.{length, take}
use Prim.Native.Nat.{ℕ, ◌+◌}
use mathlib.Core.List.{List, ◌++◌}
use native.Mathlib.Omega.{arith}
use mathlib.Core.Path.{ap₂, ◌∙◌}
use Rattle.build_cells.proofs.put_copy.Goals as goal

pub returns : goal.returns
returns c =
    let a = c.args in
    let out = a.out.now in
    let n = length a.body.now in
    ap₂ (λ (ys zs : List ℕ). take a.at out ++ (ys ++ zs)) c.copy_all.ensures (Post-is a.at (a.at + n) out (omega arith))
    ∙ part-put out a.body.now a.at (a.at + n) (omega arith) (omega arith)
