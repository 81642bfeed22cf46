use Prim.Native.Nat.{ℕ}
use mathlib.Core.Path.{ap, ◌∙◌}
use lib.ListN.{get_or}
use Rattle.chains.proofs.Laws.{find-whole, found-whole}
use Rattle.chains.proofs.find.Goals as goal

pub find_from-requires-clause-on_chain : goal.find_from-requires-clause-on_chain
find_from-requires-clause-on_chain c =
    let e = c.bucket.ensures in
    find-whole _ _ _ _ _ _ c.requires (rw e.0 at e.1) (ap (λ (k : ℕ). get_or c.args.heads.now k 0) e.0)

pub returns : goal.returns
returns c =
    let e = c.bucket.ensures in
    c.find_from.ensures ∙ found-whole _ _ _ _ _ _ c.requires (rw e.0 at e.1) (ap (λ (k : ℕ). get_or c.args.heads.now k 0) e.0)
