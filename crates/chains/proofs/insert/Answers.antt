use native.Mathlib.Numerals.{add-one}
use Rattle.chains.proofs.Laws.{chained}
use Rattle.chains.proofs.insert.Goals as goal

pub returns-clause-chained_2 : goal.returns-clause-chained_2
returns-clause-chained_2 c =
    let p = c.requires in
    let e = c.bucket-b.ensures in
    rw (add-one, e.0) (chained _ _ _ _ _ p.chained p.n_in_bounds.0 p.n_in_bounds.1 (rw e.0 at e.1))
