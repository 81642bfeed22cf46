use Rattle.std.proofs.Common.{◌≡◌, None, refl, rules}
use Rattle.remnants.proofs.Seeks.{seen, looked-on, unseen}
use Rattle.remnants.proofs.seek.Goals as goal

pub returns-then-is_some : goal.returns-then-is_some
returns-then-is_some c =
    let n : (c.find-hit.result.kind ≡ None → ⊥) = λ e. search rules in
    seen c.loop-at.invariant refl c.find-hit.ensures n

pub loop-at-preserved : goal.loop-at-preserved
loop-at-preserved c =
    let e : c.find-hit.result.kind ≡ None = search rules in
    looked-on c.loop-at.invariant c.find-hit.ensures e c.next_free-next.ensures

pub returns : goal.returns
returns c = unseen c.loop-at.invariant refl c.loop-at-test.false
