use Prim.Native.Nat.{ℕ}
use mathlib.Core.List.{List}
use mathlib.Core.Path.{◌≡◌, sym, ◌∙◌}
use Rattle.chains.specs.Chains.{find_in}
use Rattle.chains.proofs.Laws.{find-here, find-on, chain-on, chain-falls}
use Rattle.chains.proofs.find_from.Goals as goal

none : (ks : List ℕ) (x : ℕ) {q : ℕ} → q ≡ 0 → find_in ks x q ≡ 0
unfolding find_in
none ks x e = rw e

pub returns-then-keys-q : goal.returns-then-keys-q
returns-then-keys-q c =
    let o = c.loop-q in
    sym (o.invariant.1 ∙ find-here _ _ _ _ _ c.requires.linked o.q c.loop-q-test.true c.if-keys-q.true)

pub loop-q-smaller : goal.loop-q-smaller
loop-q-smaller c =
    let o = c.loop-q in
    chain-falls _ _ _ _ _ c.requires.linked o.q o.invariant.0 c.loop-q-test.true

pub loop-q-preserved : goal.loop-q-preserved
loop-q-preserved c =
    let o = c.loop-q in
    let l = c.requires.linked in
    let f = c.loop-q-test.true in
    (chain-on _ _ _ _ _ l o.q o.invariant.0 f, o.invariant.1 ∙ find-on _ _ _ _ _ l o.q o.invariant.0 f c.if-keys-q.false)

pub returns : goal.returns
returns c = let o = c.loop-q in sym (o.invariant.1 ∙ none _ _ c.loop-q-test.false)
