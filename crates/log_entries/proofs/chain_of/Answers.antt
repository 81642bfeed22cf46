use Rattle.log_entries.proofs.Pass.{none_passed, last-passed, whole, one-passed}
use Rattle.log_entries.specs.declared.Chain.{Chain}
use Rattle.log_entries.specs.Entries.{grown}
use native.Mathlib.Omega.{arith}
use Prim.Native.Nat.{ℕ}
use mathlib.Core.Path.{sym, ap, ◌∙◌}
use Rattle.log_entries.proofs.chain_of.Goals as goal

pub loop-chain-init : goal.loop-chain-init
loop-chain-init c =
    none_passed _ _ (omega arith) (omega arith) (c.from-n.ensures ∙ c.u32_at.ensures)

pub is_entry-requires : goal.is_entry-requires
is_entry-requires c =
    c.loop-chain.invariant.inside

pub grown-chain-requires : goal.grown-chain-requires
grown-chain-requires c =
    let k = c in
    record { whole = whole _ _ _ k.loop-chain.invariant (sym c.is_entry.ensures ∙ c.loop-chain-test.true); entries_in_bounds = omega (arith, k.loop-chain.invariant.many, k.loop-chain.invariant.inside) }

pub overflow_add-n : goal.overflow_add-n
overflow_add-n c =
    omega (arith, c.loop-chain.invariant.number)

pub loop-chain-smaller : goal.loop-chain-smaller
unfolding grown
loop-chain-smaller c =
    let k = c in
    let w = whole _ _ _ k.loop-chain.invariant (sym c.is_entry.ensures ∙ c.loop-chain-test.true) in
    omega (arith, ap (λ (d : Chain). d.end) c.grown-chain.ensures, w.least, w.inside)

pub loop-chain-preserved : goal.loop-chain-preserved
loop-chain-preserved c =
    let k = c in
    one-passed _ _ _ k.loop-chain.invariant (sym c.is_entry.ensures ∙ c.loop-chain-test.true)
    (λ (i : ℕ). (k.type_inv.log i).fits) c.grown-chain.result c.grown-chain.ensures

pub returns : goal.returns
returns c = last-passed _ _ _ c.loop-chain.invariant (sym c.is_entry.ensures ∙ c.loop-chain-test.false)
