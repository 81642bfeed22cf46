-- How far it is to a first thing, going up by some field: so many steps and no other number.
use Prim.Native.Nat.{ℕ, zero, suc, ◌<◌}
use native.Mathlib.Omega.{arith}
use mathlib.Core.Path.{◌≡◌, refl, sym, ap, ◌∙◌}
use Rattle.fields.specs.declared.Offset.{Offset}

module _ (up : Offset → Offset) where
  unfoldable pub climb : ℕ → Offset → Offset
  climb zero k = k
  climb (suc n) k = climb n (up k)

  pub climb-suc : (n : ℕ) (k : Offset) → climb (suc n) k ≡ up (climb n k)
  unfolding climb
  climb-suc zero k = refl
  climb-suc (suc n) k = climb-suc n (up k)

  module _ (root : Offset) where
    -- n steps up from k stands the root, and on no earlier step
    pub record Depth (k : Offset) (n : ℕ) : Type 0 where
      pub reach : climb n k ≡ root
      pub first : (j : ℕ) → j < n → (climb j k).0 ≡ root.0 → ⊥

    pub depth-unique : (k : Offset) (n e : ℕ) → Depth k n → Depth k e → n ≡ e
    depth-unique k n e p q =
        let below : ¬ (n < e) = λ l. q.first n l (ap (λ (o : Offset). o.0) p.reach) in
        let above : ¬ (e < n) = λ l. p.first e l (ap (λ (o : Offset). o.0) q.reach) in
        omega arith

    pub depth-root : Depth root 0
    unfolding climb
    depth-root = record { reach = refl; first = λ j l. absurd (let z = l in omega arith) }

    -- one step further: k is not the root, and the step up from it leads to at
    pub depth-next : (at k : Offset) (n : ℕ) → up k ≡ at → (k.0 ≡ root.0 → ⊥) → Depth at n → Depth k (suc n)
    unfolding climb
    depth-next at k n above other p = record { reach = ap (climb n) above ∙ p.reach; first = before }
      where
        before : (j : ℕ) → j < suc n → (climb j k).0 ≡ root.0 → ⊥
        before zero l e = other e
        before (suc j) l e = p.first j (omega arith) (ap (λ (o : Offset). (climb j o).0) (sym above) ∙ e)
