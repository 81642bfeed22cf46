-- Sums of sizes that stop one above the largest bins size.
use Prim.Native.Nat.{ℕ, ◌+◌, ◌≤◌, ◌<◌}
use native.Mathlib.Omega.{arith}
use mathlib.Core.Path.{◌≡◌, refl, sym, ap, ◌∙◌}
use mathlib.Core.Bool.{Bool, true, false}
use lib.Dec.{leb}
use borrow.Author.Tests.{le-leb, lt-leb, leb-true, leb-false}
use Rattle.std.proofs.Common.{min}
use Rattle.build_measure.specs.Terms.{cap}

pub cap-small : (n : ℕ) → n ≤ 2147479552 → cap n ≡ n
unfolding cap
cap-small n p = rw (le-leb n 2147479552 p)

pub cap-large : (n : ℕ) → 2147479552 < n → cap n ≡ 2147479553
unfolding cap
cap-large n p = rw (lt-leb n 2147479552 p)

pub cap-min : (n : ℕ) → min n 2147479553 ≡ cap n
cap-min n = by (leb n 2147479552) refl
  where
    by : (t : Bool) → leb n 2147479552 ≡ t → min n 2147479553 ≡ cap n
    by true e = let q = leb-true n 2147479552 e in rw (cap-small n q) (omega arith)
    by false e = let q = leb-false n 2147479552 e in rw (cap-large n q) (omega arith)

pub cap-few : (n : ℕ) → cap n ≤ 2147479553
cap-few n = by (leb n 2147479552) refl
  where
    by : (t : Bool) → leb n 2147479552 ≡ t → cap n ≤ 2147479553
    by true e = let q = leb-true n 2147479552 e in rw (cap-small n q) (omega arith)
    by false e = rw (cap-large n (leb-false n 2147479552 e)) (omega arith)

-- a sum that did not stop is told whole, and one that did is past the largest bins size
pub cap-told : (n : ℕ) → cap n ≤ 2147479552 → n ≡ cap n
cap-told n p = by (leb n 2147479552) refl
  where
    by : (t : Bool) → leb n 2147479552 ≡ t → n ≡ cap n
    by true e = sym (cap-small n (leb-true n 2147479552 e))
    by false e = absurd (let q = cap-large n (leb-false n 2147479552 e) in omega (arith, p))

pub cap-past : (n : ℕ) → 2147479552 < cap n → 2147479552 < n
cap-past n p = by (leb n 2147479552) refl
  where
    by : (t : Bool) → leb n 2147479552 ≡ t → 2147479552 < n
    by true e = absurd (let q = cap-small n (leb-true n 2147479552 e) in let l = leb-true n 2147479552 e in omega (arith, p))
    by false e = leb-false n 2147479552 e

-- what stopped once stays there
pub cap-add : (x y : ℕ) → cap (cap x + y) ≡ cap (x + y)
cap-add x y = by (leb x 2147479552) refl
  where
    by : (t : Bool) → leb x 2147479552 ≡ t → cap (cap x + y) ≡ cap (x + y)
    by true e = ap (λ (n : ℕ). cap (n + y)) (cap-small x (leb-true x 2147479552 e))
    by false e =
        let q = leb-false x 2147479552 e in
        ap (λ (n : ℕ). cap (n + y)) (cap-large x q) ∙ cap-large (2147479553 + y) (omega arith) ∙ sym (cap-large (x + y) (omega arith))
