-- What the counts of set bits keep to, and what the next set index is.
use Prim.Native.Nat.{ℕ, zero, suc, ◌+◌, ◌-◌, ◌*◌, ◌/◌, ◌%◌, ◌^◌, ◌≤◌, ◌<◌, zero-le}
use native.Mathlib.Nat.{zero-div, le_refl}
use native.Mathlib.Decide.{le_ind, dec_lt, ℕ_discrete}
use native.Mathlib.Omega.{arith}
use native.Mathlib.Numerals.{add-one}
use mathlib.Core.Path.{◌≡◌, refl, sym, ap, ◌∙◌}
use mathlib.Core.Bool.{Bool, true, false, cond}
use mathlib.Core.List.{List}
use lib.ListN.{length, get_or, get_or-eq_default}
use lib.Dec.{eqb}
use borrow.Author.Tests.{eqb-true, ne_eqb}
use Rattle.bitmap.specs.Bits.{bit, is_marked, bits_before, next_among, next_marked}
use Rattle.std.specs.Prelude.{None, Some}

-- ---- the least index at which a test holds

module _ (is : ℕ → Bool) where
  -- what the answer says: the test holds there, and it is the least such index
  pub record Least (from p : ℕ) : Type 0 where
    pub marked : is p ≡ true
    pub after : from ≤ p
    pub least : (q : ℕ) → from ≤ q → q < p → is q ≡ false

  pub among-least : (n from p : ℕ) → next_among n is from ≡ Some p → Least from p
  unfolding next_among
  among-least zero from p e = absurd (let z : ◌≡◌ {A = ℕ} 0 1 = cc in omega arith)
  among-least (suc n) from p e = by (is from) refl e (among-least n (suc from) p)
    where
      here : is from ≡ false → Least (suc from) p → (q : ℕ) → from ≤ q → q < p → Dec (q ≡ from) → is q ≡ false
      here m k q g h (yes s) = ap is s ∙ m
      here m k q g h (no s) = k.least q (omega arith) h

      by : (b : Bool) → is from ≡ b → cond b (Some from) (next_among n is (suc from)) ≡ Some p
          → (next_among n is (suc from) ≡ Some p → Least (suc from) p) → Least from p
      by true m e r =
          let s : from ≡ p = cc in
          record { marked = ap is (sym s) ∙ m; after = omega arith; least = λ q g h. absurd (omega arith) }
      by false m e r =
          let k = r e in
          record { marked = k.marked; after = omega (arith, k.after); least = λ q g h. here m k q g h (ℕ_discrete q from) }

  -- and where there is none, it holds at none of them
  pub among_none : (n from : ℕ) → next_among n is from ≡ None → (q : ℕ) → from ≤ q → q < from + n → is q ≡ false
  unfolding next_among
  among_none zero from e q g h = absurd (omega arith)
  among_none (suc n) from e q g h = by (is from) refl e (λ k. among_none n (suc from) k q) (ℕ_discrete q from)
    where
      by : (b : Bool) → is from ≡ b → cond b (Some from) (next_among n is (suc from)) ≡ None
          → (next_among n is (suc from) ≡ None → suc from ≤ q → q < suc from + n → is q ≡ false)
          → Dec (q ≡ from) → is q ≡ false
      by true m e r d = absurd (let z : ◌≡◌ {A = ℕ} 0 1 = cc in omega arith)
      by false m e r (yes s) = ap is s ∙ m
      by false m e r (no s) = r e (omega arith) (omega arith)

  -- and the answers that these facts give
  pub among-at : (n from p : ℕ) → Least from p → p < from + n → next_among n is from ≡ Some p
  unfolding next_among
  among-at zero from p k g = absurd (omega (arith, k.after))
  among-at (suc n) from p k g = by (ℕ_discrete from p) (among-at n (suc from) p)
    where
      by : Dec (from ≡ p) → (Least (suc from) p → p < suc from + n → next_among n is (suc from) ≡ Some p)
          → cond (is from) (Some from) (next_among n is (suc from)) ≡ Some p
      by (yes e) on = ap (λ (b : Bool). cond b (Some from) (next_among n is (suc from))) (ap is e ∙ k.marked) ∙ ap Some e
      by (no e) on =
          let a = k.after in
          ap (λ (b : Bool). cond b (Some from) (next_among n is (suc from))) (k.least from (omega arith) (omega arith))
          ∙ on (record { marked = k.marked; after = omega arith; least = λ q g h. k.least q (omega arith) h }) (omega arith)

  pub among-nothing : (n from : ℕ) → ((q : ℕ) → from ≤ q → q < from + n → is q ≡ false) → next_among n is from ≡ None
  unfolding next_among
  among-nothing zero from f = refl
  among-nothing (suc n) from f =
      ap (λ (b : Bool). cond b (Some from) (next_among n is (suc from))) (f from (omega arith) (omega arith))
      ∙ among-nothing n (suc from) (λ q g h. f q (omega arith) (omega arith))

-- ---- bits

module _ (map : List ℕ) where
  -- at most p of the bits before index p are set
  pub before-le : (p : ℕ) → bits_before map p ≤ p
  unfolding bits_before
  before-le zero = zero-le
  before-le (suc p) = omega (arith, before-le p)

  pub before-mono : (p q : ℕ) → p ≤ q → bits_before map p ≤ bits_before map q
  unfolding bits_before
  before-mono p q h = le_ind (λ (m : ℕ). bits_before map p ≤ bits_before map m) (le_refl (bits_before map p)) (λ m k e. omega arith) q h

  -- a set bit adds one
  before-marked : (p : ℕ) → is_marked map p ≡ true → bits_before map (suc p) ≡ bits_before map p + 1
  unfolding bits_before
  before-marked p e = ap (λ (n : ℕ). bits_before map p + n) (eqb-true (bit map p) 1 e)

  -- so it is counted before every later index
  pub before-later : (p q : ℕ) → is_marked map p ≡ true → p < q → bits_before map p + 1 ≤ bits_before map q
  before-later p q e h = omega (arith, before-marked p e, before-mono (suc p) q h)

  -- past the map's end nothing is marked
  pub bit_past : (p : ℕ) → length map ≤ p / 8 → bit map p ≡ 0
  bit_past p h =
      ap (λ (x : ℕ). x / 2 ^ (p % 8) % 2) (get_or-eq_default map 0 h) ∙ ap (λ (x : ℕ). x % 2) (zero-div (2 ^ (p % 8)))

  pub marked-inside : (p : ℕ) → is_marked map p ≡ true → p < 8 * length map
  marked-inside p e = go (dec_lt p (8 * length map))
    where
      go : Dec (p < 8 * length map) → p < 8 * length map
      go (yes g) = g
      go (no g) =
          let z : bit map p ≡ 0 = bit_past p (omega arith) in
          let bad : ◌≡◌ {A = ℕ} 0 1 = sym z ∙ eqb-true (bit map p) 1 e in
          omega arith

  -- ---- the next set index

  -- one more bit is left where p is inside the map
  left : (p : ℕ) → p < 8 * length map → 8 * length map - p ≡ suc (8 * length map - suc p)
  left p h = omega arith

  pub next_here : (p : ℕ) → p < 8 * length map → is_marked map p ≡ true → next_marked map p ≡ Some p
  unfolding next_among
  next_here p h e = rw (left p h, e)

  pub next_on : (p : ℕ) → p < 8 * length map → is_marked map p ≡ false → next_marked map p ≡ next_marked map (suc p)
  unfolding next_among
  next_on p h e = ap (λ (n : ℕ). next_among n (is_marked map) p) (left p h) ∙ ap (λ (b : Bool). cond b (Some p) (next_marked map (suc p))) e

  pub next_more : (p : ℕ) → p < 8 * length map → is_marked map p ≡ false → next_marked map p ≡ next_marked map (p + 1)
  next_more p h e = rw add-one (next_on p h e)

  pub next_end : (p : ℕ) → 8 * length map ≤ p → next_marked map p ≡ None
  unfolding next_among
  next_end p h = let e : 8 * length map - p ≡ 0 = omega arith in ap (λ (n : ℕ). next_among n (is_marked map) p) e

  -- over bits that are not set, and over what is left of a byte that has none
  next-over : (k p : ℕ) → p + k ≤ 8 * length map → ((q : ℕ) → p ≤ q → q < p + k → is_marked map q ≡ false) → next_marked map p ≡ next_marked map (p + k)
  next-over zero p h f = ap (next_marked map) (let e : p ≡ p + 0 = omega arith in e)
  next-over (suc k) p h f =
      let e : suc p + k ≡ p + suc k = omega arith in
      next_on p (omega arith) (f p (omega arith) (omega arith)) ∙ next-over k (suc p) (omega arith) (λ q a b. f q (omega arith) (omega arith)) ∙ ap (next_marked map) e

  zero-unset : (q : ℕ) → get_or map (q / 8) 0 ≡ 0 → is_marked map q ≡ false
  zero-unset q e = ne_eqb (bit map q) 1 (λ o. let z : bit map q ≡ 0 = rw (e, zero-div (2 ^ (q % 8))) in omega arith)

  pub next_byte : (p : ℕ) → p / 8 < length map → get_or map (p / 8) 0 ≡ 0 → next_marked map p ≡ next_marked map (8 * (p / 8) + 8)
  next_byte p h e =
      let end : p + (8 * (p / 8) + 8 - p) ≡ 8 * (p / 8) + 8 = omega arith in
      next-over (8 * (p / 8) + 8 - p) p (omega arith)
      (λ q a b. let s : q / 8 ≡ p / 8 = omega arith in zero-unset q (ap (λ (j : ℕ). get_or map j 0) s ∙ e))
      ∙ ap (next_marked map) end

  pub next-least : (from p : ℕ) → next_marked map from ≡ Some p → Least (is_marked map) from p
  next-least from p e = among-least (is_marked map) (8 * length map - from) from p e

  -- and where there is none, no bit from there on is set
  pub next-none : (from : ℕ) → next_marked map from ≡ None → (q : ℕ) → from ≤ q → is_marked map q ≡ false
  next-none from e q g = go (dec_lt q (8 * length map))
    where
      go : Dec (q < 8 * length map) → is_marked map q ≡ false
      go (yes h) = among_none (is_marked map) (8 * length map - from) from e q g (omega arith)
      go (no h) = ap (λ (n : ℕ). eqb n 1) (bit_past q (omega arith))
