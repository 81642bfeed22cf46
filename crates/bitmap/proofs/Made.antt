-- The map that has the bits set at which a test holds; no other list of bytes has these bits.
use Prim.Native.Nat.{ℕ, zero, suc, ◌+◌, ◌*◌, ◌/◌, ◌%◌, ◌^◌, ◌≤◌, ◌<◌, max}
use native.Mathlib.Nat.{div-div-eq-div-mul, div-eq_of_lt, div-one, pow-suc, zero-div, zero-max, max-zero}
use native.Mathlib.Decide.{ℕ_discrete}
use native.Mathlib.Omega.{arith}
use mathlib.Core.Path.{◌≡◌, refl, sym, ap, ap₂, ◌∙◌}
use mathlib.Core.List.{List, [], ◌∷◌, ◌++◌}
use mathlib.Core.Bool.{Bool, true, false, cond}
use lib.Dec.{eqb}
use lib.Bits.{or_lt}
use lib.ListN.{length, get_or, length-append, get_or-append}
use lib.Pow.{pow_pos}
use lib.Seq.{ext_get_or, get_or-append-add}
use borrow.Author.Tests.{eqb-true, eqb-false, ne_eqb, eq-eqb}
use Rattle.bitmap.specs.Bits.{bit, is_marked, digits_of, map_of}
use Rattle.bitmap.proofs.Laws.{bit_past}
use Rattle.bitmap.proofs.Marks.{flag, or-bit, pow-bit}

-- ---- digits

-- two numbers of k digits with the same digits
pub same_digits : (k x y : ℕ) → x < 2 ^ k → y < 2 ^ k → ((i : ℕ) → i < k → x / 2 ^ i % 2 ≡ y / 2 ^ i % 2) → x ≡ y
same_digits zero x y a b f = omega (arith, a, b)
same_digits (suc k) x y a b f =
    let lower : x % 2 ≡ y % 2 = ap (λ (n : ℕ). n % 2) (sym (div-one x)) ∙ f 0 (omega arith) ∙ ap (λ (n : ℕ). n % 2) (div-one y) in
    let half : (z : ℕ) → z < 2 ^ suc k → z / 2 < 2 ^ k = λ z h. omega (arith, pow-suc 2 k) in
    let up : (z i : ℕ) → z / 2 / 2 ^ i ≡ z / 2 ^ suc i = λ z i. div-div-eq-div-mul z 2 (2 ^ i) ∙ ap (λ (n : ℕ). z / n) (let e : 2 * 2 ^ i ≡ 2 ^ suc i = omega (arith, pow-suc 2 i) in e) in
    let rest : x / 2 ≡ y / 2 =
    same_digits k (x / 2) (y / 2) (half x a) (half y b)
    (λ i g. ap (λ (n : ℕ). n % 2) (up x i) ∙ f (suc i) (omega arith) ∙ ap (λ (n : ℕ). n % 2) (sym (up y i))) in
    omega arith

module _ (is : ℕ → Bool) where
  module _ (p : ℕ) where
    digits_lt : (k : ℕ) → digits_of is p k < 2 ^ k
    unfolding digits_of
    digits_lt zero = omega arith
    digits_lt (suc k) = or_lt (suc k) (digits_of is p k) (cond (is (p + k)) (2 ^ k) 0) (omega (arith, digits_lt k, pow-suc 2 k)) (by (is (p + k)))
      where
        by : (b : Bool) → cond b (2 ^ k) 0 < 2 ^ suc k
        by true = omega (arith, pow-suc 2 k, pow_pos k)
        by false = pow_pos (suc k)

    digits-bit : (k i : ℕ) → i < k → digits_of is p k / 2 ^ i % 2 ≡ flag (is (p + i))
    unfolding digits_of
    digits-bit zero i g = absurd (omega arith)
    digits-bit (suc k) i g = or-bit (digits_of is p k) (cond (is (p + k)) (2 ^ k) 0) i ∙ by (ℕ_discrete i k) (digits-bit k i)
      where
        one : (b : Bool) → cond b (2 ^ k) 0 / 2 ^ i % 2 ≡ cond b (flag (eqb k i)) 0
        one true = pow-bit k i
        one false = ap (λ (n : ℕ). n % 2) (zero-div (2 ^ i))

        small : (b : Bool) → flag b ≤ 1
        small true = omega arith
        small false = omega arith

        none : digits_of is p k / 2 ^ k % 2 ≡ 0
        none = ap (λ (n : ℕ). n % 2) (div-eq_of_lt (digits_lt k))

        by : Dec (i ≡ k) → (i < k → digits_of is p k / 2 ^ i % 2 ≡ flag (is (p + i)))
            → max (digits_of is p k / 2 ^ i % 2) (cond (is (p + k)) (2 ^ k) 0 / 2 ^ i % 2) ≡ flag (is (p + i))
        by (yes e) on =
            let a : digits_of is p k / 2 ^ i % 2 ≡ 0 = ap (λ (n : ℕ). digits_of is p k / 2 ^ n % 2) e ∙ none in
            let b : cond (is (p + k)) (2 ^ k) 0 / 2 ^ i % 2 ≡ cond (is (p + k)) 1 0 =
            one (is (p + k)) ∙ ap (λ (t : Bool). cond (is (p + k)) (flag t) 0) (eq-eqb k i (sym e)) in
            ap₂ max a b ∙ zero-max (flag (is (p + k))) ∙ ap (λ (n : ℕ). flag (is (p + n))) (sym e)
        by (no e) on =
            let b : cond (is (p + k)) (2 ^ k) 0 / 2 ^ i % 2 ≡ 0 =
            one (is (p + k)) ∙ ap (λ (t : Bool). cond (is (p + k)) (flag t) 0) (ne_eqb k i (λ q. e (sym q))) ∙ zero-all (is (p + k)) in
            ap₂ max (on (omega arith)) b ∙ max-zero (flag (is (p + i)))
          where
            zero-all : (t : Bool) → ◌≡◌ {A = ℕ} (cond t 0 0) 0
            zero-all true = refl
            zero-all false = refl

  -- ---- bytes

  pub map-length : (n : ℕ) → length (map_of is n) ≡ n
  unfolding map_of
  map-length zero = refl
  map-length (suc n) = length-append (map_of is n) (digits_of is (8 * n) 8 ∷ []) ∙ omega (arith, map-length n)

  map-byte : (n j : ℕ) → j < n → get_or (map_of is n) j 0 ≡ digits_of is (8 * j) 8
  unfolding map_of
  map-byte zero j g = absurd (omega arith)
  map-byte (suc n) j g = by (ℕ_discrete j n) (map-byte n j)
    where
      by : Dec (j ≡ n) → (j < n → get_or (map_of is n) j 0 ≡ digits_of is (8 * j) 8) → get_or (map_of is n ++ (digits_of is (8 * n) 8 ∷ [])) j 0 ≡ digits_of is (8 * j) 8
      by (yes e) on =
          ap (λ (i : ℕ). get_or (map_of is n ++ (digits_of is (8 * n) 8 ∷ [])) i 0) (let q : j ≡ length (map_of is n) + 0 = omega (arith, map-length n) in q)
          ∙ get_or-append-add (map_of is n) (digits_of is (8 * n) 8 ∷ []) 0 0
          ∙ ap (λ (i : ℕ). digits_of is (8 * i) 8) (sym e)
      by (no e) on = get_or-append (map_of is n) (digits_of is (8 * n) 8 ∷ []) 0 j (omega (arith, map-length n)) ∙ on (omega arith)

  -- its bits
  pub map-bit : (n k : ℕ) → k < 8 * n → is_marked (map_of is n) k ≡ is k
  map-bit n k g =
      let e : 8 * (k / 8) + k % 8 ≡ k = omega arith in
      ap (λ (b : ℕ). eqb (b / 2 ^ (k % 8) % 2) 1) (map-byte n (k / 8) (omega arith))
      ∙ ap (λ (b : ℕ). eqb b 1) (digits-bit (8 * (k / 8)) 8 (k % 8) (omega arith))
      ∙ by (is (8 * (k / 8) + k % 8)) ∙ ap is e
    where
      by : (b : Bool) → eqb (flag b) 1 ≡ b
      by true = refl
      by false = refl

  pub map-past : (n k : ℕ) → 8 * n ≤ k → is_marked (map_of is n) k ≡ false
  map-past n k g = ap (λ (b : ℕ). eqb b 1) (bit_past (map_of is n) k (omega (arith, map-length n)))

  -- and no other bytes have them
  pub map-only : (m : List ℕ) (n : ℕ) → length m ≡ n → ((i : ℕ) → get_or m i 0 < 256) → ((k : ℕ) → k < 8 * n → is_marked m k ≡ is k) → m ≡ map_of is n
  map-only m n e bytes f = ext_get_or 0 m (map_of is n) (e ∙ sym (map-length n)) each
    where
      each : (j : ℕ) → j < length m → get_or m j 0 ≡ get_or (map_of is n) j 0
      each j g =
          same_digits 8 (get_or m j 0) (digits_of is (8 * j) 8) (bytes j) (digits_lt (8 * j) 8) digit ∙ sym (map-byte n j (omega arith))
        where
          one : (k : ℕ) → is_marked m k ≡ is k → bit m k ≡ flag (is k)
          one k a = go (is k) a
            where
              go : (b : Bool) → is_marked m k ≡ b → bit m k ≡ flag b
              go true a = eqb-true (bit m k) 1 a
              go false a = let z = eqb-false (bit m k) 1 a in omega arith

          digit : (i : ℕ) → i < 8 → get_or m j 0 / 2 ^ i % 2 ≡ digits_of is (8 * j) 8 / 2 ^ i % 2
          digit i h =
              let q : (8 * j + i) / 8 ≡ j = omega arith in
              let r : (8 * j + i) % 8 ≡ i = omega arith in
              sym (ap₂ (λ (a b : ℕ). get_or m a 0 / 2 ^ b % 2) q r) ∙ one (8 * j + i) (f (8 * j + i) (omega (arith, e))) ∙ sym (digits-bit (8 * j) 8 i h)
