-- A bit that is turned over, set or cleared; and the map that has the bits set at which a test holds.
use Prim.Native.Nat.{ℕ, zero, suc, ◌*◌, ◌/◌, ◌%◌, ◌^◌, ◌<◌, max}
use native.Mathlib.Nat.{div-eq_of_lt, div-one, pow-suc, mul-mod_left, mul-div-mul_right, one-mul}
use native.Mathlib.Omega.{arith}
use mathlib.Core.Path.{◌≡◌, refl, sym, ap, ◌∙◌}
use mathlib.Core.List.{List}
use mathlib.Core.Bool.{Bool, true, false, cond, not}
use lib.Dec.{eqb, eqb-zero-suc, eqb-suc-zero, eqb-suc-suc, lit<}
use lib.ListN.{length, get_or, set, length-set}
use lib.Seq.{get_or-set_same, get_or-set_other}
use lib.Bits.{bit_or, bit_xor, differ, or_step, or_shr, xor_step, xor_shr}
use lib.Arith.{digits_mod}
use lib.Pow.{pow-lt, shl_exact}
use borrow.Author.Tests.{eq-eqb, ne_eqb, eqb-true, eqb-false}
use Rattle.bitmap.specs.Bits.{bit, is_marked, turned, with_bit}

-- ---- digits

-- the code's 1 << b
pub shifted : (b : ℕ) → b < 8 → 1 * 2 ^ b % 256 ≡ 2 ^ b
shifted b h = shl_exact {a = 1} 1 b 8 (omega arith) (omega arith) ∙ one-mul (2 ^ b)

abbrev pub flag : Bool → ℕ
flag b = cond b 1 0

-- a bit of a power
pub pow-bit : (b i : ℕ) → 2 ^ b / 2 ^ i % 2 ≡ flag (eqb b i)
pow-bit zero zero = refl
pow-bit zero (suc i) = rw (div-eq_of_lt (pow-lt {i = 0} {j = suc i} (omega arith)), eqb-zero-suc i)
pow-bit (suc b) zero = rw (div-one (2 ^ suc b), pow-suc 2 b, mul-mod_left (2 ^ b) 2, eqb-suc-zero b)
pow-bit (suc b) (suc i) = rw (pow-suc 2 b, pow-suc 2 i, mul-div-mul_right (2 ^ b) (2 ^ i) (lit< tt), eqb-suc-suc b i) (pow-bit b i)

-- a bit of an or
pub or-bit : (x y i : ℕ) → bit_or x y / 2 ^ i % 2 ≡ max (x / 2 ^ i % 2) (y / 2 ^ i % 2)
or-bit x y i =
    ap (λ (n : ℕ). n % 2) (or_shr x y i ∙ or_step (x / 2 ^ i) (y / 2 ^ i))
    ∙ digits_mod _ {m = 2} (omega arith)

differ-small : (x y : ℕ) → x < 2 → y < 2 → differ x y < 2
differ-small zero y a b = b
differ-small (suc zero) zero a b = lit< tt
differ-small (suc zero) (suc zero) a b = lit< tt
differ-small (suc zero) (suc (suc y)) a b = absurd (omega arith)
differ-small (suc (suc x)) y a b = absurd (omega arith)

xor-bit : (x y i : ℕ) → bit_xor x y / 2 ^ i % 2 ≡ differ (x / 2 ^ i % 2) (y / 2 ^ i % 2)
xor-bit x y i =
    ap (λ (n : ℕ). n % 2) (xor_shr x y i ∙ xor_step (x / 2 ^ i) (y / 2 ^ i))
    ∙ digits_mod _ {m = 2} (differ-small (x / 2 ^ i % 2) (y / 2 ^ i % 2) (omega arith) (omega arith))

pub eqb-cong : (a b c d : ℕ) → (a ≡ b → c ≡ d) → (c ≡ d → a ≡ b) → eqb a b ≡ eqb c d
eqb-cong a b c d f g = by (eqb a b) refl
  where
    by : (t : Bool) → eqb a b ≡ t → eqb a b ≡ eqb c d
    by true e = e ∙ sym (eq-eqb c d (f (eqb-true a b e)))
    by false e = e ∙ sym (ne_eqb c d (λ q. eqb-false a b e (g q)))

-- ---- one bit

module _ (m : List ℕ) (p : ℕ) (inside : p < 8 * length m) where
  turned_bit : (k : ℕ) → bit (turned m p) k ≡ differ (bit m k) (flag (eqb p k))
  unfolding turned
  turned_bit k = by (eqb (p / 8) (k / 8)) refl
    where
      by : (t : Bool) → eqb (p / 8) (k / 8) ≡ t
          → get_or (set m (p / 8) (bit_xor (get_or m (p / 8) 0) (2 ^ (p % 8)))) (k / 8) 0 / 2 ^ (k % 8) % 2 ≡ differ (bit m k) (flag (eqb p k))
      by true q =
          let j : p / 8 ≡ k / 8 = eqb-true _ _ q in
          let lt : k / 8 < length m = omega arith in
          rw (
            j,
            get_or-set_same m (k / 8) (bit_xor (get_or m (k / 8) 0) (2 ^ (p % 8))) 0 lt,
            xor-bit,
            pow-bit,
            eqb-cong (p % 8) (k % 8) p k (λ h. omega arith) (λ h. omega arith),
          )
      by false q =
          let n = eqb-false (p / 8) (k / 8) q in
          let o : eqb p k ≡ false = ne_eqb p k (λ h. n (ap (λ (x : ℕ). x / 8) h)) in
          rw (get_or-set_other m (p / 8) (k / 8) (bit_xor (get_or m (p / 8) 0) (2 ^ (p % 8))) 0 (λ h. n (sym h)), o) (sym (none (bit m k)))
        where
          none : (x : ℕ) → differ x 0 ≡ x
          none zero = refl
          none (suc x) = refl

  -- every bit but one is as it was, and that one is as it is asked
  pub with-bit : (on : Bool) (k : ℕ) → is_marked (with_bit m p on) k ≡ cond (eqb p k) on (is_marked m k)
  unfolding with_bit
  with-bit on k = by on (is_marked m p) refl (eqb p k) refl
    where
      -- where it is turned
      turn : is_marked (turned m p) k ≡ eqb (differ (bit m k) (flag (eqb p k))) 1
      turn = ap (λ (x : ℕ). eqb x 1) (turned_bit k)

      same : eqb p k ≡ true → is_marked m k ≡ is_marked m p
      same e = ap (is_marked m) (sym (eqb-true p k e))

      flipped : (x : ℕ) → x < 2 → eqb (differ x 1) 1 ≡ not (eqb x 1)
      flipped zero h = refl
      flipped (suc zero) h = refl
      flipped (suc (suc x)) h = absurd (omega arith)

      kept : (x : ℕ) → eqb (differ x 0) 1 ≡ eqb x 1
      kept zero = refl
      kept (suc x) = refl

      at : (t : Bool) → eqb p k ≡ t → is_marked (turned m p) k ≡ cond t (not (is_marked m p)) (is_marked m k)
      at true e =
          turn ∙ ap (λ (b : Bool). eqb (differ (bit m k) (flag b)) 1) e ∙ flipped (bit m k) (omega arith) ∙ ap not (same e)
      at false e = turn ∙ ap (λ (b : Bool). eqb (differ (bit m k) (flag b)) 1) e ∙ kept (bit m k)

      by : (on was : Bool) → is_marked m p ≡ was → (t : Bool) → eqb p k ≡ t
          → is_marked (cond (cond on (not was) was) (turned m p) m) k ≡ cond t on (is_marked m k)
      by true true w true e = same e ∙ w
      by true true w false e = refl
      by true false w true e = at true e ∙ ap not w
      by true false w false e = at false e
      by false true w true e = at true e ∙ ap not w
      by false true w false e = at false e
      by false false w true e = same e ∙ w
      by false false w false e = refl

  pub with-length : (on : Bool) → length (with_bit m p on) ≡ length m
  unfolding with_bit turned
  with-length on = by (cond on (not (is_marked m p)) (is_marked m p))
    where
      by : (t : Bool) → length (cond t (set m (p / 8) (bit_xor (get_or m (p / 8) 0) (2 ^ (p % 8)))) m) ≡ length m
      by true = simp length-set
      by false = refl
