-- Upper case. Only these laws look at the rule; everything else takes `upper` as a name.
use Prim.Native.Nat.{ℕ, suc, ◌-◌, ◌<◌, ◌≤◌}
use native.Mathlib.Omega.{arith}
use mathlib.Core.Path.{◌≡◌, refl, sym, ap, ◌∙◌}
use mathlib.Core.Bool.{Bool, true, false, cond, not, ◌&&◌}
use mathlib.Core.List.{List, [], ◌∷◌}
use lib.Dec.{eqb, leb, ltb, lit<}
use lib.ListN.{length}
use borrow.Author.Tests.{le-leb, lt-leb, ne_eqb, ltb-true, ltb-false, eqb-true, eqb-false}
use Rattle.names.specs.Upper_case.{upper, uppers}

-- the small letters, and the codes between and beside them
module _ (c : ℕ) where
  pub stays-low : c < 97 → upper c ≡ c
  unfolding upper
  stays-low p = rw (lt-leb 97 c p, lt-leb 224 c (omega arith), ne_eqb c 255 (λ e. omega arith))

  pub a-to-z : 97 ≤ c → c ≤ 122 → upper c ≡ c - 32
  unfolding upper
  a-to-z p q = rw (le-leb 97 c p, le-leb c 122 q)

  pub stays-between : 122 < c → c < 224 → upper c ≡ c
  unfolding upper
  stays-between p q = rw (le-leb 97 c (omega arith), lt-leb c 122 p, lt-leb 224 c q, ne_eqb c 255 (λ e. omega arith))

  pub accented : 224 ≤ c → c ≤ 254 → (c ≡ 247 → ⊥) → upper c ≡ c - 32
  unfolding upper
  accented p q n = rw (le-leb 97 c (omega arith), lt-leb c 122 (omega arith), le-leb 224 c p, le-leb c 254 q, ne_eqb c 247 n)

  pub divided : c ≡ 247 → upper c ≡ c
  unfolding upper
  divided e = rw e

  pub y-with-dots : c ≡ 255 → upper c ≡ 376
  unfolding upper
  y-with-dots e = rw e

  pub stays-high : 255 < c → upper c ≡ c
  unfolding upper
  stays-high p =
      rw (le-leb 97 c (omega arith), lt-leb c 122 (omega arith), le-leb 224 c (omega arith), lt-leb c 254 (omega arith), ne_eqb c 255 (λ e. omega arith))

-- the capital of a 16-bit code is one
pub upper_fits : (c : ℕ) → c < 65536 → upper c < 65536
unfolding upper
upper_fits c h = pick (leb 97 c && leb c 122) (leb 224 c && (leb c 254 && not (eqb c 247))) (eqb c 255)
  where
    pick : (t u v : Bool) → cond t (c - 32) (cond u (c - 32) (cond v 376 c)) < 65536
    pick true u v = omega arith
    pick false true v = omega arith
    pick false false true = lit< tt
    pick false false false = h

-- no capital is a small letter
pub upper-upper : (c : ℕ) → upper (upper c) ≡ upper c
upper-upper c =
    below c 97 (λ p. fixed (stays-low c p) (stays-low c p))
    (λ p. below c 123 (λ q. fixed (a-to-z c p (omega arith)) (stays-low (c - 32) (omega arith)))
    (λ q. below c 224 (λ r. fixed (stays-between c q r) (stays-between c q r))
    (λ r. below c 255 (λ s. not_last r s)
    (λ s. below c 256 (λ t. fixed (y-with-dots c (omega arith)) (stays-high 376 (lit< tt))) (λ t. fixed (stays-high c t) (stays-high c t))))))
  where
    fixed : {d : ℕ} → upper c ≡ d → upper d ≡ d → upper (upper c) ≡ upper c
    fixed e f = ap upper e ∙ f ∙ sym e

    below : {P : Type 0} (x y : ℕ) → (x < y → P) → (y ≤ x → P) → P
    below {P} x y lt ge = pick (ltb x y) refl
      where
        pick : (t : Bool) → ltb x y ≡ t → P
        pick true e = lt (ltb-true x y e)
        pick false e = ge (ltb-false x y e)

    not_last : 224 ≤ c → c < 255 → upper (upper c) ≡ upper c
    not_last r s = pick (eqb c 247) refl
      where
        pick : (t : Bool) → eqb c 247 ≡ t → upper (upper c) ≡ upper c
        pick true e = fixed (divided c (eqb-true c 247 e)) (divided c (eqb-true c 247 e))
        pick false e = fixed (accented c r (omega arith) (eqb-false c 247 e)) (stays-between (c - 32) (omega arith) (omega arith))

pub uppers-length : (cs : List ℕ) → length (uppers cs) ≡ length cs
unfolding uppers
uppers-length [] = refl
uppers-length (c ∷ cs) = ap suc (uppers-length cs)
