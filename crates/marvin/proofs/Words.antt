-- Words that a turn of a loop mixes in at once.
use Prim.Native.Nat.{ℕ, suc, ◌+◌, ◌*◌, ◌≤◌}
use native.Mathlib.Omega.{arith}
use mathlib.Core.Path.{◌≡◌, ap, ◌∙◌}
use mathlib.Core.List.{List, [], ◌∷◌, ◌++◌}
use mathlib.Core.Bool.{cond}
use native.Mathlib.Decide.{ℕ_discrete}
use native.Mathlib.Numerals.{add-one}
use lib.Dec.{eqb}
use lib.ListN.{length, get_or, length-append, get_or-eq_default}
use lib.Seq.{get_or-append-add}
use borrow.Author.Tests.{eq-eqb, ne_eqb}
use Rattle.std.specs.Int.{w32, from_le_bytes}
use Rattle.fields.specs.Number.{u16_at, u32_at}
use Rattle.marvin.specs.declared.Marvin.{Marvin}
use Rattle.marvin.specs.Hash.{mixed, after_words}
use Rattle.marvin.specs.Terms.{four_mixed}

-- a byte of the message, and what stands behind it
pub padded : (m : List ℕ) (i : ℕ) → length m ≤ i → get_or (m ++ (128 ∷ [])) i 0 ≡ cond (eqb i (length m)) 128 0
padded m i h = go (ℕ_discrete i (length m))
  where
    go : Dec (i ≡ length m) → get_or (m ++ (128 ∷ [])) i 0 ≡ cond (eqb i (length m)) 128 0
    go (yes e) =
        let z : i ≡ length m + 0 = omega arith in
        rw (eq-eqb i (length m) e, z) (get_or-append-add m (128 ∷ []) 0 0)
    go (no e) = rw (ne_eqb i (length m) e) (get_or-eq_default (m ++ (128 ∷ [])) 0 (simp length-append (omega arith)))

-- a word of a message, by its bytes
pub word_of : (m : List ℕ) (at a b c d : ℕ) → a ≡ get_or m at 0 → b ≡ get_or m (at + 1) 0 → c ≡ get_or m (at + 2) 0 → d ≡ get_or m (at + 3) 0
    → from_le_bytes w32 (a ∷ b ∷ c ∷ d ∷ []) ≡ u32_at m at
unfolding u32_at u16_at
word_of m at a b c d p q r t = rw (p, q, r, t) (let e : at + 2 + 1 ≡ at + 3 = omega arith in omega (arith, ap (λ (i : ℕ). get_or m i 0) e))

module _ (s : Marvin) (m : List ℕ) where
  pub after_one : (n : ℕ) {t : Marvin} → t ≡ after_words s m n → mixed t (u32_at m (4 * n)) ≡ after_words s m (n + 1)
  unfolding after_words
  after_one n e = rw (add-one, e)

  pub after_four : (n i : ℕ) → i ≡ 4 * n → four_mixed (after_words s m n) m i ≡ after_words s m (n + 4)
  unfolding after_words
  after_four n i e =
      let a : i + 4 ≡ 4 * suc n = omega arith in
      let b : i + 8 ≡ 4 * suc (suc n) = omega arith in
      let c : i + 12 ≡ 4 * suc (suc (suc n)) = omega arith in
      let f : n + 4 ≡ suc (suc (suc (suc n))) = omega arith in
      rw (f, a, b, c, e)

  -- eight, of which the turn's state is the one before
  pub after_eight : (k : ℕ) {s₁ s₂ s₃ : Marvin} → s₁ ≡ after_words s m (8 * k) → s₂ ≡ four_mixed s₁ m (32 * k) → s₃ ≡ four_mixed s₂ m (32 * k + 16)
      → s₃ ≡ after_words s m (8 * (k + 1))
  after_eight k p q r =
      let e : 32 * k ≡ 4 * (8 * k) = omega arith in
      let f : 32 * k + 16 ≡ 4 * (8 * k + 4) = omega arith in
      let g : 8 * k + 4 + 4 ≡ 8 * (k + 1) = omega arith in
      r ∙ ap (λ (x : Marvin). four_mixed x m (32 * k + 16)) (q ∙ ap (λ (x : Marvin). four_mixed x m (32 * k)) p ∙ after_four (8 * k) (32 * k) e)
      ∙ after_four (8 * k + 4) (32 * k + 16) f ∙ ap (after_words s m) g
