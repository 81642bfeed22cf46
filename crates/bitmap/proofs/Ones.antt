-- The set bits of bytes and words are the ones of the numbers that they make.
use Prim.Native.Nat.{ℕ, zero, suc, min, ◌+◌, ◌*◌, ◌/◌, ◌%◌, ◌^◌, ◌≤◌, ◌<◌}
use native.Mathlib.Nat.{add_comm, add-zero, add-suc, add_assoc, mod-lt, mod-one, mod-eq_of_lt, le_of_suc-le-suc, not-suc-le-zero, le_of_lt}
use native.Mathlib.Numerals.{one-add}
use native.Mathlib.Decide.{le_ind, dec_lt}
use native.Mathlib.Omega.{arith}
use mathlib.Core.Path.{◌≡◌, refl, sym, ap, ap₂, ◌∙◌}
use mathlib.Core.List.{List}
use lib.Count.{ones, ones_cat}
use lib.Dec.{lit<}
use lib.ListN.{length, get_or, take, drop}
use lib.Seq.{get_or-take, get_or-drop}
use lib.Pow.{pow_pos, mod-pow-add}
use Rattle.fields.specs.Number.{u16_at, u32_at, u64_at}
use Rattle.fields.proofs.Numbers.{u16-below, u32-below}
use Rattle.bitmap.specs.Bits.{bits_before}
use Rattle.bitmap.proofs.Laws.{bit_past}
use Rattle.bitmap.proofs.Marks.{shifted}

-- a bit counts itself
ones_bit : (r : ℕ) → r < 2 → ones r ≡ r
unfolding ones
ones_bit zero h = refl
ones_bit (suc zero) h = refl
ones_bit (suc (suc r)) h = absurd (not-suc-le-zero (le_of_suc-le-suc (le_of_suc-le-suc h)))

-- the ones of the lowest k + 1 digits are those of the lowest k, and the digit above them
ones-more : (x k : ℕ) → ones (x % 2 ^ suc k) ≡ ones (x % 2 ^ k) + x / 2 ^ k % 2
ones-more x k =
    ap (λ (e : ℕ). ones (x % 2 ^ e)) (sym (one-add k)) ∙ ap ones (mod-pow-add x 1 k)
    ∙ ones_cat k (x / 2 ^ k % 2 ^ 1) (x % 2 ^ k) (mod-lt x (pow_pos k))
    ∙ add_comm (ones (x / 2 ^ k % 2)) (ones (x % 2 ^ k))
    ∙ ap (λ (n : ℕ). ones (x % 2 ^ k) + n) (ones_bit (x / 2 ^ k % 2) (mod-lt (x / 2 ^ k) (lit< tt)))

-- the digits of b stand above the k digits of a
ones_above : (k a b : ℕ) → a < 2 ^ k → ones (a + b * 2 ^ k) ≡ ones a + ones b
ones_above k a b h = ap ones (add_comm a (b * 2 ^ k)) ∙ ones_cat k b a h ∙ add_comm (ones b) (ones a)

module _ (map : List ℕ) where
  -- the first k bits of byte j
  pub byte-ones : (j k : ℕ) → k ≤ 8 → bits_before map (8 * j + k) ≡ bits_before map (8 * j) + ones (get_or map j 0 % 2 ^ k)
  unfolding bits_before ones
  byte-ones j zero h =
      ap (bits_before map) (add-zero (8 * j))
      ∙ sym (ap (λ (n : ℕ). bits_before map (8 * j) + ones n) (mod-one (get_or map j 0)) ∙ add-zero (bits_before map (8 * j)))
  byte-ones j (suc k) h =
      let p = 8 * j + k in
      let q : p / 8 ≡ j = omega arith in
      let r : p % 8 ≡ k = omega arith in
      ap (bits_before map) (add-suc (8 * j) k)
      ∙ ap₂ ◌+◌ (byte-ones j k (le_of_lt h)) (ap₂ (λ (a b : ℕ). get_or map a 0 / 2 ^ b % 2) q r)
      ∙ add_assoc (bits_before map (8 * j)) (ones (get_or map j 0 % 2 ^ k)) (get_or map j 0 / 2 ^ k % 2)
      ∙ ap (λ (n : ℕ). bits_before map (8 * j) + n) (sym (ones-more (get_or map j 0) k))

  -- from the map's end on nothing is counted
  pub past_end : (p q : ℕ) → 8 * length map ≤ p → p ≤ q → bits_before map q ≡ bits_before map p
  unfolding bits_before
  past_end p q h g = le_ind (λ (m : ℕ). bits_before map m ≡ bits_before map p) refl step q g
    where
      step : (m : ℕ) → p ≤ m → bits_before map m ≡ bits_before map p → bits_before map (suc m) ≡ bits_before map p
      step m k e = omega (arith, e, bit_past map m (omega arith))

  -- the bits of an index's own byte before it, where x is that byte, and past the map's end
  pub own_byte : (p x : ℕ) → x ≡ get_or map (p / 8) 0 → bits_before map (8 * (p / 8)) + ones (x % (1 * 2 ^ (p % 8) % 256)) ≡ bits_before map p
  own_byte p x e =
      let q : 8 * (p / 8) + p % 8 ≡ p = omega arith in
      rw (e, shifted (p % 8) (omega arith)) (sym (byte-ones (p / 8) (p % 8) (omega arith)) ∙ ap (bits_before map) q)

  pub no_byte : (p : ℕ) → length map ≤ p / 8 → bits_before map (8 * (p / 8)) + 0 ≡ bits_before map p
  no_byte p h = add-zero _ ∙ sym (past_end (8 * (p / 8)) p (omega arith) (omega arith))

  pub whole_bytes : (w m : ℕ) → m ≡ min w (length map) → bits_before map (8 * m) ≡ bits_before map (8 * w)
  whole_bytes w m e = go (dec_lt (length map) w)
    where
      go : Dec (length map < w) → bits_before map (8 * m) ≡ bits_before map (8 * w)
      go (yes h) = sym (past_end (8 * m) (8 * w) (omega arith) (omega arith))
      go (no h) = let q : m ≡ w = omega arith in ap (λ (n : ℕ). bits_before map (8 * n)) q

  module _ (bytes : (i : ℕ) → get_or map i 0 < 256) where
    -- the n bytes from j on make the number f j
    abbrev Makes : ℕ → (ℕ → ℕ) → Type 0
    Makes n f = (j : ℕ) → bits_before map (8 * (j + n)) ≡ bits_before map (8 * j) + ones (f j)

    -- so twice as many make two of these numbers, the second above the first
    twice : (n k : ℕ) (f : ℕ → ℕ) → ((j : ℕ) → f j < 2 ^ k) → Makes n f → Makes (n + n) (λ (j : ℕ). f j + f (j + n) * 2 ^ k)
    twice n k f below makes j =
        ap (λ (m : ℕ). bits_before map (8 * m)) (sym (add_assoc j n n)) ∙ makes (j + n)
        ∙ ap (λ (m : ℕ). m + ones (f (j + n))) (makes j)
        ∙ add_assoc (bits_before map (8 * j)) (ones (f j)) (ones (f (j + n)))
        ∙ ap (λ (m : ℕ). bits_before map (8 * j) + m) (sym (ones_above k (f j) (f (j + n)) (below j)))

    pub whole-byte : Makes 1 (λ (j : ℕ). get_or map j 0)
    whole-byte j =
        let e : 8 * (j + 1) ≡ 8 * j + 8 = omega arith in
        ap (bits_before map) e ∙ byte-ones j 8 (lit< tt) ∙ ap (λ (m : ℕ). bits_before map (8 * j) + ones m) (mod-eq_of_lt (bytes j))

    -- eight bytes at once
    pub word_ones : Makes 8 (u64_at map)
    unfolding u64_at u32_at u16_at
    word_ones = twice 4 32 (u32_at map) (u32-below map bytes) (twice 2 16 (u16_at map) (u16-below map bytes) (twice 1 8 (λ (j : ℕ). get_or map j 0) bytes whole-byte))

    -- a word more
    pub word_more : (k n x : ℕ) → n ≡ bits_before map (8 * (8 * k)) → x ≡ u64_at map (8 * k) → n + ones x ≡ bits_before map (8 * (8 * (k + 1)))
    word_more k n x e f =
        let q : 8 * k + 8 ≡ 8 * (k + 1) = omega arith in
        rw (e, f, ← q) (sym (word_ones (8 * k)))

    -- a byte more, of those from a on
    pub byte_more : (a m i n : ℕ) → i < m → bits_before map (8 * a) + n ≡ bits_before map (8 * (a + i))
        → bits_before map (8 * a) + (n + ones (get_or (take m (drop a map)) i 0)) ≡ bits_before map (8 * (a + (i + 1)))
    byte_more a m i n h e =
        let q : a + i + 1 ≡ a + (i + 1) = omega arith in
        rw (get_or-take m (drop a map) i 0 h, get_or-drop a map i 0, ← q) (omega (arith, whole-byte (a + i)))
