-- Numbers and their bytes: what `le16` and `le32` write is what `u16_at` and `u32_at` read, and the other way round.
use Prim.Native.Nat.{ℕ, suc, ◌+◌, ◌*◌, ◌/◌, ◌%◌, ◌≤◌, ◌<◌}
use native.Mathlib.Omega.{arith}
use mathlib.Core.Path.{◌≡◌, refl, sym, ap, ap₂, ◌∙◌}
use mathlib.Core.List.{List, [], ◌∷◌, ◌++◌, append_assoc}
use lib.ListN.{length, get_or, take, drop, set, length-append, length-take, length-drop}
use lib.Seq.{sets, sets-eq, get_or-append-add, get_or-take, get_or-drop, drop-drop, take-add}
use Rattle.std.specs.Int.{w16, w32, to_le_bytes}
use borrow.Rule.Slice.PartMut.{put_mid}
use Rattle.fields.specs.Number.{u16_at, u32_at, le16, le32, le64}

pub length-le16 : (n : ℕ) → length (le16 n) ≡ 2
unfolding le16
length-le16 n = refl

pub length-le32 : (n : ℕ) → length (le32 n) ≡ 4
unfolding le32
length-le32 n =
    let a = length-append (le16 (n % 65536)) (le16 (n / 65536)) in
    let b = length-le16 (n % 65536) in
    let c = length-le16 (n / 65536) in
    omega arith

pub length-le64 : (n : ℕ) → length (le64 n) ≡ 8
unfolding le64
length-le64 n =
    let a = length-append (le32 (n % 0x1_0000_0000)) (le32 (n / 0x1_0000_0000)) in
    let b = length-le32 (n % 0x1_0000_0000) in
    let c = length-le32 (n / 0x1_0000_0000) in
    omega arith

-- bytes that are set one part after the other
pub sets-append : (xs ys l : List ℕ) (i : ℕ) → sets l i (xs ++ ys) ≡ sets (sets l i xs) (i + length xs) ys
sets-append [] ys l i = let e : i + 0 ≡ i = omega arith in rw e
sets-append (x ∷ xs) ys l i =
    let e : suc i + length xs ≡ i + suc (length xs) = omega arith in
    sets-append xs ys (set l i x) (suc i) ∙ ap (λ (n : ℕ). sets (sets (set l i x) (suc i) xs) n ys) e

-- a part that is written over by the bytes of a number, which are std's
put_part : (l ys : List ℕ) (i n : ℕ) → n ≡ length ys → i + n ≤ length l → put_mid i n l ys ≡ sets l i ys
put_part l ys i n e h = rw (e, drop-drop (length ys) i l) (sym (simp append_assoc at (sets-eq ys l i (omega arith))))

pub put_two : (l ys : List ℕ) (i n v : ℕ) → ys ≡ to_le_bytes w16 v → n ≡ 2 → i + 2 ≤ length l → put_mid i n l ys ≡ sets l i (le16 v)
unfolding le16
put_two l ys i n v e m h = rw (e, m) (put_part l (to_le_bytes w16 v) i 2 refl h)

pub put_four : (l ys : List ℕ) (i n v : ℕ) → ys ≡ to_le_bytes w32 v → n ≡ 4 → i + 4 ≤ length l → put_mid i n l ys ≡ sets l i (le32 v)
unfolding le32 le16
put_four l ys i n v e m h =
    let a : v % 65536 % 256 ≡ v % 256 = omega arith in
    let b : v % 65536 / 256 % 256 ≡ v / 256 % 256 = omega arith in
    let c : v / 65536 / 256 % 256 ≡ v / 16777216 % 256 = omega arith in
    rw (e, m, a, b, c) (put_part l (to_le_bytes w32 v) i 4 refl h)

-- a number is read back where its bytes stand
module _ (s : List ℕ) where
  past : (xs : List ℕ) (k : ℕ) → get_or (s ++ xs) (length s + k) 0 ≡ get_or xs k 0
  past xs k = get_or-append-add s xs k 0

  here : (xs : List ℕ) → get_or (s ++ xs) (length s) 0 ≡ get_or xs 0 0
  here xs = let e : length s ≡ length s + 0 = omega arith in ap (λ (n : ℕ). get_or (s ++ xs) n 0) e ∙ past xs 0

  pub u16-le : (n : ℕ) → n < 65536 → (t : List ℕ) → u16_at (s ++ (le16 n ++ t)) (length s) ≡ n
  unfolding u16_at le16
  u16-le n p t = rw (here (le16 n ++ t), past (le16 n ++ t) 1) (omega arith)

pub u32-le : (s : List ℕ) (n : ℕ) → n < 4294967296 → (t : List ℕ) → u32_at (s ++ (le32 n ++ t)) (length s) ≡ n
unfolding u32_at le32
u32-le s n p t =
    let lo = n % 65536 in
    let hi = n / 65536 in
    let e : s ++ ((le16 lo ++ le16 hi) ++ t) ≡ s ++ (le16 lo ++ (le16 hi ++ t)) = ap (λ (x : List ℕ). s ++ x) (append_assoc (le16 lo) (le16 hi) t) in
    let f : s ++ (le16 lo ++ (le16 hi ++ t)) ≡ (s ++ le16 lo) ++ (le16 hi ++ t) = sym (append_assoc s (le16 lo) (le16 hi ++ t)) in
    let g : length s + 2 ≡ length (s ++ le16 lo) = sym (length-append s (le16 lo) ∙ ap (λ (k : ℕ). length s + k) (length-le16 lo)) in
    let a = ap (λ (x : List ℕ). u16_at x (length s)) e ∙ u16-le s lo (omega arith) (le16 hi ++ t) in
    let b = ap₂ (λ (x : List ℕ) (k : ℕ). u16_at x k) (e ∙ f) g ∙ u16-le (s ++ le16 lo) hi (omega arith) t in
    omega arith

-- the bytes of a number that is read are those that stand there
module _ (s : List ℕ) (bytes : (i : ℕ) → get_or s i 0 < 256) where
  below : (i : ℕ) → u16_at s i < 65536
  unfolding u16_at
  below i = omega (arith, bytes i, bytes (i + 1))

  pub le-u16 : (i : ℕ) → i + 2 ≤ length s → le16 (u16_at s i) ≡ take 2 (drop i s)
  unfolding le16 u16_at
  le-u16 i p =
      let x = get_or s i 0 in
      let y = get_or s (i + 1) 0 in
      let bx = bytes i in
      let by = bytes (i + 1) in
      let a : (x + y * 256) % 256 ≡ x = omega arith in
      let q : (x + y * 256) / 256 ≡ y = omega arith in
      let b : (x + y * 256) / 256 % 256 ≡ y = ap (λ (n : ℕ). n % 256) q ∙ (omega arith) in
      let l : length (take 2 (drop i s)) ≡ 2 = simp (length-take, length-drop) (omega arith) in
      let z : i + 0 ≡ i = omega arith in
      let at : (k : ℕ) → k < 2 → get_or (take 2 (drop i s)) k 0 ≡ get_or s (i + k) 0 = λ k q. get_or-take 2 (drop i s) k 0 q ∙ get_or-drop i s k 0 in
      rw (a, b) (two (take 2 (drop i s)) l (at 0 (omega arith) ∙ ap (λ (k : ℕ). get_or s k 0) z) (at 1 (omega arith)))
    where
      two : (l : List ℕ) → length l ≡ 2 → {a b : ℕ} → get_or l 0 0 ≡ a → get_or l 1 0 ≡ b → a ∷ b ∷ [] ≡ l
      two [] e p q = absurd (omega arith)
      two (u ∷ []) e p q = absurd (omega arith)
      two (u ∷ v ∷ []) e p q = ap₂ (λ (i j : ℕ). i ∷ j ∷ []) (sym p) (sym q)
      two (u ∷ v ∷ w ∷ l) e p q = absurd (omega arith)

  pub le-u32 : (i : ℕ) → i + 4 ≤ length s → le32 (u32_at s i) ≡ take 4 (drop i s)
  unfolding le32 u32_at
  le-u32 i p =
      let lo = u16_at s i in
      let hi = u16_at s (i + 2) in
      let bl = below i in
      let bh = below (i + 2) in
      let a : (lo + hi * 65536) % 65536 ≡ lo = omega arith in
      let b : (lo + hi * 65536) / 65536 ≡ hi = omega arith in
      ap₂ (λ (x y : ℕ). le16 x ++ le16 y) a b
      ∙ ap₂ (λ (x y : List ℕ). x ++ y) (le-u16 i (omega arith)) (le-u16 (i + 2) (omega arith) ∙ ap (take 2) (sym (drop-drop 2 i s)))
      ∙ sym (take-add 2 2 (drop i s))
