-- Bytes that are set in a list, the four of a 32-bit number above all, and read again.
use Prim.Native.Nat.{ℕ, zero, suc, ◌+◌, ◌≤◌, ◌<◌}
use native.Mathlib.Omega.{arith}
use mathlib.Core.Path.{◌≡◌, refl, sym, ap, ◌∙◌}
use mathlib.Core.Logic.{◌≢◌, ◌⊎◌, inl, inr}
use mathlib.Core.List.{List, [], ◌∷◌, ◌++◌, append_assoc}
use lib.ListN.{length, take, drop, get_or, set}
use lib.Seq.{sets, sets-eq, length-sets, length-take-le, get_or-set_other, take-set-le}
use Rattle.fields.specs.Number.{u16_at, u32_at, le16, le32}
use Rattle.fields.proofs.Little.{length-le32, u32-le}
use Rattle.sectors.specs.Sector.{Bytes}

-- ---- lists of bytes

pub take-bytes : (l : List ℕ) → Bytes l → (n : ℕ) → Bytes (take n l)
take-bytes [] b zero i = b i
take-bytes [] b (suc n) i = b i
take-bytes (x ∷ l) b zero zero = omega arith
take-bytes (x ∷ l) b zero (suc i) = omega arith
take-bytes (x ∷ l) b (suc n) zero = b zero
take-bytes (x ∷ l) b (suc n) (suc i) = take-bytes l (λ k. b (suc k)) n i

set-bytes : (s : List ℕ) (j v : ℕ) → Bytes s → v < 256 → Bytes (set s j v)
set-bytes [] j v h b i = h i
set-bytes (x ∷ s) zero v h b zero = b
set-bytes (x ∷ s) zero v h b (suc i) = h (suc i)
set-bytes (x ∷ s) (suc j) v h b zero = h zero
set-bytes (x ∷ s) (suc j) v h b (suc i) = set-bytes s j v (λ k. h (suc k)) b i

sets-bytes : (xs s : List ℕ) (i : ℕ) → Bytes s → Bytes xs → Bytes (sets s i xs)
sets-bytes [] s i h b = h
sets-bytes (x ∷ xs) s i h b = sets-bytes xs (set s i x) (suc i) (set-bytes s i x h (b 0)) (λ k. b (suc k))

le_bytes : (v : ℕ) → Bytes (le32 v)
unfolding le32 le16
le_bytes v zero = omega arith
le_bytes v (suc zero) = omega arith
le_bytes v (suc (suc zero)) = omega arith
le_bytes v (suc (suc (suc zero))) = omega arith
le_bytes v (suc (suc (suc (suc i)))) = omega arith

-- ---- what is set leaves

sets-take : (xs s : List ℕ) (i n : ℕ) → n ≤ i → take n (sets s i xs) ≡ take n s
sets-take [] s i n h = refl
sets-take (x ∷ xs) s i n h = sets-take xs (set s i x) (suc i) n (omega arith) ∙ take-set-le n s i x h

sets-other : (xs s : List ℕ) (i j : ℕ) → (j < i) ⊎ (i + length xs ≤ j) → get_or (sets s i xs) j 0 ≡ get_or s j 0
sets-other [] s i j h = refl
sets-other (x ∷ xs) s i j h = sets-other xs (set s i x) (suc i) j (on h) ∙ get_or-set_other s i j x 0 (off h)
  where
    on : (j < i) ⊎ (i + suc (length xs) ≤ j) → (j < suc i) ⊎ (suc i + length xs ≤ j)
    on (inl a) = inl (omega arith)
    on (inr a) = inr (omega arith)

    off : (j < i) ⊎ (i + suc (length xs) ≤ j) → j ≢ i
    off (inl a) = omega arith
    off (inr a) = omega arith

-- ---- a 32-bit number that is put: its place, and that it is there

module _ (s : List ℕ) (i v : ℕ) where
  pub put-length : length (sets s i (le32 v)) ≡ length s
  put-length = length-sets s i (le32 v)

  pub put-take : (n : ℕ) → n ≤ i → take n (sets s i (le32 v)) ≡ take n s
  put-take n h = sets-take (le32 v) s i n h

  pub put-bytes : Bytes s → Bytes (sets s i (le32 v))
  put-bytes h = sets-bytes (le32 v) s i h (le_bytes v)

  -- every byte that it does not meet stays
  pub put_other : (k : ℕ) → (k < i) ⊎ (i + 4 ≤ k) → get_or (sets s i (le32 v)) k 0 ≡ get_or s k 0
  put_other k g = sets-other (le32 v) s i k (rw length-le32 g)

  -- every number that does not meet it stays
  pub u32-other : (j : ℕ) → (j + 4 ≤ i) ⊎ (i + 4 ≤ j) → u32_at (sets s i (le32 v)) j ≡ u32_at s j
  unfolding u32_at u16_at
  u32-other j h =
      let a = put_other j (go 0 (omega arith) (omega arith) h) in
      let b = put_other (j + 1) (go 1 (omega arith) (omega arith) h) in
      let c = put_other (j + 2) (go 2 (omega arith) (omega arith) h) in
      let d = put_other (j + 2 + 1) (go 3 (omega arith) (omega arith) h) in
      omega arith
    where
      go : (k : ℕ) {m : ℕ} → k < 4 → m ≡ j + k → (j + 4 ≤ i) ⊎ (i + 4 ≤ j) → (m < i) ⊎ (i + 4 ≤ m)
      go k l e (inl g) = inl (omega arith)
      go k l e (inr g) = inr (omega arith)

  pub u32-same : v < 4294967296 → i + 4 ≤ length s → u32_at (sets s i (le32 v)) i ≡ v
  u32-same small fits =
      let n = length-le32 v in
      let behind = drop (i + length (le32 v)) s in
      ap (λ (x : List ℕ). u32_at x i) (sets-eq (le32 v) s i (omega arith) ∙ append_assoc (take i s) (le32 v) behind)
      ∙ ap (u32_at (take i s ++ (le32 v ++ behind))) (sym (length-take-le i s (omega arith)))
      ∙ u32-le (take i s) v small behind
