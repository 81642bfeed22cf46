-- Numbers of eight bytes: what `le64` writes is what `u64_at` reads, and the other way round.
use Prim.Native.Nat.{ℕ, ◌+◌, ◌*◌, ◌/◌, ◌%◌, ◌^◌, ◌≤◌, ◌<◌}
use native.Mathlib.Omega.{arith}
use mathlib.Core.Path.{◌≡◌, sym, ap, ap₂, ◌∙◌}
use mathlib.Core.List.{List, ◌++◌, append_assoc}
use lib.ListN.{length, get_or, take, drop, length-append}
use lib.Seq.{drop-drop, take-add}
use Rattle.fields.specs.Number.{u32_at, u64_at, le32, le64}
use Rattle.fields.proofs.Little.{length-le32, u32-le, le-u32}
use Rattle.fields.proofs.Numbers.{u32-below}

pub u64-le : (s : List ℕ) (n : ℕ) → n < 2 ^ 64 → (t : List ℕ) → u64_at (s ++ (le64 n ++ t)) (length s) ≡ n
unfolding u64_at le64
u64-le s n p t =
    let lo = n % 4294967296 in
    let hi = n / 4294967296 in
    let e : s ++ ((le32 lo ++ le32 hi) ++ t) ≡ s ++ (le32 lo ++ (le32 hi ++ t)) = ap (λ (x : List ℕ). s ++ x) (append_assoc (le32 lo) (le32 hi) t) in
    let f : s ++ (le32 lo ++ (le32 hi ++ t)) ≡ (s ++ le32 lo) ++ (le32 hi ++ t) = sym (append_assoc s (le32 lo) (le32 hi ++ t)) in
    let g : length s + 4 ≡ length (s ++ le32 lo) = sym (length-append s (le32 lo) ∙ ap (λ (k : ℕ). length s + k) (length-le32 lo)) in
    let a = ap (λ (x : List ℕ). u32_at x (length s)) e ∙ u32-le s lo (omega arith) (le32 hi ++ t) in
    let b = ap₂ (λ (x : List ℕ) (k : ℕ). u32_at x k) (e ∙ f) g ∙ u32-le (s ++ le32 lo) hi (omega arith) t in
    omega arith

module _ (s : List ℕ) (bytes : (i : ℕ) → get_or s i 0 < 256) where
  pub u64-below : (i : ℕ) → u64_at s i < 2 ^ 64
  unfolding u64_at
  u64-below i = let a = u32-below s bytes i in let b = u32-below s bytes (i + 4) in omega arith

  pub le-u64 : (i : ℕ) → i + 8 ≤ length s → le64 (u64_at s i) ≡ take 8 (drop i s)
  unfolding le64 u64_at
  le-u64 i p =
      let lo = u32_at s i in
      let hi = u32_at s (i + 4) in
      let bl = u32-below s bytes i in
      let bh = u32-below s bytes (i + 4) in
      let a : (lo + hi * 4294967296) % 4294967296 ≡ lo = omega arith in
      let b : (lo + hi * 4294967296) / 4294967296 ≡ hi = omega arith in
      ap₂ (λ (x y : ℕ). le32 x ++ le32 y) a b
      ∙ ap₂ (λ (x y : List ℕ). x ++ y) (le-u32 s bytes i (omega arith)) (le-u32 s bytes (i + 4) (omega arith) ∙ ap (take 4) (sym (drop-drop 4 i s)))
      ∙ sym (take-add 4 4 (drop i s))
