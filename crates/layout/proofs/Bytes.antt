-- Lists of bytes: every number of them is below 256.
use Prim.Native.Nat.{ℕ, zero, suc, ◌/◌, ◌%◌, ◌<◌}
use native.Mathlib.Omega.{arith}
use mathlib.Core.List.{List, [], ◌∷◌, ◌++◌}
use lib.Dec.{lit<}
use lib.ListN.{get_or}
use Rattle.fields.specs.Number.{le16, le32, le64}
use Rattle.layout.specs.Layout.{zeros}

pub record Small (s : List ℕ) : Type 0 where
  pub each : (i : ℕ) → get_or s i 0 < 256

pub small-nil : Small []
small-nil = record { each = λ i. lit< tt }

pub small-cons : {x : ℕ} {s : List ℕ} → x < 256 → Small s → Small (x ∷ s)
small-cons {x} {s} b h = record { each = each }
  where
    each : (i : ℕ) → get_or (x ∷ s) i 0 < 256
    each zero = b
    each (suc i) = h.each i

pub small-append : (s : List ℕ) {t : List ℕ} → Small s → Small t → Small (s ++ t)
small-append [] a b = b
small-append (x ∷ s) a b = small-cons (a.each zero) (small-append s (record { each = λ i. a.each (suc i) }) b)

pub small-zeros : (n : ℕ) → Small (zeros n)
unfolding zeros
small-zeros zero = small-nil
small-zeros (suc n) = small-cons (lit< tt) (small-zeros n)

pub small-le16 : (n : ℕ) → Small (le16 n)
unfolding le16
small-le16 n =
    let a : n % 256 < 256 = omega arith in
    let b : n / 256 % 256 < 256 = omega arith in
    small-cons a (small-cons b small-nil)

pub small-le32 : (n : ℕ) → Small (le32 n)
unfolding le32
small-le32 n = small-append (le16 (n % 65536)) (small-le16 (n % 65536)) (small-le16 (n / 65536))

pub small-le64 : (n : ℕ) → Small (le64 n)
unfolding le64
small-le64 n = small-append (le32 (n % 0x1_0000_0000)) (small-le32 (n % 0x1_0000_0000)) (small-le32 (n / 0x1_0000_0000))

-- with more bytes behind
pub small_word : (n : ℕ) {t : List ℕ} → Small t → Small (le32 n ++ t)
small_word n h = small-append (le32 n) (small-le32 n) h

pub small-long : (n : ℕ) {t : List ℕ} → Small t → Small (le64 n ++ t)
small-long n h = small-append (le64 n) (small-le64 n) h
