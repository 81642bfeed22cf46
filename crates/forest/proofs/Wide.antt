-- Names in UTF-16LE and their codes, both ways.
use Prim.Native.Nat.{ℕ, ◌+◌, ◌*◌, ◌/◌, ◌%◌}
use native.Mathlib.Omega.{arith}
use mathlib.Core.Path.{◌≡◌, refl, ap₂}
use mathlib.Core.Logic.{⊎_elim}
use mathlib.Core.Bool.{false}
use mathlib.Core.List.Memᴰ
use mathlib.Core.List.{List, [], ◌∷◌}
use lib.ListN.{length}
use Rattle.fields.specs.Number.{le16}
use Rattle.names.specs.Codes.{codes}
use Rattle.stream.specs.Stream.{wide}
use Rattle.stream.proofs.Laws.{stored-wide}
use Rattle.forest.specs.Allowed.{AllBelow}
use Rattle.forest.proofs.Bytes.{below_at}

-- codes that are written are read back
pub codes-wide : (x : List ℕ) → AllBelow 65536 x → codes false (wide x) ≡ x
unfolding codes wide le16
codes-wide [] f = refl
codes-wide (c ∷ cs) f =
    let p = f c (Memᴰ.head refl) in
    let e : c % 256 + c / 256 % 256 * 256 ≡ c = omega arith in
    ap₂ (λ (y : ℕ) (ys : List ℕ). y ∷ ys) e (codes-wide cs (λ y m. f y (Memᴰ.tail m)))

-- and bytes that are read are those that are written
pub wide-codes : (p : List ℕ) → AllBelow 256 p → length p % 2 ≡ 0 → wide (codes false p) ≡ p
wide-codes p f e = stored-wide p (below_at 256 (omega arith) p f) e

pub codes-below : (p : List ℕ) → AllBelow 256 p → AllBelow 65536 (codes false p)
unfolding codes
codes-below [] f x m = absurd (Memᴰ.not-nil m)
codes-below (a ∷ []) f x m = absurd (Memᴰ.not-nil m)
codes-below (a ∷ b ∷ s) f x m =
    let u = f a (Memᴰ.head refl) in
    let v = f b (Memᴰ.tail (Memᴰ.head refl)) in
    ⊎_elim (λ (e : x ≡ a + b * 256). omega arith) (codes-below s (λ y i. f y (Memᴰ.tail (Memᴰ.tail i))) x) (Memᴰ.cases_cons m)
