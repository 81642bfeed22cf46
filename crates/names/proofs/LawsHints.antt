-- A hint, by the first four codes.
use Prim.Native.Nat.{ℕ, ◌+◌, ◌*◌, ◌%◌, ◌≤◌}
use native.Mathlib.Omega.{arith}
use mathlib.Core.Path.{◌≡◌, refl, sym, ◌∙◌}
use mathlib.Core.Bool.{Bool, true, false, ◌||◌}
use mathlib.Core.List.{List}
use lib.Dec.{eqb, ltb}
use lib.ListN.{get_or}
use borrow.Author.Tests.{ltb-false}
use Rattle.names.specs.Hints.{hint_of, is_wide, fits_hint}

or-inv : (a b : Bool) → a || b ≡ false → (a ≡ false) × (b ≡ false)
or-inv true b e = absurd (let z : ◌≡◌ {A = ℕ} 0 1 = cc in omega arith)
or-inv false b e = (refl, e)

-- none of four codes is above 255
pub record Bytes (a b c d : ℕ) : Type 0 where
  pub first : a ≤ 255
  pub second : b ≤ 255
  pub third : c ≤ 255
  pub fourth : d ≤ 255

pub four_bytes : (a b c d : ℕ) → ltb 255 a || (ltb 255 b || (ltb 255 c || ltb 255 d)) ≡ false → Bytes a b c d
four_bytes a b c d e =
    let x = or-inv (ltb 255 a) _ e in
    let y = or-inv (ltb 255 b) _ x.1 in
    let z = or-inv (ltb 255 c) _ y.1 in
    record { first = ltb-false 255 a x.0; second = ltb-false 255 b y.0; third = ltb-false 255 c z.0; fourth = ltb-false 255 d z.1 }

-- the answer, by the four codes that were read
module _ (cs : List ℕ) (hint a b c d : ℕ) (p : a ≡ get_or cs 0 0) (q : b ≡ get_or cs 1 0) (r : c ≡ get_or cs 2 0) (s : d ≡ get_or cs 3 0) where
  wide_is : {t : Bool} → t ≡ ltb 255 a || (ltb 255 b || (ltb 255 c || ltb 255 d)) → is_wide cs ≡ t
  unfolding is_wide
  wide_is e = rw (← p, ← q, ← r, ← s) (sym e)

  pub hint-wide : {t : Bool} → t ≡ ltb 255 a || (ltb 255 b || (ltb 255 c || ltb 255 d)) → t ≡ true → fits_hint hint cs ≡ eqb (hint % 256) 0
  unfolding fits_hint
  hint-wide e f = rw (wide_is e ∙ f)

  pub hint-bytes : {t : Bool} → t ≡ ltb 255 a || (ltb 255 b || (ltb 255 c || ltb 255 d)) → t ≡ false
      → fits_hint hint cs ≡ eqb hint (a + b * 256 + c * 65536 + d * 16777216)
  unfolding fits_hint hint_of
  hint-bytes e f = rw (wide_is e ∙ f, p, q, r, s)

-- what `is_hinted` needs
pub ruleset hints = (four_bytes, hint-wide, hint-bytes)
