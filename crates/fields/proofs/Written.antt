-- What is written and read again: a fixed byte string, and the size field of a cell.
use Prim.Native.Nat.{ℕ, suc, ◌-◌, ◌≤◌, ◌<◌}
use native.Mathlib.Omega.{arith}
use mathlib.Core.Path.{◌≡◌, refl, ap, ◌∙◌}
use mathlib.Core.Bool.{true, false}
use mathlib.Core.List.{List, [], ◌∷◌, ◌++◌}
use lib.ListN.{length, take}
use lib.Seq.{take-append_seam, drop-append_seam}
use mir.Syntax.{w32}
use Rattle.std.proofs.lemmas.Int.{to_z_pos}
use Rattle.std.proofs.Math.Facts.{to_z-neg}
use borrow.Author.Tests.{eq-eqb}
use Rattle.fields.specs.Bytes.{same_bytes, stands_at}
use Rattle.fields.specs.Number.{u32_at, size_at}
use Rattle.fields.proofs.Bools.{and_both}

pub same_refl : (a : List ℕ) → same_bytes a a ≡ true
unfolding same_bytes
same_refl [] = refl
same_refl (x ∷ a) = and_both (eq-eqb x x refl) (same_refl a)

-- bytes stand where they were written
pub stands-there : (p what s : List ℕ) → stands_at (p ++ (what ++ s)) (length p) what ≡ true
unfolding stands_at
stands-there p what s =
    ap (λ (x : List ℕ). same_bytes (take (length what) x) what) (drop-append_seam p (what ++ s))
    ∙ ap (λ (x : List ℕ). same_bytes x what) (take-append_seam what s)
    ∙ same_refl what

-- "negative when in use": the size of a cell in use is written as its distance from 2 ^ 32, that of a free cell as it is
module _ (s : List ℕ) (i n : ℕ) where
  pub size-used : u32_at s i ≡ 4294967296 - n → 0 < n → n ≤ 2147483648 → size_at s i ≡ record { used = true; bytes = n }
  unfolding size_at
  size-used e some most =
      let g : suc (n - 1) ≡ n = omega arith in
      rw (e, ← g, to_z-neg w32 (n - 1) (omega arith))

  pub size-free : u32_at s i ≡ n → n < 2147483648 → size_at s i ≡ record { used = false; bytes = n }
  unfolding size_at
  size-free e most = rw (e, to_z_pos w32 n (omega arith))
