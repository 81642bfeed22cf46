-- The bit of an offset, as the code reads it.
use Prim.Native.Nat.{ℕ, ◌/◌, ◌%◌}
use mathlib.Core.Path.{◌≡◌}
use mathlib.Core.Bool.{false}
use mathlib.Core.List.{List}
use borrow.Author.Tests.{eq-eqb, ne_eqb}
use Rattle.bitmap.specs.Bits.{is_marked as is_set}
use Rattle.cells.specs.Map.{is_marked}

module _ (m : List ℕ) (o : ℕ) where
  pub marked-odd : (o % 8 ≡ 0 → ⊥) → is_marked m o ≡ false
  unfolding is_marked
  marked-odd p = rw (ne_eqb (o % 8) 0 p)

  pub marked-set : o % 8 ≡ 0 → is_marked m o ≡ is_set m (o / 8)
  unfolding is_marked
  marked-set p = rw (eq-eqb (o % 8) 0 p)
