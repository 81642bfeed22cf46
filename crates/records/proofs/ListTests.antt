-- The tests of a list's record, a law for each way out.
use Prim.Native.Nat.{ℕ, ◌+◌, ◌*◌, ◌<◌, ◌≤◌}
use native.Mathlib.Nat.{mul-le-mul}
use native.Mathlib.Omega.{arith}
use mathlib.Core.Path.{◌≡◌, refl, ap, ◌∙◌}
use mathlib.Core.Bool.{Bool, true, false, cond, ◌&&◌}
use mathlib.Core.List.{List}
use lib.ListN.{length}
use lib.Dec.{leb}
use borrow.Author.Tests.{le-leb, lt-leb}
use Rattle.records.specs.Lists.{is_li, is_ri, count_of, has_elements, width_of, has_leaf_signature, is_leaf, is_list}

and-false : (t : Bool) → t && false ≡ false
and-false true = refl
and-false false = refl

-- the room of so many elements in 64 bits
pub product-fits : (n width : ℕ) → n < 65536 → width ≤ 8 → n * width ≤ 524280
product-fits n width p q = mul-le-mul {n₂ = 65535} {m₂ = 8} (omega arith) q

pub width_small : (r : List ℕ) → width_of r ≤ 8
unfolding width_of
width_small r = by (is_li r)
  where
    by : (t : Bool) → cond t 4 8 ≤ 8
    by true = omega arith
    by false = omega arith

module _ (r : List ℕ) where
  pub short-elements : (width : ℕ) → length r < 4 → has_elements r width ≡ false
  unfolding has_elements
  short-elements width p = rw (lt-leb 4 (length r) p)

  pub no-elements : (width : ℕ) → 4 ≤ length r → count_of r < 1 → has_elements r width ≡ false
  unfolding has_elements
  no-elements width room p = rw (le-leb 4 (length r) room, lt-leb 1 (count_of r) p)

  pub by-room : (width : ℕ) → 4 ≤ length r → 1 ≤ count_of r → has_elements r width ≡ leb (4 + count_of r * width) (length r)
  unfolding has_elements
  by-room width room p = rw (le-leb 4 (length r) room, le-leb 1 (count_of r) p)

  pub short-leaf : length r < 4 → is_leaf r ≡ false
  unfolding is_leaf
  short-leaf p = ap (λ (t : Bool). has_leaf_signature r && t) (short-elements (width_of r) p) ∙ and-false (has_leaf_signature r)

  pub no-leaf : has_leaf_signature r ≡ false → is_leaf r ≡ false
  unfolding is_leaf
  no-leaf e = rw e

  pub by-elements : has_leaf_signature r ≡ true → is_leaf r ≡ has_elements r (width_of r)
  unfolding is_leaf
  by-elements e = rw e

  pub short-list : length r < 4 → is_list r ≡ false
  unfolding is_list
  short-list p = by (is_ri r) refl
    where
      by : (t : Bool) → is_ri r ≡ t → cond (is_ri r) (has_elements r 4) (is_leaf r) ≡ false
      by true e = rw e (short-elements 4 p)
      by false e = rw e (short-leaf p)

  pub index-list : is_ri r ≡ true → is_list r ≡ has_elements r 4
  unfolding is_list
  index-list e = rw e

  pub leaf-list : is_ri r ≡ false → is_list r ≡ is_leaf r
  unfolding is_list
  leaf-list e = rw e

-- what `has_elements`, `is_leaf` and `is_list` need
pub ruleset rooms = (product-fits, width_small)

pub ruleset tests = (short-leaf, no-leaf, by-elements, short-list, index-list, leaf-list, width_small)
