-- One turn of a loop over two names: what is left answers as the whole does.
use Prim.Native.Nat.{ℕ, ◌+◌, ◌<◌, ◌≤◌, min}
use native.Mathlib.Numerals.{add-one}
use native.Mathlib.Omega.{arith}
use mathlib.Core.Path.{◌≡◌, refl, ap}
use Rattle.std.specs.Cmp.Lexicographic.{slice_cmp}
use Rattle.std.specs.Prelude.{map}
use mathlib.Core.Bool.{false}
use mathlib.Core.List.{List, [], ◌∷◌}
use lib.ListN.{length, get_or, drop, drop_of_length-le}
use lib.Seq.{drop-cons}
use lib.Dec.{eqb}
use Rattle.std.specs.Ordering.{nat_cmp}
use Rattle.std.proofs.lemmas.Bool.Decides.{nat_tests}
use Rattle.names.specs.Upper_case.{upper, uppers}
use Rattle.names.specs.Comparison.{by_code, compare, is_same}
use Rattle.names.proofs.By_code.{by_order, below, above, level}
use Rattle.std.specs.declared.cmp.Ordering.{Ordering}
use Rattle.std.specs.declared.cmp.Ordering.TheVariants.{Equal, Greater, Less}

-- how what is left from a position on compares
abbrev pub left : List ℕ → List ℕ → ℕ → Ordering
left xs ys i = compare (drop i xs) (drop i ys)

module _ (xs ys : List ℕ) (i : ℕ) (hx : i < length xs) (hy : i < length ys) where
  pub turn_below : upper (get_or xs i 0) < upper (get_or ys i 0) → left xs ys i ≡ Less
  unfolding compare uppers
  turn_below h = rw (drop-cons xs i 0 hx, drop-cons ys i 0 hy) (below _ _ _ _ h)

  pub turn-above : upper (get_or ys i 0) < upper (get_or xs i 0) → left xs ys i ≡ Greater
  unfolding compare uppers
  turn-above h = rw (drop-cons xs i 0 hx, drop-cons ys i 0 hy) (above _ _ _ _ h)

  pub turn_level : upper (get_or xs i 0) ≡ upper (get_or ys i 0) → left xs ys i ≡ left xs ys (i + 1)
  unfolding compare uppers
  turn_level e = rw (add-one, drop-cons xs i 0 hx, drop-cons ys i 0 hy) (level _ _ _ _ e)

  pub turn-apart : (upper (get_or xs i 0) ≡ upper (get_or ys i 0) → ⊥) → is_same (left xs ys i) ≡ false
  turn-apart n =
      by_order (upper (get_or xs i 0)) (upper (get_or ys i 0))
      (λ h. ap is_same (turn_below h)) (λ h. ap is_same (turn-above h)) (λ e. absurd (n e))

module _ (xs ys : List ℕ) (i : ℕ) where
  pub turn-shorter : length xs ≤ i → i < length ys → left xs ys i ≡ Less
  unfolding compare uppers by_code
  turn-shorter hx hy = rw (drop_of_length-le xs hx, drop-cons ys i 0 hy)

  pub turn-longer : i < length xs → length ys ≤ i → left xs ys i ≡ Greater
  unfolding compare uppers by_code
  turn-longer hx hy = rw (drop-cons xs i 0 hx, drop_of_length-le ys hy)

  pub turn-ended : length xs ≤ i → length ys ≤ i → left xs ys i ≡ Equal
  unfolding compare uppers by_code
  turn-ended hx hy = rw (drop_of_length-le xs hx, drop_of_length-le ys hy)

-- the first letters that differ decide
pub turn-decided : (xs ys : List ℕ) (i : ℕ) → i < length xs → i < length ys → eqb (upper (get_or xs i 0)) (upper (get_or ys i 0)) ≡ false
    → left xs ys i ≡ nat_cmp (upper (get_or xs i 0)) (upper (get_or ys i 0))
turn-decided xs ys i hx hy n =
    by_order (upper (get_or xs i 0)) (upper (get_or ys i 0))
    (λ h. let t = turn_below xs ys i hx hy h in grind (arith, nat_tests))
    (λ h. let t = turn-above xs ys i hx hy h in grind (arith, nat_tests))
    (λ e. grind (arith, nat_tests))

-- and behind the shorter name the lengths
pub turn-past : (xs ys : List ℕ) (i : ℕ) → i ≡ min (length xs) (length ys) → left xs ys i ≡ nat_cmp (length xs) (length ys)
turn-past xs ys i e =
    by_order (length xs) (length ys)
    (λ h. let t = turn-shorter xs ys i (omega arith) (omega arith) in grind (arith, nat_tests))
    (λ h. let t = turn-longer xs ys i (omega arith) (omega arith) in grind (arith, nat_tests))
    (λ q. let t = turn-ended xs ys i (omega arith) (omega arith) in grind (arith, nat_tests))

-- what the loops of `compare_stored` and `compare_name` need
pub ruleset turns = (turn_level, turn-decided, turn-past)

-- std's comparison of two lists
cmp-code : (xs ys : List ℕ) → slice_cmp nat_cmp xs ys ≡ by_code xs ys
unfolding by_code
cmp-code [] [] = refl
cmp-code [] (y ∷ ys) = refl
cmp-code (x ∷ xs) [] = refl
cmp-code (x ∷ xs) (y ∷ ys) =
    by_order x y
    (λ h. let t : nat_cmp x y ≡ Less = grind (arith, nat_tests) in rw (t, below x y xs ys h))
    (λ h. let t : nat_cmp x y ≡ Greater = grind (arith, nat_tests) in rw (t, above x y xs ys h))
    (λ e. let t : nat_cmp x y ≡ Equal = grind (arith, nat_tests) in rw (t, level x y xs ys e) (cmp-code xs ys))

map-uppers : (xs : List ℕ) → map upper xs ≡ uppers xs
unfolding uppers
map-uppers [] = refl
map-uppers (x ∷ xs) = ap (◌∷◌ (upper x)) (map-uppers xs)

pub compare_is : (xs ys : List ℕ) → slice_cmp nat_cmp (map upper xs) (map upper ys) ≡ compare xs ys
unfolding compare
compare_is xs ys = rw (map-uppers xs, map-uppers ys) (cmp-code (uppers xs) (uppers ys))
