-- Lists whose numbers are below a bound.
use Prim.Native.Nat.{ℕ, zero, suc, ◌<◌}
use mathlib.Core.Path.{refl}
use mathlib.Core.List.Memᴰ
use mathlib.Core.List.{List, [], ◌∷◌, ◌++◌}
use lib.ListN.{get_or, take, drop, take-append-drop}
use Rattle.forest.specs.Allowed.{AllBelow}

module _ (n : ℕ) where
  pub below_at : 0 < n → (xs : List ℕ) → AllBelow n xs → (i : ℕ) → get_or xs i 0 < n
  below_at p [] f i = p
  below_at p (x ∷ xs) f zero = f x (Memᴰ.head refl)
  below_at p (x ∷ xs) f (suc i) = below_at p xs (λ y m. f y (Memᴰ.tail m)) i

  pub below_left : (xs ys : List ℕ) → AllBelow n (xs ++ ys) → AllBelow n xs
  below_left xs ys f x m = f x (Memᴰ.append_left ys m)

  pub below_right : (xs ys : List ℕ) → AllBelow n (xs ++ ys) → AllBelow n ys
  below_right xs ys f x m = f x (Memᴰ.append_right xs m)

  pub below-take : (k : ℕ) (xs : List ℕ) → AllBelow n xs → AllBelow n (take k xs)
  below-take k xs f = below_left (take k xs) (drop k xs) (rw (take-append-drop k xs) f)

  pub below-drop : (k : ℕ) (xs : List ℕ) → AllBelow n xs → AllBelow n (drop k xs)
  below-drop k xs f = below_right (take k xs) (drop k xs) (rw (take-append-drop k xs) f)
