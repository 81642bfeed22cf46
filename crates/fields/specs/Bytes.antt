-- Fixed byte strings, compared with a part of the input.
use Rattle.std.specs.Prelude.{ℕ, Bool, true, false, ◌&&◌, List, [], ◌∷◌, eqb, length, take, drop}

unfoldable pub same_bytes : List ℕ → List ℕ → Bool
same_bytes [] [] = true
same_bytes [] (y ∷ ys) = false
same_bytes (x ∷ xs) [] = false
same_bytes (x ∷ xs) (y ∷ ys) = eqb x y && same_bytes xs ys

-- the bytes `what` stand at position i
unfoldable pub stands_at : List ℕ → ℕ → List ℕ → Bool
stands_at s i what = same_bytes (take (length what) (drop i s)) what
