-- A table of names' hashes, by `chains`, which is filled from the front.
use Rattle.std.specs.Prelude.{ℕ, ◌+◌, ◌≤◌, ◌<◌, ◌≡◌, false, List, length, get_or, set}
use Rattle.names.specs.Comparison.{same_name}

-- a table with nothing in it yet, and room for links and places
pub record Empty (ks older heads : List ℕ) : Type 0 where
  pub some : 0 < length heads
  pub none : (b : ℕ) → get_or heads b 0 ≡ 0
  pub links : length ks ≤ length older
  pub few : length ks + 1 < 4294967296

-- a number is taken into a list behind the first n, while there is room
pub record Taken (room : ℕ) (xs : List ℕ) (n x : ℕ) (after : List ℕ) (r : ℕ) : Type 0 where
  pub more : n < room → (r ≡ n + 1) × (after ≡ set xs n x)
  pub full : room ≤ n → (r ≡ n) × (after ≡ xs)

-- the numbers of a table tell names apart: one that is not g stands for another name than cs
abbrev pub Telling : (ℕ → List ℕ) → ℕ → List ℕ → ℕ → List ℕ → Type 0
Telling names n ks g cs = (i : ℕ) → i < n → (get_or ks i 0 ≡ g → ⊥) → same_name (names i) cs ≡ false
