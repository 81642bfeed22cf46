-- Names that are given by their positions, and the first that has an earlier namesake.
use Rattle.std.specs.Prelude.{ℕ, zero, suc, ◌+◌, ◌≤◌, ◌<◌, ◌≡◌, Bool, true, false, ◌||◌, List}
use Rattle.names.specs.Comparison.{same_name}

-- the names at two positions are the same
abbrev pub twins : (ℕ → List ℕ) → ℕ → ℕ → Bool
twins names i j = same_name (names i) (names j)

-- the name at a position stands at an earlier one too
pub record Earlier (names : ℕ → List ℕ) (j : ℕ) : Type 0 where
  pub at : ℕ
  pub before : at < j
  pub same : twins names at j ≡ true

-- the lowest position below n whose name stands at an earlier one too; n where there is none
pub record First (names : ℕ → List ℕ) (n r : ℕ) : Type 0 where
  pub within : r ≤ n
  pub clear : (i j : ℕ) → i < j → j < r → twins names i j ≡ false
  pub found : r < n → Earlier names r

-- the same, of those that stand in the block of so many from position s on
pub record Blocked (names : ℕ → List ℕ) (s size n r : ℕ) : Type 0 where
  pub within : r ≤ n
  pub clear : (i j : ℕ) → s ≤ i → i < s + size → i < j → j < r → twins names i j ≡ false
  pub found : r < n → Earlier names r

-- whether one of the first n names is cs
unfoldable pub met_in : (ℕ → List ℕ) → ℕ → List ℕ → Bool
met_in names zero cs = false
met_in names (suc n) cs = same_name (names n) cs || met_in names n cs

-- the names from position s on
abbrev pub later : (ℕ → List ℕ) → ℕ → ℕ → List ℕ
later names s i = names (s + i)
