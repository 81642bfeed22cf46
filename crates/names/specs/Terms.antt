-- What the search for a backslash needs.
use Rattle.std.specs.Prelude.{ℕ, ◌+◌, ◌≤◌, ◌≡◌, Bool, true, false, List, drop}
use Rattle.names.specs.Codes.{has_code, backslash}

-- what a test of the four characters from i on tells: there is a backslash from i on, or none in the four
pub data AmongFour (cs : List ℕ) (i : ℕ) : Bool → Type 0 where
  some : has_code backslash (drop i cs) ≡ true → AmongFour cs i true
  none : ((j : ℕ) → j ≤ 4 → has_code backslash (drop i cs) ≡ has_code backslash (drop (i + j) cs)) → AmongFour cs i false
