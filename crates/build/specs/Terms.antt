-- What the code reckons with: sizes, where the layout has a forest.
use Rattle.std.specs.Prelude.{ℕ, ◌+◌, ◌*◌, ◌/◌, ◌≤◌, ◌≡◌, List, ◌++◌, length, drop}
use Rattle.base.specs.Block.{bins_limit}
use Rattle.forest.specs.Forest.{key_count, forest_frames}
use Rattle.forest.specs.Allowed.{OneRoot}
use Rattle.forest.specs.Parse.{forest_in}
use Rattle.layout.specs.Layout.{cell_size, size_of, bins_for, built_hive}

-- The bins size is 32 + T + cell(20 + n), rounded up to a multiple of 4096: by T, the size of the cells of all keys, and n, the descriptor's length
abbrev pub bins_size : ℕ → ℕ → ℕ
bins_size size n = (32 + size + cell_size (20 + n) + 4095) / 4096 * 4096

-- what the second pass counts on: the forest that the stream says, its sums told whole, and room for its hive
pub record PutFits (s sd : List ℕ) (room keys size : ℕ) : Type 0 where
  pub frames : s ≡ forest_frames (forest_in s)
  pub root : OneRoot (forest_in s)
  pub size_is : size ≡ size_of (forest_in s)
  pub keys-are : keys ≡ key_count (forest_in s)
  pub limit : bins_for (forest_in s) (length sd) ≤ bins_limit
  pub enough : 4096 + bins_for (forest_in s) (length sd) ≤ room

-- the hive, and then what stood behind it
abbrev pub with_hive : List ℕ → List ℕ → List ℕ → List ℕ
with_hive s sd out = built_hive (forest_in s) sd ++ drop (length (built_hive (forest_in s) sd)) out
