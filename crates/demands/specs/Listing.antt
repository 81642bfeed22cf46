-- "Show that in an accepted hive a pre-order listing gives every key the tree holds, each cell exactly once, that its length is the report's key count,
-- and that looking up the path of each listed key returns that very cell." The listing is `keys_of h`: `keys_in` from the root, a key and then its
-- children's listings, joined in list order. h is the hive.
use Rattle.std.specs.Prelude.{ℕ, ◌<◌, ◌≤◌, ◌≡◌, ◌↔◌, length, Ok}
use mathlib.Core.List.{List, Memᴰ}
use Rattle.fields.specs.declared.Offset.{Offset}
use Rattle.base.specs.Block.{bins_data}
use Rattle.records.specs.Listed.{keys_in, Once}
use Rattle.tree.specs.declared.Report.{Report}
use Rattle.tree.specs.Tree.{hive_of, keys_of, check_answer}
use Rattle.tree.specs.WellFormed.{CleanAndWellFormed}
use Rattle.paths.specs.Answers.{quick_answer}
use Rattle.paths.specs.Reach.{Holds, Named, joined_by, FoundAgain}
use Rattle.sectors.specs.Sector.{Bytes}

-- of one hive
pub record EachKeyOnce (h : List ℕ) : Type 0 where
  -- "every key the tree holds", and no other
  pub every : (k : Offset) → Memᴰ k (keys_of h) ↔ ((xs : List (List ℕ)) × Holds (bins_data h) (hive_of h).root xs k)
  -- "each cell exactly once"
  pub once : Once (keys_of h)
  -- "its length is the report's key count"
  pub counted : (m : List ℕ) (r : Report) → check_answer h m ≡ Ok r → r.keys ≡ length (keys_of h)
  -- "looking up the path of each listed key returns that very cell"
  pub found : (k : Offset) → Memᴰ k (keys_of h) → FoundAgain h k
  -- "It holds for both lookups": the same path by the one that halves, of a hive of bytes
  pub found-quick : Bytes h → (k : Offset) (f : FoundAgain h k) → quick_answer h (joined_by f.names) ≡ Ok k
  -- its path is one: the names along its way, as stored, are no other key's, and it has no others
  pub one-path : (xs : List (List ℕ)) (k e : Offset) → Named (bins_data h) (hive_of h).root xs k → Named (bins_data h) (hive_of h).root xs e → k ≡ e
  pub one_way : (k : Offset) (xs ys : List (List ℕ)) → Named (bins_data h) (hive_of h).root xs k → Named (bins_data h) (hive_of h).root ys k → xs ≡ ys
  -- they are its level: the listing of the first n levels has the key exactly where its names are fewer. "The root is level 0; level 512 is the last"
  pub level : (k : Offset) (xs : List (List ℕ)) → Named (bins_data h) (hive_of h).root xs k → (n : ℕ)
      → Memᴰ k (keys_in (bins_data h) n (hive_of h).root) ↔ (length xs < n)
  pub levels : (k : Offset) (xs : List (List ℕ)) → Named (bins_data h) (hive_of h).root xs k → length xs ≤ 512

-- of every accepted hive
abbrev pub Listing : Type 0
Listing = (h : List ℕ) → CleanAndWellFormed h → EachKeyOnce h
