-- What the loops need, and what a function asks of its callers.
use Rattle.std.specs.Prelude.{ℕ, ◌+◌, ◌/◌, ◌≤◌, ◌<◌, Bool, ◌&&◌, List, leb, length}
use Rattle.log_entries.specs.Entries.{Entry, size_at, count_at, ref_offset, ref_size, ref_place, are_refs, counted_from}

-- an entry of 512 bytes at least ends in the log
pub record Whole (l : List ℕ) (a : ℕ) : Type 0 where
  pub least : 512 ≤ size_at l a
  pub inside : a + size_at l a ≤ length l

-- the references and their bytes end in the entry; the references' own test
abbrev pub refs_fit : List ℕ → ℕ → Bool
refs_fit l a = leb (ref_place l a (count_at l a)) (a + size_at l a) && are_refs l a (count_at l a)

-- none of the first n references goes past an offset
abbrev pub EndBy : List ℕ → ℕ → ℕ → ℕ → Type 0
EndBy l a n end = (j : ℕ) → j < n → ref_offset l a j + ref_size l a j ≤ end

-- the entries that count from a place and a number on
abbrev pub left : List ℕ → ℕ → ℕ → List Entry
left l a n = counted_from (length l / 512) l a n
