-- What the cursor over a log's versions has before it, and what its loops need.
use Rattle.std.specs.Prelude.{ℕ, zero, suc, ◌+◌, ◌*◌, ◌/◌, ◌%◌, ◌≤◌, ◌<◌, ◌≡◌, Bool, not, ◌&&◌, ◌||◌, List, [], ◌∷◌, ◌++◌, ltb, length}
use Rattle.base.specs.Block.{bins_limit}
use Rattle.log_entries.specs.Entries.{size_at, count_at, ref_offset, ref_size, ref_place, chain_of}
use Rattle.log_versions.specs.declared.Version.{Version}
use Rattle.log_versions.specs.declared.Cursor.{Cursor}
use Rattle.log_versions.specs.Versions.{pages_from, entry_versions, versions}

-- n references of the entry at a, from reference i on, whose bytes lie from a place on
unfoldable pub refs_from : List ℕ → ℕ → ℕ → ℕ → ℕ → List Version
refs_from l a i zero place = []
refs_from l a i (suc n) place = pages_from (ref_size l a i / 512) (ref_offset l a i / 512) place ++ refs_from l a (suc i) n (place + ref_size l a i)

-- k entries, the first at a
unfoldable pub entries_from : List ℕ → ℕ → ℕ → List Version
entries_from l zero a = []
entries_from l (suc k) a = entry_versions l a (count_at l a) ++ entries_from l k (a + size_at l a)

-- what is left
unfoldable pub rest : List ℕ → Cursor → List Version
rest l c = pages_from c.pages c.page c.place ++ (refs_from l c.at c.index c.refs (c.place + 512 * c.pages) ++ entries_from l c.left c.end)

abbrev pub is_between : Cursor → Bool
is_between c = not (ltb 0 c.pages) && (ltb 0 c.refs || ltb 0 c.left)

-- ---- where they lie: in the log, and below the largest bins size

abbrev pub top : List ℕ → ℕ
top l = (chain_of l).largest

-- reference i of the entry at a, whose bytes lie at a place
pub record RefLies (l : List ℕ) (a i place : ℕ) : Type 0 where
  pub head : a + 48 + 8 * i ≤ length l
  pub ends : place + ref_size l a i ≤ length l
  pub whole : ref_size l a i % 512 ≡ 0
  pub aligned : ref_offset l a i % 512 ≡ 0
  pub inside : ref_offset l a i + ref_size l a i ≤ top l

unfoldable pub RefsLie : List ℕ → ℕ → ℕ → ℕ → ℕ → Type 0
RefsLie l a i zero place = Unit {0}
RefsLie l a i (suc n) place = RefLies l a i place × RefsLie l a (suc i) n (place + ref_size l a i)

-- the entry at a
pub record EntryLies (l : List ℕ) (a : ℕ) : Type 0 where
  pub head : a + 40 ≤ length l
  pub ends : a + size_at l a ≤ length l
  pub refs_end : ref_place l a (count_at l a) ≤ length l
  pub refs : RefsLie l a 0 (count_at l a) (ref_place l a 0)

unfoldable pub EntriesLie : List ℕ → ℕ → ℕ → Type 0
EntriesLie l zero a = Unit {0}
EntriesLie l (suc k) a = EntryLies l a × EntriesLie l k (a + size_at l a)

pub record Lies (l : List ℕ) (c : Cursor) : Type 0 where
  pub limit : top l ≤ bins_limit
  pub pages-end : c.place + 512 * c.pages ≤ length l
  pub pages-below : 512 * (c.page + c.pages) ≤ top l
  pub refs : RefsLie l c.at c.index c.refs (c.place + 512 * c.pages)
  pub entries : EntriesLie l c.left c.end

-- ---- how many steps into a reference or an entry are left

unfoldable pub steps_from : List ℕ → ℕ → ℕ → ℕ
steps_from l zero a = 0
steps_from l (suc k) a = suc (count_at l a + steps_from l k (a + size_at l a))

unfoldable pub steps : List ℕ → Cursor → ℕ
steps l c = c.refs + steps_from l c.left c.end

-- one such step: what is left stays
pub record Same (l : List ℕ) (c d : Cursor) : Type 0 where
  pub all : rest l d ≡ rest l c
  pub lies : Lies l d
  pub fewer : steps l d < steps l c

-- ---- what callers know

-- it stands at a page, or at the end
pub record Stands (l : List ℕ) (c : Cursor) : Type 0 where
  pub lies : Lies l c
  pub fits : 0 < c.pages → c.place + 512 ≤ length l
  pub below : 0 < c.pages → c.page < top l / 512
  pub over : c.pages ≡ 0 → rest l c ≡ []

pub record Begins (l : List ℕ) (c : Cursor) : Type 0 where
  pub all : rest l c ≡ versions l
  pub stands : Stands l c

pub record Moves (l : List ℕ) (c d : Cursor) : Type 0 where
  pub split : rest l c ≡ record { page = c.page; place = c.place } ∷ rest l d
  pub stands : Stands l d
