-- What the counted entries of a log l say of each 512-byte page: its versions, in order.
use Rattle.std.specs.Prelude.{ℕ, zero, suc, ◌+◌, ◌/◌, Bool, false, cond, ◌||◌, List, [], ◌∷◌, ◌++◌, eqb}
use Rattle.sectors.specs.Sector.{sector_at}
use Rattle.log_entries.specs.Entries.{count_at, ref_offset, ref_size, ref_place, Entry, counted}
use Rattle.log_versions.specs.declared.Version.{Version}

-- k pages from page p on, whose bytes lie from a place on
unfoldable pub pages_from : ℕ → ℕ → ℕ → List Version
pages_from zero p at = []
pages_from (suc k) p at = record { page = p; place = at } ∷ pages_from k (suc p) (at + 512)

-- of the first n references of the entry at a
unfoldable pub entry_versions : List ℕ → ℕ → ℕ → List Version
entry_versions l a zero = []
entry_versions l a (suc n) = entry_versions l a n ++ pages_from (ref_size l a n / 512) (ref_offset l a n / 512) (ref_place l a n)

unfoldable pub all_versions : List ℕ → List Entry → List Version
all_versions l [] = []
all_versions l (e ∷ es) = entry_versions l e.at (count_at l e.at) ++ all_versions l es

unfoldable pub versions : List ℕ → List Version
versions l = all_versions l (counted l)

-- the bytes of page p, in each version that names it
unfoldable pub bytes_in : List ℕ → ℕ → List Version → List (List ℕ)
bytes_in l p [] = []
bytes_in l p (v ∷ vs) = cond (eqb v.page p) (sector_at l v.place ∷ bytes_in l p vs) (bytes_in l p vs)

abbrev pub versions_of : List ℕ → ℕ → List (List ℕ)
versions_of l p = bytes_in l p (versions l)

unfoldable pub names : ℕ → List Version → Bool
names p [] = false
names p (v ∷ vs) = eqb v.page p || names p vs

abbrev pub is_logged : List ℕ → ℕ → Bool
is_logged l p = names p (versions l)

-- "A page named by several entries has the bytes of the last": where they lie (d: where no version names it)
unfoldable pub last_place : ℕ → ℕ → List Version → ℕ
last_place d p [] = d
last_place d p (v ∷ vs) = last_place (cond (eqb v.page p) v.place d) p vs

abbrev pub logged_place : List ℕ → ℕ → ℕ
logged_place l p = last_place 0 p (versions l)

unfoldable pub logged : List ℕ → ℕ → List ℕ
logged l p = sector_at l (logged_place l p)
