-- Windows of a log's pages: a map with one bit for each page from a number on, which each version of the page sets or clears in turn.
use Rattle.std.specs.Prelude.{ℕ, ◌+◌, ◌-◌, ◌*◌, ◌/◌, ◌<◌, ◌≡◌, Bool, true, cond, not, ◌&&◌, List, [], ◌∷◌, eqb, leb, ltb, length}
use Rattle.fields.specs.Bytes.{same_bytes}
use Rattle.bitmap.specs.Bits.{is_marked, with_bit}
use Rattle.sectors.specs.Sector.{sector_at, page}
use Rattle.log_versions.specs.declared.Version.{Version}

-- what is said of the last version that names page p (b: where none does); `says` goes by a page and by where the version's bytes lie
unfoldable pub last_bit : (ℕ → ℕ → Bool) → Bool → ℕ → List Version → Bool
last_bit says b p [] = b
last_bit says b p (v ∷ vs) = last_bit says (cond (eqb v.page p) (says p v.place) b) p vs

-- whether a window that starts at page `base` has a bit for page p
abbrev pub has_page : List ℕ → ℕ → ℕ → Bool
has_page map base p = leb base p && ltb ((p - base) / 8) (length map)

-- that window with the bit of page p set or cleared, where it has one
unfoldable pub in_window : List ℕ → ℕ → ℕ → Bool → List ℕ
in_window map base p on = cond (has_page map base p) (with_bit map (p - base) on) map

-- a window after the versions vs, where it was `old`
pub record Windowed (says : ℕ → ℕ → Bool) (base : ℕ) (vs : List Version) (old new : List ℕ) : Type 0 where
  pub long : length new ≡ length old
  pub bits : (k : ℕ) → k < 8 * length old → is_marked new k ≡ last_bit says (is_marked old k) (base + k) vs

-- of every version
abbrev pub always : ℕ → ℕ → Bool
always p place = true

-- of one whose bytes the hive h does not have there
abbrev pub differs : List ℕ → List ℕ → ℕ → ℕ → Bool
differs h l p place = not (same_bytes (page h p) (sector_at l place))
