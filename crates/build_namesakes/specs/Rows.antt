-- Value frames that stand in a row in a stream s.
use Rattle.std.specs.Prelude.{ℕ, zero, suc, ◌+◌, ◌<◌, ◌≡◌, List, drop}
use Rattle.fields.specs.Number.{u32_at}
use Rattle.forest.specs.Forest.{Item}
use Rattle.forest.specs.Faults.{holds, frame_len, shape_of}
use Rattle.build_frames.specs.declared.Text.{Text}
use Rattle.build_frames.specs.Terms.{name_in}

-- where frame j of a row starts: each behind the one before it
unfoldable pub start_of : List ℕ → ℕ → ℕ → ℕ
start_of s at zero = at
start_of s at (suc j) = start_of s at j + frame_len (drop (start_of s at j) s)

-- a value's frame starts at a position
abbrev pub Held : List ℕ → ℕ → Type 0
Held s p = (v : Item) × (shape_of (drop p s) ≡ holds v)

-- n value frames in a row
pub record Row (s : List ℕ) (at n : ℕ) : Type 0 where
  pub each : (j : ℕ) → j < n → Held s (start_of s at j)

-- "17 is a value (4-byte type, 4-byte name length in bytes, name in UTF-16LE, data)", behind the frame's six bytes
abbrev pub name_text : List ℕ → ℕ → Text
name_text s p = record { at = p + 14; len = u32_at s (p + 10) }

unfoldable pub name_at : List ℕ → ℕ → List ℕ
name_at s p = name_in s (name_text s p)

-- the names of a row's values
abbrev pub called : List ℕ → ℕ → ℕ → List ℕ
called s at j = name_at s (start_of s at j)
