-- What the code reads of a stream s, in the words of the definitions, and what it asks of its callers.
use Rattle.std.specs.Prelude.{ℕ, ◌+◌, ◌-◌, ◌*◌, ◌%◌, ◌≤◌, ◌≡◌, Bool, false, List, length, take, drop}
use Rattle.names.specs.Codes.{codes}
use Rattle.values.specs.Records.{segment_size}
use Rattle.values.specs.Segments.{segments_for}
use Rattle.layout.specs.Layout.{cell_size, is_narrow, stored}
use Rattle.forest.specs.Forest.{Item}
use Rattle.forest.specs.Faults.{Shape as Said, unlaid, opens, holds, closes, frame_len}
use Rattle.build_frames.specs.declared.Text.{Text}
use Rattle.build_frames.specs.declared.Held.{Held}
use Rattle.build_frames.specs.declared.Shape.{Shape}
use Rattle.build_frames.specs.declared.Shape.TheVariants.{Unlaid, Opens, Holds, Closes}

-- the bytes of a text; the codes of a name, which is "in UTF-16LE"
abbrev pub text_in : List ℕ → Text → List ℕ
text_in s t = take t.len (drop t.at s)

unfoldable pub name_in : List ℕ → Text → List ℕ
name_in s t = codes false (text_in s t)

-- a value, and what a frame says
abbrev pub item_in : List ℕ → Held → Item
item_in s v = record { kind = v.kind; name = name_in s v.name; bytes = text_in s v.«data» }

abbrev pub shape_in : List ℕ → Shape → Said
shape_in s Unlaid = unlaid
shape_in s (Opens o) = opens o.stamp (name_in s o.name)
shape_in s (Holds v) = holds (item_in s v)
shape_in s Closes = closes

-- a text lies in the stream; a name has whole characters
abbrev pub TextLies : List ℕ → Text → Type 0
TextLies s t = t.at + t.len ≤ length s

pub record NameLies (s : List ℕ) (t : Text) : Type 0 where
  pub inside : TextLies s t
  pub even : t.len % 2 ≡ 0

pub record HeldLies (s : List ℕ) (v : Held) : Type 0 where
  pub name : NameLies s v.name
  pub bytes : TextLies s v.«data»

abbrev pub Lies : List ℕ → Shape → Type 0
Lies s Unlaid = Unit
Lies s (Opens o) = NameLies s o.name
Lies s (Holds v) = HeldLies s v
Lies s Closes = Unit

-- what is read of a frame: what it says, and its texts lie in the stream
pub record ReadAs (s : List ℕ) (f : Said) (r : Shape) : Type 0 where
  pub is : shape_in s r ≡ f
  pub lies : Lies s r

-- where the frame at a position ends
pub record Ends (s : List ℕ) (at r : ℕ) : Type 0 where
  pub is : r ≡ at + frame_len (drop at s)
  pub inside : r ≤ length s
  pub further : at + 6 ≤ r

-- how many bytes a name has as it is stored, no more than it has in the stream
pub record StoredAs (s : List ℕ) (t : Text) (r : ℕ) : Type 0 where
  pub is : r ≡ length (stored (name_in s t))
  pub few : r ≤ t.len

-- the same of a name that is told to be narrow or not, in whichever stream it lies
abbrev pub StoredBy : Text → Bool → ℕ → Type 0
StoredBy t narrow r = (s : List ℕ) → NameLies s t → narrow ≡ is_narrow (name_in s t) → StoredAs s t r

-- the cells of segmented data: the part of `data_size` for more than one segment holds
abbrev pub segmented_size : ℕ → ℕ
segmented_size n =
    let count = segments_for n in
    cell_size 8 + (cell_size (4 * count) + ((count - 1) * cell_size segment_size + cell_size (n - (count - 1) * segment_size)))

-- a value whose name and data are within their bounds
pub record HeldFits (s : List ℕ) (v : Held) : Type 0 where
  pub lies : HeldLies s v
  pub short : v.name.len ≤ 32767
  pub small : v.«data».len ≤ 1048576
