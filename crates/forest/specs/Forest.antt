-- A stream of frames as data: "one balanced root key", each key with its values and then its subkeys.
use Rattle.std.specs.Prelude.{ℕ, suc, ◌+◌, ◌*◌, List, [], ◌∷◌, ◌++◌, length}
use Rattle.fields.specs.Number.{le32, le64}
use Rattle.stream.specs.Stream.{frame, wide, close_frame}

-- "17 is a value (4-byte type, 4-byte name length in bytes, name in UTF-16LE, data)": a name is the list of its codes
pub record Item : Type 0 where
  pub kind : ℕ
  pub name : List ℕ
  pub bytes : List ℕ

-- nothing more, or a key with its stamp, its name, its values, the keys below it and the keys beside it that come later
pub data Forest : Type 0 where
  none : Forest
  more : (stamp : ℕ) (name : List ℕ) (values : List Item) (below beside : Forest) → Forest

-- how many keys stand side by side, and how many there are in all
unfoldable pub count_of : Forest → ℕ
count_of none = 0
count_of (more s x vs b r) = suc (count_of r)

unfoldable pub key_count : Forest → ℕ
key_count none = 0
key_count (more s x vs b r) = suc (key_count b + key_count r)

unfoldable pub value_count : Forest → ℕ
value_count none = 0
value_count (more s x vs b r) = length vs + (value_count b + value_count r)

-- the names of the keys side by side, and those of some values
unfoldable pub names_of : Forest → List (List ℕ)
names_of none = []
names_of (more s x vs b r) = x ∷ names_of r

unfoldable pub item_names : List Item → List (List ℕ)
item_names [] = []
item_names (v ∷ vs) = v.name ∷ item_names vs

-- ---- "in our house frames"

-- "Kind 16 opens a key (stamp, name in UTF-16LE)"
unfoldable pub key_frame : ℕ → List ℕ → List ℕ
key_frame s x = frame 16 (le64 s ++ wide x)

unfoldable pub item_frame : Item → List ℕ
item_frame v = frame 17 (le32 v.kind ++ (le32 (2 * length v.name) ++ (wide v.name ++ v.bytes)))

unfoldable pub item_frames : List Item → List ℕ
item_frames [] = []
item_frames (v ∷ vs) = item_frame v ++ item_frames vs

-- "Pre-order, values before subkeys, in list order"; "18, empty, closes a key"
unfoldable pub forest_frames : Forest → List ℕ
forest_frames none = []
forest_frames (more s x vs b r) = key_frame s x ++ (item_frames vs ++ (forest_frames b ++ (close_frame ++ forest_frames r)))
