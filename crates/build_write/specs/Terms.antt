-- What the code reads of a stream that is known to be good, what it asks of its callers, and what its loops keep.
use Rattle.std.specs.Prelude.{ℕ, suc, ◌+◌, ◌*◌, ◌≤◌, ◌<◌, ◌≡◌, Bool, true, false, length, take, drop}
use mathlib.Core.List.{List, ◌++◌, Memᴰ}
use Rattle.std.proofs.lemmas.List.Edits.{sets}
use Rattle.fields.specs.Number.{le32}
use Rattle.names.specs.Hashing.{hash_of}
use Rattle.stream.specs.Stream.{close_frame}
use Rattle.forest.specs.Forest.{Item, Forest, none, more, key_frame, item_frames, forest_frames, count_of, key_count}
use Rattle.forest.specs.Faults.{Shape as Said, unlaid, opens, holds, closes, shape_of, frame_len, is_laid}
use Rattle.forest.specs.Allowed.{ItemAllowed, KeyName, KeyAllowed, Allowed, OneRoot}
use Rattle.layout.specs.Layout.{cell_size, cell_bytes, row_bytes, is_narrow, stored, value_cells, values_cells, value_size, values_size, list_size, leaf_size, size_of, values_at, below_at, leaf_at, beside_at, key_record, list_cells, leaf_cells, cells_of, bins_for, larger, longest_name, longest_data, longest_key}
use Rattle.build_frames.specs.declared.Held.{Held}
use Rattle.build_frames.specs.declared.Opening.{Opening}
use Rattle.build_frames.specs.Terms.{name_in, item_in, NameLies, HeldLies}
use Rattle.build_write.specs.declared.Written.{Written}
use Rattle.build_write.specs.declared.Listing.{Listing}
use Rattle.build_write.specs.declared.Elements.{Elements}
use Rattle.build_write.specs.declared.SubkeysProgress.{SubkeysProgress}
use Rattle.build_write.specs.declared.KeyProgress.{KeyProgress}

-- whether a frame is a value
unfoldable pub is_value : Said → Bool
is_value unlaid = false
is_value (opens s x) = false
is_value (holds v) = true
is_value closes = false

-- whether a frame opens a key
unfoldable pub is_opening : Said → Bool
is_opening unlaid = false
is_opening (opens s x) = true
is_opening (holds v) = false
is_opening closes = false

-- the value of the frame at a position
pub record Holding (s : List ℕ) (at : ℕ) (v : Held) : Type 0 where
  pub is : shape_of (drop at s) ≡ holds (item_in s v)
  pub lies : HeldLies s v

-- the key that the frame at a position opens
pub record Opened (s : List ℕ) (at : ℕ) (o : Opening) : Type 0 where
  pub is : shape_of (drop at s) ≡ opens o.stamp (name_in s o.name)
  pub lies : NameLies s o.name

-- so many bytes of cells from an offset on: the offsets fit, and the cells stand in the buffer behind the base block
pub record Room (offset size n : ℕ) : Type 0 where
  pub low : offset + size < 2147483648
  pub inside : 4096 + offset + size ≤ n

-- the values of a key, from a position on, and what stands behind them: a frame that is no value
pub record ValuesHere (s : List ℕ) (at : ℕ) (vs : List Item) (t : List ℕ) : Type 0 where
  pub starts : at ≤ length s
  pub frames : drop at s ≡ item_frames vs ++ t
  pub each : (v : Item) → Memᴰ v vs → ItemAllowed v
  pub laid : is_laid (shape_of t) ≡ true
  pub ends : is_value (shape_of t) ≡ false

-- there are some, whose cells have room from an offset on in a buffer of so many bytes
abbrev pub SomeValues : List ℕ → ℕ → ℕ → ℕ → Type 0
SomeValues s at offset n = (vs : List Item) × (t : List ℕ) × ValuesHere s at vs t × Room offset (values_size vs) n

-- the frame at a position holds a value that is allowed, and its cells have room
pub record NextFits (s : List ℕ) (w : Written) (v : Item) (n : ℕ) : Type 0 where
  pub starts : w.at ≤ length s
  pub is : shape_of (drop w.at s) ≡ holds v
  pub allowed : ItemAllowed v
  pub room : Room w.offset (value_size v) n
  pub few : w.count ≤ w.offset

abbrev pub SomeNext : List ℕ → Written → ℕ → Type 0
SomeNext s w n = (v : Item) × NextFits s w v n

-- one value more is written
pub record OneMore (s : List ℕ) (w : Written) (before after : List ℕ) (v : Item) (r : Written) : Type 0 where
  pub bytes : after ≡ sets before (4096 + w.offset) (row_bytes (value_cells v w.offset))
  pub ends : r.at ≡ w.at + frame_len (drop w.at s)
  pub inside : r.at ≤ length s
  pub further : w.at < r.at
  pub counted : r.count ≡ w.count + 1
  pub behind : r.offset ≡ w.offset + value_size v
  pub name : r.longest_name ≡ larger w.longest_name (2 * length v.name)
  pub «data» : r.longest_data ≡ larger w.longest_data (length v.bytes)

-- all values of a key are written
pub record AllWritten (at offset : ℕ) (before after : List ℕ) (vs : List Item) (r : Written) : Type 0 where
  pub bytes : after ≡ sets before (4096 + offset) (row_bytes (values_cells vs offset))
  pub ends : r.at ≡ at + length (item_frames vs)
  pub counted : r.count ≡ length vs
  pub behind : r.offset ≡ offset + values_size vs
  pub name : r.longest_name ≡ longest_name vs
  pub «data» : r.longest_data ≡ longest_data vs

-- the frame at a position holds a value that is allowed, its offset fits, and there is room for it
pub record ListFits (s : List ℕ) (p : Listing) (v : Item) (n : ℕ) : Type 0 where
  pub starts : p.at ≤ length s
  pub is : shape_of (drop p.at s) ≡ holds v
  pub allowed : ItemAllowed v
  pub low : p.offset + value_size v < 2147483648
  pub room : p.place + 4 ≤ n

abbrev pub SomeListed : List ℕ → Listing → ℕ → Type 0
SomeListed s p n = (v : Item) × ListFits s p v n

-- one offset more is written
pub record ListedMore (s : List ℕ) (p : Listing) (before after : List ℕ) (v : Item) (r : Listing) : Type 0 where
  pub bytes : after ≡ sets before p.place (le32 p.offset)
  pub ends : r.at ≡ p.at + frame_len (drop p.at s)
  pub inside : r.at ≤ length s
  pub further : p.at < r.at
  pub behind : r.offset ≡ p.offset + value_size v
  pub onward : r.place ≡ p.place + 4

-- some values, whose offsets fit and have room
abbrev pub SomeOffsets : List ℕ → ℕ → ℕ → ℕ → ℕ → Type 0
SomeOffsets s at place first n =
    (vs : List Item) × (t : List ℕ) × ValuesHere s at vs t × (first + values_size vs < 2147483648) × (place + 4 * length vs ≤ n)

-- so many values, whose list has room from an offset on
abbrev pub SomeList : List ℕ → ℕ → ℕ → ℕ → ℕ → ℕ → Type 0
SomeList s at count list first n =
    (vs : List Item) × (t : List ℕ) × ValuesHere s at vs t × (count ≡ length vs) × (first + values_size vs < 2147483648) × Room list (list_size count) n

-- ---- what stands in the buffer

-- the key whose cell stands at an offset
pub record KeyStands (out : List ℕ) (offset : ℕ) (x : List ℕ) (vs : List Item) (b : Forest) : Type 0 where
  pub stamp : ℕ
  pub parent : ℕ
  pub item : ℕ
  pub stands : take (cell_size (76 + length (stored x))) (drop (4096 + offset) out) ≡ cell_bytes (key_record stamp x vs b offset parent item)
  pub inside : 4096 + offset + cell_size (76 + length (stored x)) ≤ length out
  pub name : KeyName x
  pub parent-fits : parent < 4294967296
  pub low : beside_at x vs b offset < 2147483648

abbrev pub SomeKey : List ℕ → ℕ → Type 0
SomeKey out offset = (x : List ℕ) × (vs : List Item) × (b : Forest) × KeyStands out offset x vs b

-- the keys side by side whose cells, with all that is theirs, stand from an offset on
pub record KeysStand (out : List ℕ) (offset : ℕ) (f : Forest) : Type 0 where
  pub levels : ℕ
  pub parent : ℕ
  pub item : ℕ
  pub stands : take (size_of f) (drop (4096 + offset) out) ≡ row_bytes (cells_of f offset parent item)
  pub inside : 4096 + offset + size_of f ≤ length out
  pub allowed : Allowed levels f
  pub parent-fits : parent < 4294967296
  pub low : offset + size_of f < 2147483648

-- a key stands there, and there is room for its element
abbrev pub SomeElement : List ℕ → Elements → Type 0
SomeElement out p = (0 < p.left) × (p.place + 8 ≤ length out) × SomeKey out p.offset

-- one element more is written
pub record ElementMore (p : Elements) (before after : List ℕ) (x : List ℕ) (vs : List Item) (b : Forest) (r : Elements) : Type 0 where
  pub bytes : after ≡ sets before p.place (le32 p.offset ++ le32 (hash_of x))
  pub fewer : p.left ≡ suc r.left
  pub behind : r.offset ≡ beside_at x vs b p.offset
  pub onward : r.place ≡ p.place + 8

-- so many keys stand there, and there is room for their elements behind them
abbrev pub SomeElements : List ℕ → ℕ → ℕ → ℕ → Type 0
SomeElements out place first n = (f : Forest) × KeysStand out first f × (n ≡ count_of f) × (4096 + first + size_of f ≤ place) × (place + 8 * n ≤ length out)

-- so many keys stand there, and there is room for their leaf behind them
abbrev pub SomeLeaf : List ℕ → ℕ → ℕ → ℕ → Type 0
SomeLeaf out first n leaf =
    (f : Forest) × KeysStand out first f × (n ≡ count_of f) × (n ≤ 65535) × (first + size_of f ≤ leaf) × Room leaf (leaf_size n) (length out)

-- ---- keys with all that is theirs

-- the frame of a key at a position, then its values, the keys below it, its closing, and what stands behind that
pub record KeyHere (s : List ℕ) (at n sh : ℕ) (x : List ℕ) (vs : List Item) (b : Forest) (t : List ℕ) : Type 0 where
  pub starts : at ≤ length s
  pub frames : drop at s ≡ key_frame sh x ++ (item_frames vs ++ (forest_frames b ++ (close_frame ++ t)))
  pub allowed : KeyAllowed sh x vs b
  pub deeper : Allowed n b

-- there is one, whose cells have room from an offset on
abbrev pub SomeStart : List ℕ → ℕ → ℕ → ℕ → Type 0
SomeStart s at offset m =
    (n : ℕ) × (sh : ℕ) × (x : List ℕ) × (vs : List Item) × (b : Forest) × (t : List ℕ) × KeyHere s at n sh x vs b t × Room offset (size_of (more sh x vs b none)) m

-- its values and its value list are written
pub record Started (s : List ℕ) (offset : ℕ) (before after : List ℕ) (sh : ℕ) (x : List ℕ) (vs : List Item) (b : Forest) (t : List ℕ) (r : KeyProgress) : Type 0 where
  pub lies : NameLies s r.name
  pub stamped : r.stamp ≡ sh
  pub named : name_in s r.name ≡ x
  pub narrow : r.narrow ≡ is_narrow x
  pub bytes : after ≡ sets before (4096 + values_at x offset) (row_bytes (values_cells vs (values_at x offset) ++ list_cells vs (values_at x offset)))
  pub inside : r.at ≤ length s
  pub frames : drop r.at s ≡ forest_frames b ++ (close_frame ++ t)
  pub counted : r.count ≡ length vs
  pub behind : r.offset ≡ below_at x vs offset
  pub name : r.longest_name ≡ longest_name vs
  pub «data» : r.longest_data ≡ longest_data vs

-- what a key's record needs, of a key at an offset
pub record Known (s : List ℕ) (offset : ℕ) (w : KeyProgress) (c : SubkeysProgress) (sh : ℕ) (x : List ℕ) (vs : List Item) (b : Forest) : Type 0 where
  pub levels : ℕ
  pub lies : NameLies s w.name
  pub stamped : w.stamp ≡ sh
  pub named : name_in s w.name ≡ x
  pub narrow : w.narrow ≡ is_narrow x
  pub allowed : KeyAllowed sh x vs b
  pub deeper : Allowed levels b
  pub values : w.count ≡ length vs
  pub below : w.offset ≡ below_at x vs offset
  pub name : w.longest_name ≡ longest_name vs
  pub «data» : w.longest_data ≡ longest_data vs
  pub subkeys : c.count ≡ count_of b
  pub leaf : c.offset ≡ leaf_at x vs b offset
  pub keys : c.longest ≡ longest_key b
  pub low : beside_at x vs b offset < 2147483648

abbrev pub SomeKnown : List ℕ → ℕ → KeyProgress → SubkeysProgress → ℕ → ℕ → ℕ → Type 0
SomeKnown s offset w c parent item m =
    (sh : ℕ) × (x : List ℕ) × (vs : List Item) × (b : Forest) × Known s offset w c sh x vs b × (parent < 4294967296) × (item < 4294967296)
    × (4096 + offset + cell_size (76 + length (stored x)) ≤ m)

-- the keys below a key are written
pub record Under (s out : List ℕ) (p : SubkeysProgress) (w : KeyProgress) (c : SubkeysProgress) (n sh : ℕ) (x : List ℕ) (vs : List Item) (b : Forest) (t : List ℕ) : Type 0 where
  pub here : KeyHere s p.at n sh x vs b t
  pub stand : KeysStand out w.offset b
  pub lies : NameLies s w.name
  pub stamped : w.stamp ≡ sh
  pub named : name_in s w.name ≡ x
  pub narrow : w.narrow ≡ is_narrow x
  pub values : w.count ≡ length vs
  pub below : w.offset ≡ below_at x vs p.offset
  pub name : w.longest_name ≡ longest_name vs
  pub «data» : w.longest_data ≡ longest_data vs
  pub subkeys : c.count ≡ count_of b
  pub leaf : c.offset ≡ leaf_at x vs b p.offset
  pub keys : c.longest ≡ longest_key b
  pub inside : c.at ≤ length s
  pub frames : drop c.at s ≡ close_frame ++ t
  pub room : Room p.offset (size_of (more sh x vs b none)) (length out)
  pub few : p.count ≤ p.offset

abbrev pub SomeUnder : List ℕ → List ℕ → SubkeysProgress → KeyProgress → SubkeysProgress → Type 0
SomeUnder s out p w c = (n : ℕ) × (sh : ℕ) × (x : List ℕ) × (vs : List Item) × (b : Forest) × (t : List ℕ) × Under s out p w c n sh x vs b t

-- its leaf and its own cell are written
pub record Finished (s : List ℕ) (p : SubkeysProgress) (parent item : ℕ) (before after : List ℕ) (sh : ℕ) (x : List ℕ) (vs : List Item) (b : Forest) (t : List ℕ) (r : SubkeysProgress) : Type 0 where
  pub bytes : after ≡ sets (sets before (4096 + leaf_at x vs b p.offset) (row_bytes (leaf_cells b (below_at x vs p.offset)))) (4096 + p.offset) (cell_bytes (key_record sh x vs b p.offset parent item))
  pub inside : r.at ≤ length s
  pub frames : drop r.at s ≡ t
  pub behind : r.offset ≡ beside_at x vs b p.offset
  pub counted : r.count ≡ p.count + 1
  pub longest : r.longest ≡ larger p.longest (2 * length x)

-- the keys side by side from a position on, of at most so many levels, and what stands behind them: nothing, or a frame that opens no key
pub record ForestHere (s : List ℕ) (at levels : ℕ) (f : Forest) (t : List ℕ) : Type 0 where
  pub starts : at ≤ length s
  pub frames : drop at s ≡ forest_frames f ++ t
  pub allowed : Allowed levels f
  pub laid : 0 < length t → is_laid (shape_of t) ≡ true
  pub ends : is_opening (shape_of t) ≡ false

abbrev pub SomeForest : List ℕ → ℕ → ℕ → ℕ → ℕ → ℕ → ℕ → Type 0
SomeForest s at levels offset parent item m =
    (f : Forest) × (t : List ℕ) × ForestHere s at levels f t × Room offset (size_of f) m × (parent < 4294967296) × (item < 4294967296)

-- all of them are written
pub record ForestWritten (s : List ℕ) (offset parent item : ℕ) (before after : List ℕ) (f : Forest) (t : List ℕ) (r : SubkeysProgress) : Type 0 where
  pub bytes : after ≡ sets before (4096 + offset) (row_bytes (cells_of f offset parent item))
  pub inside : r.at ≤ length s
  pub frames : drop r.at s ≡ t
  pub behind : r.offset ≡ offset + size_of f
  pub counted : r.count ≡ count_of f
  pub longest : r.longest ≡ longest_key f

-- ---- the hive

-- a stream of one root key, the descriptor of all keys, and what the first pass counted of it; the hive has room
pub record Planned (s sd : List ℕ) (keys total m : ℕ) (f : Forest) : Type 0 where
  pub frames : s ≡ forest_frames f
  pub root : OneRoot f
  pub counted : keys ≡ key_count f
  pub size : total ≡ size_of f
  pub low : bins_for f (length sd) < 2147483648
  pub room : 4096 + bins_for f (length sd) ≤ m

abbrev pub SomePlan : List ℕ → List ℕ → ℕ → ℕ → ℕ → Type 0
SomePlan s sd keys total m = (f : Forest) × Planned s sd keys total m f
