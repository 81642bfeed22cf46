-- The tree of a hive "in our house frames". d is the bins data, minor the hive's minor version, h the hive.
use Rattle.std.specs.Prelude.{ℕ, zero, suc, ◌*◌, List, [], ◌∷◌, ◌++◌, length}
use Rattle.fields.specs.declared.Offset.{Offset}
use Rattle.base.specs.Block.{bins_data}
use Rattle.cells.specs.Named.{part_in}
use Rattle.records.specs.declared.Child.{Child}
use Rattle.records.specs.Keys.{key_of, codes_of}
use Rattle.records.specs.Lists.{children}
use Rattle.values.specs.declared.Value.{Value}
use Rattle.values.specs.Records.{value_of}
use Rattle.values.specs.Segments.{bytes_of}
use Rattle.values.specs.Lists.{values_of}
use Rattle.tree.specs.Tree.{name_at, levels, hive_of}
use Rattle.fields.specs.Number.{le16, le32}

-- ---- a frame

-- "4-byte payload length, 2-byte kind, payload"
unfoldable pub frame : ℕ → List ℕ → List ℕ
frame kind p = le32 (length p) ++ le16 kind ++ p

-- "name in UTF-16LE": each code as its low byte and its high byte, and a one-byte character is its own code
unfoldable pub wide : List ℕ → List ℕ
wide [] = []
wide (c ∷ cs) = le16 c ++ wide cs

-- "Kind 16 opens a key (stamp, name in UTF-16LE)": the stamp is the 8 bytes at 4 of the key's record, as they stand
unfoldable pub open_frame : List ℕ → Offset → List ℕ
open_frame d k = frame 16 (part_in d k 4 8 ++ wide (name_at d k))

-- "17 is a value (4-byte type, 4-byte name length in bytes, name in UTF-16LE, data)": the length is that of the UTF-16LE name
unfoldable pub framed_value : List ℕ → Value → List ℕ
framed_value d x =
    let cs = codes_of d x.name in
    frame 17 (le32 x.kind ++ le32 (2 * length cs) ++ wide cs ++ bytes_of d x.content)

abbrev pub value_frame : List ℕ → ℕ → Offset → List ℕ
value_frame d minor v = framed_value d (value_of d minor v)

-- "18, empty, closes a key"
unfoldable pub close_frame : List ℕ
close_frame = frame 18 []

-- ---- the frames of a tree

-- a frame, and the key that is the frame's: that it opens, that has the value, that it closes
pub record Framed : Type 0 where
  pub key : Offset
  pub bytes : List ℕ

abbrev pub opens : List ℕ → Offset → Framed
opens d k = record { key = k; bytes = open_frame d k }

abbrev pub holds : List ℕ → ℕ → Offset → Offset → Framed
holds d minor k v = record { key = k; bytes = value_frame d minor v }

abbrev pub closes : Offset → Framed
closes k = record { key = k; bytes = close_frame }

-- "Pre-order, values before subkeys, in list order": the key opens, its values, its subkeys' frames joined, the key closes
unfoldable pub value_frames : List ℕ → ℕ → Offset → List Offset → List Framed
value_frames d minor k [] = []
value_frames d minor k (v ∷ vs) = holds d minor k v ∷ value_frames d minor k vs

unfoldable pub own_frames : List ℕ → ℕ → Offset → List Framed
own_frames d minor k = opens d k ∷ value_frames d minor k (values_of d (key_of d k))

unfoldable pub frames_over : (Offset → List Framed) → List Child → List Framed
frames_over f [] = []
frames_over f (c ∷ cs) = f c.at ++ frames_over f cs

-- of a tree of so many levels
unfoldable pub frames_in : List ℕ → ℕ → ℕ → Offset → List Framed
frames_in d minor zero k = []
frames_in d minor (suc n) k = own_frames d minor k ++ (frames_over (frames_in d minor n) (children d k) ++ (closes k ∷ []))

-- from the root
abbrev pub frames_of : List ℕ → List Framed
frames_of h = frames_in (bins_data h) (hive_of h).minor levels (hive_of h).root

-- ---- "one defined stream"

unfoldable pub value_stream : List ℕ → ℕ → List Offset → List ℕ
value_stream d minor [] = []
value_stream d minor (v ∷ vs) = value_frame d minor v ++ value_stream d minor vs

unfoldable pub stream_over : (Offset → List ℕ) → List Child → List ℕ
stream_over f [] = []
stream_over f (c ∷ cs) = f c.at ++ stream_over f cs

unfoldable pub stream_in : List ℕ → ℕ → ℕ → Offset → List ℕ
stream_in d minor zero k = []
stream_in d minor (suc n) k =
    open_frame d k ++ (value_stream d minor (values_of d (key_of d k)) ++ (stream_over (stream_in d minor n) (children d k) ++ close_frame))

abbrev pub stream_of : List ℕ → List ℕ
stream_of h = stream_in (bins_data h) (hive_of h).minor levels (hive_of h).root

-- "The frames of all steps joined"
unfoldable pub joined_frames : List Framed → List ℕ
joined_frames [] = []
joined_frames (f ∷ fs) = f.bytes ++ joined_frames fs
