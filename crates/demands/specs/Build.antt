-- A hive from frames, the way back: what every stream of bytes is answered, what the built hive is, and what becomes of an export. s is the stream, sd
-- the security descriptor, out the lent buffer and room its length.
use Rattle.std.specs.Prelude.{ℕ, ◌-◌, ◌/◌, ◌≤◌, ◌<◌, ◌≡◌, ◌↔◌, length, take, drop, Err, Ok, Result}
use mathlib.Core.List.{List, Memᴰ}
use Rattle.fields.specs.declared.Fault.{Fault}
use Rattle.fields.specs.declared.Offset.{Offset}
use Rattle.fields.specs.Faults.{number_of, flaw, nowhere}
use Rattle.base.specs.Block.{bins_limit, sector, minor_of, bins_data}
use Rattle.cells.specs.Named.{data_at}
use Rattle.records.specs.Keys.{key_of, security_of}
use Rattle.tree.specs.declared.Report.{Report}
use Rattle.tree.specs.Tree.{keys_of, check_answer}
use Rattle.stream.specs.Stream.{stream_of}
use Rattle.forest.specs.Forest.{Forest, key_count, value_count, forest_frames}
use Rattle.forest.specs.Allowed.{AllBelow, OneRoot}
use Rattle.forest.specs.First.{FirstFault}
use Rattle.layout.specs.Layout.{item_at, used_of, bins_for, built_hive}
use Rattle.build_laws.specs.Read.{forest_of}
use Rattle.build_answers.specs.declared.Unbuilt.{Unbuilt}
use Rattle.build_answers.specs.Answers.{unbuilt, too_large, too_long, measure_answer, build_answer, build_out}

-- the stream is the frames of this forest, which has one root and is within all bounds
pub record Says (s : List ℕ) (f : Forest) : Type 0 where
  pub frames : s ≡ forest_frames f
  pub root : OneRoot f

-- an answer that is one of the refusals 30 to 38
pub record AtFault (a : Result ℕ Unbuilt) : Type 0 where
  pub why : Unbuilt
  pub refused : a ≡ Err why
  pub first : 30 ≤ number_of why.refusal.fault
  pub last : number_of why.refusal.fault ≤ 38

-- when each answer is given, of a stream of bytes
pub record Answered (s sd : List ℕ) (room : ℕ) : Type 0 where
  -- "Refused: frames not laid out as in ticket 10, a value after a subkey, a stream that isn't one balanced root key, unsorted subkeys, repeated names, names,
  -- data or levels outside 01's bounds, more than 65,535 subkeys": 30 to 38, exactly when the stream is the frames of no such forest; and there is one at most
  pub at-fault : AtFault (build_answer s sd room) ↔ ((f : Forest) → Says s f → ⊥)
  pub one-forest : (f g : Forest) → Says s f → Says s g → f ≡ g
  -- "the earliest frame at fault answers (the stream's end if a key stays open), then the lowest number"
  pub earliest : (c : Fault) (at : ℕ)
      → ((build_answer s sd room ≡ unbuilt (flaw c nowhere) at) × (30 ≤ number_of c) × (number_of c ≤ 38)) ↔ FirstFault s (flaw c nowhere) at
  -- "So is a layout over the bins size limit, before 20"
  pub over-limit : (build_answer s sd room ≡ too_large) ↔ ((f : Forest) × Says s f × (bins_limit < bins_for f (length sd)))
  -- "20 exactly when that layout is longer than the lent buffer"
  pub too-long : (build_answer s sd room ≡ too_long)
      ↔ ((f : Forest) × Says s f × (bins_for f (length sd) ≤ bins_limit) × (room < length (built_hive f sd)))
  -- else it is built, and the answer is its length
  pub built : (n : ℕ)
      → (build_answer s sd room ≡ Ok n) ↔ ((f : Forest) × Says s f × (bins_for f (length sd) ≤ bins_limit) × (n ≡ length (built_hive f sd)) × (n ≤ room))
  -- without a buffer the length is the same, and what is refused there is refused with any
  pub measured : (n : ℕ)
      → (measure_answer s (length sd) ≡ Ok n) ↔ ((f : Forest) × Says s f × (bins_for f (length sd) ≤ bins_limit) × (n ≡ length (built_hive f sd)))
  pub unmeasured : (u : Unbuilt) → measure_answer s (length sd) ≡ Err u → build_answer s sd room ≡ Err u

-- the hive h that is built of a stream, which says this forest
pub record Hive (s sd h : List ℕ) (f : Forest) : Type 0 where
  -- "build a version 1.5 hive: one bin, cells in stream order and each of the least size that fits, `lh` leaves, segments above 16,344 bytes, one free cell at
  -- the end if there is room, equal sequence numbers", byte for byte
  pub laid : h ≡ built_hive f sd
  pub version : minor_of (sector h) ≡ 5
  -- "one security descriptor lent beside it which all keys share": each key names the one item, and its descriptor, behind 20 bytes, is the lent one
  pub shared : (k : Offset) → Memᴰ k (keys_of h) → security_of (bins_data h) k ≡ record { 0 = item_at f }
  pub descriptor : take (length sd) (drop 20 (data_at (bins_data h) (record { 0 = item_at f }))) ≡ sd
  -- "The built hive is accepted", with every map that is large enough, as one bin with the forest's keys and values
  pub accepted : (m : List ℕ) → bins_for f (length sd) / 64 ≤ length m
      → check_answer h m
      ≡ Ok
      (record {
        bins = 1;
        keys = key_count f;
        values = value_count f;
        used = used_of f (length sd) - 32;
        free = bins_for f (length sd) - used_of f (length sd);
      })
  -- "and its export is the stream it came from"
  pub exported : stream_of h ≡ s

-- the export of an accepted hive, built
pub record Again (h sd : List ℕ) : Type 0 where
  -- it is the frames of the forest that its tree is, so none of 30 to 38 is its answer
  pub says : Says (stream_of h) (forest_of h)
  pub not-at-fault : (room : ℕ) → AtFault (build_answer (stream_of h) sd room) → ⊥
  -- it is built where the layout is within the limit and there is room
  pub built : (room : ℕ) → bins_for (forest_of h) (length sd) ≤ bins_limit → length (built_hive (forest_of h) sd) ≤ room
      → build_answer (stream_of h) sd room ≡ Ok (length (built_hive (forest_of h) sd))
  pub hive : (out : List ℕ) (n : ℕ) → build_answer (stream_of h) sd (length out) ≡ Ok n → Hive (stream_of h) sd (take n (build_out (stream_of h) sd out)) (forest_of h)

pub record Building : Type 0 where
  pub answers : (s sd : List ℕ) (room : ℕ) → AllBelow 256 s → Answered s sd room
  pub hives : (s sd out : List ℕ) (n : ℕ) → AllBelow 256 s → build_answer s sd (length out) ≡ Ok n
      → (f : Forest) × Says s f × Hive s sd (take n (build_out s sd out)) f
  -- what stands behind the hive stays
  pub behind : (s sd out : List ℕ) (n : ℕ) → build_answer s sd (length out) ≡ Ok n → drop n (build_out s sd out) ≡ drop n out
  -- of a hive whose keys have at most 65,535 subkeys
  pub again : (h m sd : List ℕ) (r : Report) → check_answer h m ≡ Ok r → AllBelow 256 h
      → ((k : Offset) → Memᴰ k (keys_of h) → (key_of (bins_data h) k).subkeys ≤ 65535) → Again h sd
