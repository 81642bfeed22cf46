-- Demand 2, clause by clause in the customer's order.
use Rattle.std.specs.Prelude.{ℕ, ◌+◌, ◌*◌, ◌/◌, ◌<◌, ◌≤◌, ◌≡◌, true, false, ◌↔◌, length, drop, Err, Ok}
use mathlib.Core.List.{List, [], ◌++◌, Memᴰ}
use Rattle.fields.specs.declared.Fault.TheVariants.{PathParts, NoKey, NoValue, Segmented, OutputShort}
use Rattle.fields.specs.declared.Offset.{Offset}
use Rattle.fields.specs.declared.Refusal.{Refusal}
use Rattle.fields.specs.Faults.{flaw, nowhere, no_key, refusal_of}
use Rattle.base.specs.Block.{sector, bins_of, minor_of, bins_data}
use Rattle.sectors.specs.Sector.{Bytes}
use Rattle.cells.specs.Tiled.{BinsTile}
use Rattle.cells.specs.Counts.{cells_in, bin_count, used_bytes, free_bytes}
use Rattle.records.specs.Keys.{key_of}
use Rattle.values.specs.declared.ValueData.{ValueData}
use Rattle.values.specs.declared.ValueData.TheVariants.{Segments}
use Rattle.values.specs.Records.{data_in, value_of}
use Rattle.values.specs.Segments.{bytes_of, length_of}
use Rattle.values.specs.Lists.{values_of}
use Rattle.tree.specs.declared.Report.{Report}
use Rattle.tree.specs.Tree.{hive_of, keys_of, values_in, check_answer}
use Rattle.records.specs.Listed.{Once}
use Rattle.tree.specs.WellFormed.{CleanAndWellFormed}
use Rattle.paths.specs.Paths.{is_path, parts_of}
use Rattle.paths.specs.Answers.{find_answer, quick_answer}
use Rattle.paths.specs.Reach.{Holds, FoundAgain, Deepest}
use Rattle.lookup.specs.declared.Info.{Info}
use Rattle.lookup.specs.Answers.{info_of, info_answer, view_answer, view_start, view_bytes, copy_answer, copy_out, quick_info, quick_view, quick_view_start, quick_view_bytes, quick_copy, quick_out}
use Rattle.lookup.specs.Reach.{FirstNamed, OnlyNamed}
use Rattle.logs.specs.Logs.{logged_count}
use Rattle.recovery.specs.declared.Started.TheVariants as started
use Rattle.recovery.specs.Calls.{start_answer, close_hive}
use Rattle.recovery.specs.Accepted.{Accepted}
use Rattle.recovery.specs.Finished.{Covers, Repaired, finished}
use Rattle.recovery.specs.AtOnce.{all_hive}

-- the data that the record of the value at an offset names
abbrev pub data_for : List ℕ → Offset → ValueData
data_for h v = data_in (bins_data h) (minor_of (sector h)) v

-- "a value's data are the bytes its record names": what the value calls answer where the path leads to the key k and the name to its value v
pub record Answers (h us x : List ℕ) (k v : Offset) : Type 0 where
  -- value_info
  pub info : info_answer h us x ≡ Ok (info_of (value_of (bins_data h) (minor_of (sector h)) v))
  -- a copy with room for the data is done with their length, and writes them and nothing else; one with less room is 20
  pub done : (out : List ℕ) → length_of (data_for h v) ≤ length out → copy_answer h us x (length out) ≡ Ok (length_of (data_for h v))
  pub written : (out : List ℕ) → length_of (data_for h v) ≤ length out
      → copy_out h us x out ≡ bytes_of (bins_data h) (data_for h v) ++ drop (length_of (data_for h v)) out
  pub short : (out : List ℕ) → length out < length_of (data_for h v)
      → copy_answer h us x (length out) ≡ Err (refusal_of k (flaw OutputShort nowhere))
  -- a view of data that are not segmented is answered as value_info answers, and shows the same bytes; of segmented data it is 19 at the value
  pub viewed : ((a : Offset) (n : ℕ) → data_for h v ≡ Segments a n → ⊥)
      → (view_answer h us x ≡ Ok (info_of (value_of (bins_data h) (minor_of (sector h)) v))) × (view_bytes h us x ≡ bytes_of (bins_data h) (data_for h v))
  pub unviewed : (a : Offset) (n : ℕ) → data_for h v ≡ Segments a n
      → (view_answer h us x ≡ Err (refusal_of k (flaw Segmented v))) × (view_bytes h us x ≡ [])

-- the value calls that search the keys of the way by halving answer as the first ones, with the same part of the hive and every byte of the output
pub record AnswersSame (h us x : List ℕ) : Type 0 where
  pub info : quick_info h us x ≡ info_answer h us x
  pub view : quick_view h us x ≡ view_answer h us x
  pub part : (quick_view_bytes h us x ≡ view_bytes h us x) × (quick_view_start h us x ≡ view_start h us x)
  pub copy : (out : List ℕ) → (quick_copy h us x (length out) ≡ copy_answer h us x (length out)) × (quick_out h us x out ≡ copy_out h us x out)

pub record Demand2 : Type 0 where
  -- "Given a large enough work map, a hive is accepted exactly when it is clean and well formed by the published regf description as document 01
  -- condenses it: cells tile the bins, and the keys reached from the root form a sorted tree."
  pub accepted : (h m : List ℕ) → bins_of (sector h) / 64 ≤ length m → ((r : Report) × (check_answer h m ≡ Ok r)) ↔ CleanAndWellFormed h
  -- the report: "keys reached, values (one for each value list element of those keys)", and no key is reached twice
  pub counts : (h m : List ℕ) (r : Report) → check_answer h m ≡ Ok r
      → (r.keys ≡ length (keys_of h)) × (r.values ≡ values_in (bins_data h) (keys_of h))
  pub once : (h : List ℕ) → CleanAndWellFormed h → Once (keys_of h)
  -- its bins are those of the tiling, its used bytes those of the cells in use, its free bytes those of the free ones;
  -- so "32 x bins + used + free = bins size"
  pub sums : (h m : List ℕ) (r : Report) → check_answer h m ≡ Ok r → (b : BinsTile (bins_data h) 0)
      → (r.bins ≡ bin_count b) × (r.used ≡ used_bytes (cells_in b)) × (r.free ≡ free_bytes (cells_in b))
  pub adds : (h m : List ℕ) (r : Report) → check_answer h m ≡ Ok r → 32 * r.bins + r.used + r.free ≡ bins_of (sector h)
  -- "In an accepted hive a path finds its key, and is refused exactly if the tree holds no such key", whatever units are given as path
  pub finds : (h : List ℕ) → CleanAndWellFormed h → (us : List ℕ) (o : Offset)
      → (find_answer h us ≡ Ok o) ↔ Holds (bins_data h) (hive_of h).root (parts_of us) o
  pub refuses : (h : List ℕ) → CleanAndWellFormed h → (us : List ℕ)
      → ((r : Refusal) × (find_answer h us ≡ Err r)) ↔ ((o : Offset) → Holds (bins_data h) (hive_of h).root (parts_of us) o → ⊥)
  -- with 16 where the path is malformed, else with 17 and the deepest key that the tree holds along it
  pub malformed : (h : List ℕ) → CleanAndWellFormed h → (us : List ℕ) → is_path us ≡ false
      → find_answer h us ≡ Err (refusal_of no_key (flaw PathParts nowhere))
  pub none : (h : List ℕ) → CleanAndWellFormed h → (us : List ℕ) → is_path us ≡ true
      → ((o : Offset) → Holds (bins_data h) (hive_of h).root (parts_of us) o → ⊥)
      → (k : Offset) × (find_answer h us ≡ Err (refusal_of k (flaw NoKey nowhere))) × Deepest (bins_data h) (hive_of h).root (parts_of us) k
  -- each key of the pre-order listing is found again by the path of its names
  pub listed : (h : List ℕ) → CleanAndWellFormed h → (k : Offset) → Memᴰ k (keys_of h) → FoundAgain h k
  -- "a value's data are the bytes its record names": the first value of that name answers; 18 with that key if there is none
  pub value : (h : List ℕ) → CleanAndWellFormed h → (us : List ℕ) (o : Offset) → find_answer h us ≡ Ok o → (x : List ℕ) (v : Offset)
      → FirstNamed (bins_data h) (minor_of (sector h)) x (values_of (bins_data h) (key_of (bins_data h) o)) v → Answers h us x o v
  pub no_value : (h : List ℕ) → CleanAndWellFormed h → (us : List ℕ) (o : Offset) → find_answer h us ≡ Ok o → (x : List ℕ)
      → ((v : Offset) → FirstNamed (bins_data h) (minor_of (sector h)) x (values_of (bins_data h) (key_of (bins_data h) o)) v → ⊥)
      → info_answer h us x ≡ Err (refusal_of o (flaw NoValue nowhere))
  -- and it is the only one: two positions whose values have that name are one, so that view and copy are unambiguous
  pub only-named : (h : List ℕ) → CleanAndWellFormed h → (us : List ℕ) (o : Offset) → find_answer h us ≡ Ok o → (x : List ℕ)
      → OnlyNamed (bins_data h) (minor_of (sector h)) x (values_of (bins_data h) (key_of (bins_data h) o))
  -- and a view, on any bytes, answers as value_info does and shows the same bytes
  pub view : (h us x : List ℕ) (i : Info) → view_answer h us x ≡ Ok i
      → (info_answer h us x ≡ Ok i) × (view_bytes h us x ≡ bytes_of (bins_data h) i.content)
  -- "On each accepted hive it must answer as the first one does for every path": the lookup by halving, of a hive of bytes, so that its counts are below
  -- 65,536; and the value calls over it
  pub quick-same : (h : List ℕ) → Bytes h → CleanAndWellFormed h → (us : List ℕ) → quick_answer h us ≡ find_answer h us
  pub quick-values : (h : List ℕ) → Bytes h → CleanAndWellFormed h → (us x : List ℕ) → AnswersSame h us x
  -- and on every hive it answers with no key of another name
  pub quick-called : (h us : List ℕ) (o : Offset) → quick_answer h us ≡ Ok o → Holds (bins_data h) (hive_of h).root (parts_of us) o
  -- "On a hive that isn't clean, a log is accepted exactly when document 01 lists no fault for the two."
  pub log-accepted : (h l : List ℕ) → (start_answer h l ≡ Ok (started.Pages (logged_count l))) ↔ Accepted h l
  -- "Recovery from an old-format log puts each logged page in its place and then rewrites the first sector, and touches nothing else."
  pub repairs : (h l : List ℕ) (n : ℕ) → start_answer h l ≡ Ok (started.Pages n) → (ps : List ℕ) → Covers l ps → Repaired h l ps
  -- and so does one call for all pages, with the closing call
  pub at_once : (h l : List ℕ) (n : ℕ) → start_answer h l ≡ Ok (started.Pages n) → close_hive (all_hive h l) l ≡ finished h l
