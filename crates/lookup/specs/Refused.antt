-- What a refusal of the value calls says: of the table's rows those of a key's lookup, 11, 12 and 18 to 20, each with its reason, and the key under
-- examination. h is the hive, us the path, x the value's name.
use Rattle.std.specs.Prelude.{ℕ, ◌<◌, ◌≡◌, List, None, Ok}
use Rattle.fields.specs.declared.Fault.TheVariants.{NoValue, Segmented, OutputShort}
use Rattle.fields.specs.declared.Flaw.{Flaw}
use Rattle.fields.specs.declared.Offset.{Offset}
use Rattle.fields.specs.Faults.{flaw, nowhere, no_key}
use Rattle.base.specs.Block.{sector, minor_of, bins_data}
use Rattle.base.specs.Refused.{OfBase}
use Rattle.cells.specs.Rule.{Header}
use Rattle.records.specs.Keys.{key_of}
use Rattle.values.specs.declared.ValueData.TheVariants.{Segments}
use Rattle.values.specs.Records.{data_in}
use Rattle.values.specs.Lists.{values_of}
use Rattle.values.specs.Refused.{a_key, a-value, Fit, Unfit, Among, Values, Data}
use Rattle.search.specs.declared.How.{How}
use Rattle.search.specs.declared.How.TheVariants.{InTurn}
use Rattle.paths.specs.Answers.{find_by}
use Rattle.paths.specs.Refused.{OfKeyBy}
use Rattle.lookup.specs.declared.Info.{Info}
use Rattle.lookup.specs.Search.{lookup_value}
use Rattle.lookup.specs.Answers.{info_by}
use Rattle.lookup.specs.Reach.{FirstNamed}

-- the value v that lookup finds: of the key k of that path, the first of its values that has the name
pub record FindsBy (how : How) (h us x : List ℕ) (k v : Offset) : Type 0 where
  pub found : find_by how h us ≡ Ok k
  pub first_of : FirstNamed (bins_data h) (minor_of (sector h)) x (values_of (bins_data h) (key_of (bins_data h) k)) v
  pub fit : Fit Header (bins_data h) a-value v

-- value_info and quick_info: the key under examination, and the flaw. Past the lookup of the key it is that key.
pub data OfValueBy (how : How) (h us x : List ℕ) : Offset → Flaw → Type 0 where
  of-key : {k : Offset} {f : Flaw} → OfKeyBy how h us k f → OfValueBy how h us x k f
  -- 11 and 12: the values of that key, and the data of the value that is found
  of_values : {k : Offset} {f : Flaw} → find_by how h us ≡ Ok k → Among Header (bins_data h) (Values Header (bins_data h) k) f → OfValueBy how h us x k f
  of-data : {k v : Offset} {f : Flaw} → FindsBy how h us x k v → Among Header (bins_data h) (Data Header (bins_data h) (data_in (bins_data h) (minor_of (sector h)) v)) f
      → OfValueBy how h us x k f
  -- 18: "no such value"
  no_value : {k : Offset} → find_by how h us ≡ Ok k → lookup_value (bins_data h) (minor_of (sector h)) x (key_of (bins_data h) k) ≡ Ok None
      → OfValueBy how h us x k (flaw NoValue nowhere)

abbrev pub OfValue : List ℕ → List ℕ → List ℕ → Offset → Flaw → Type 0
OfValue h us x = OfValueBy InTurn h us x

-- view_info and quick_view_info
pub data OfViewBy (how : How) (h us x : List ℕ) : Offset → Flaw → Type 0 where
  as-value : {k : Offset} {f : Flaw} → OfValueBy how h us x k f → OfViewBy how h us x k f
  -- 19: "view asked of segmented data", at the value
  segmented : {k v o : Offset} {n : ℕ} → FindsBy how h us x k v → data_in (bins_data h) (minor_of (sector h)) v ≡ Segments o n → OfViewBy how h us x k (flaw Segmented v)

abbrev pub OfView : List ℕ → List ℕ → List ℕ → Offset → Flaw → Type 0
OfView h us x = OfViewBy InTurn h us x

-- value_copy and quick_copy, to an output of so many bytes
pub data OfCopyBy (how : How) (h us x : List ℕ) (room : ℕ) : Offset → Flaw → Type 0 where
  as-info : {k : Offset} {f : Flaw} → OfValueBy how h us x k f → OfCopyBy how h us x room k f
  -- 20: "output too short"
  too_short : {k : Offset} {i : Info} → find_by how h us ≡ Ok k → info_by how h us x ≡ Ok i → room < i.len
      → OfCopyBy how h us x room k (flaw OutputShort nowhere)

abbrev pub OfCopy : List ℕ → List ℕ → List ℕ → ℕ → Offset → Flaw → Type 0
OfCopy h us x room = OfCopyBy InTurn h us x room

-- value_of of the key at an offset, which is then the key under examination
pub data OfSpot (h : List ℕ) (o : Offset) (x : List ℕ) : Offset → Flaw → Type 0 where
  by-base : {f : Flaw} → OfBase h f → OfSpot h o x no_key f
  -- 11 and 12: of that key, with no key yet; of its value list and its values
  by-given : {f : Flaw} → Unfit Header (bins_data h) a_key o f → OfSpot h o x no_key f
  by_values : {f : Flaw} → Fit Header (bins_data h) a_key o → Among Header (bins_data h) (Values Header (bins_data h) o) f → OfSpot h o x o f
  -- 18: "no such value"
  no-spot : Fit Header (bins_data h) a_key o → lookup_value (bins_data h) (minor_of (sector h)) x (key_of (bins_data h) o) ≡ Ok None
      → OfSpot h o x o (flaw NoValue nowhere)
