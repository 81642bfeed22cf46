-- What a refusal of the listing calls says: the table's rows 1 to 7, 11, 12 and, of a copy, 20, each with its reason, and the key under examination. They
-- take a record by its offset, read it, and then what it names. h is the hive.
use Rattle.std.specs.Prelude.{ℕ, ◌<◌, ◌≡◌, List, Ok}
use Rattle.fields.specs.declared.Fault.TheVariants.{OutputShort}
use Rattle.fields.specs.declared.Flaw.{Flaw}
use Rattle.fields.specs.declared.Offset.{Offset}
use Rattle.fields.specs.Faults.{flaw, nowhere, no_key}
use Rattle.base.specs.Block.{sector, minor_of, bins_data}
use Rattle.base.specs.Refused.{OfBase}
use Rattle.cells.specs.Rule.{Header}
use Rattle.records.specs.Keys.{security_of}
use Rattle.security.specs.Refused.{OfDescriptor}
use Rattle.values.specs.declared.ValueData.TheVariants.{OneCell}
use Rattle.values.specs.Records.{data_in}
use Rattle.values.specs.Refused.{Role, a_key, a-value, Fit, Unfit, Among, Lists, Values, Data}
use Rattle.lookup.specs.declared.Info.{Info}
use Rattle.listing.specs.Members.{info_at}
use Rattle.listing.specs.Pieces.{class_cell, class_length}

-- the key under examination, and the flaw: once the record is accepted that key is `key`
pub data OfRecord (h : List ℕ) (w : Role) (o : Offset) (named : Role → Offset → Type 0) (key : Offset) : Offset → Flaw → Type 0 where
  of-base : {f : Flaw} → OfBase h f → OfRecord h w o named key no_key f
  -- 11 and 12: the record at that offset, and what it names
  of-record : {f : Flaw} → Unfit Header (bins_data h) w o f → OfRecord h w o named key no_key f
  of-named : {f : Flaw} → Fit Header (bins_data h) w o → Among Header (bins_data h) named f → OfRecord h w o named key key f

-- nth_subkey and nth_value of the key at an offset, which is then the key under examination
abbrev pub OfSubkey : List ℕ → Offset → Offset → Flaw → Type 0
OfSubkey h k = OfRecord h a_key k (Lists Header (bins_data h) k) k

abbrev pub OfNth : List ℕ → Offset → Offset → Flaw → Type 0
OfNth h k = OfRecord h a_key k (Values Header (bins_data h) k) k

-- info_at of the value at an offset: no key is asked, and none is named
abbrev pub OfInfo : List ℕ → Offset → Flaw → Type 0
OfInfo h v = OfRecord h a-value v (Data Header (bins_data h) (data_in (bins_data h) (minor_of (sector h)) v)) no_key no_key

-- copy_at of the value at an offset, to an output of so many bytes
pub data OfCopied (h : List ℕ) (v : Offset) (room : ℕ) : Flaw → Type 0 where
  as-info : {f : Flaw} → OfInfo h v f → OfCopied h v room f
  -- 20: "output too short"
  too_short : {i : Info} → info_at h v ≡ Ok i → room < i.len → OfCopied h v room (flaw OutputShort nowhere)

-- key_facts of the key at an offset: what it names is not read
abbrev pub OfFacts : List ℕ → Offset → Flaw → Type 0
OfFacts h k = OfRecord h a_key k (λ w o. ⊥) no_key no_key

-- key_class of the key at an offset, which is then the key under examination: it names a cell as a value names its data in one cell, unless the length is 0
abbrev pub OfClass : List ℕ → Offset → Offset → Flaw → Type 0
OfClass h k = OfRecord h a_key k (Data Header (bins_data h) (OneCell (class_cell (bins_data h) k) (class_length (bins_data h) k))) k

-- key_security of the key at an offset: as key_facts up to its record, and then the item that it names, with that key
pub data OfSecurity (h : List ℕ) (k : Offset) : Offset → Flaw → Type 0 where
  as-facts : {f : Flaw} → OfFacts h k f → OfSecurity h k no_key f
  of-item : {f : Flaw} → Fit Header (bins_data h) a_key k → OfDescriptor Header (bins_data h) (security_of (bins_data h) k) f → OfSecurity h k k f
