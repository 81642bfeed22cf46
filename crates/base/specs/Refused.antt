-- Why the base block is refused: the table's rows 1 to 7, with place 0. h is the hive.
use Rattle.std.specs.Prelude.{ℕ, ◌+◌, ◌<◌, ◌≡◌, false, List, length}
use Rattle.fields.specs.declared.Fault.TheVariants.{HiveShort, NoRegf, Checksum, Version, BinsSize, BinsCut, Sequences}
use Rattle.fields.specs.declared.Flaw.{Flaw}
use Rattle.fields.specs.Number.{u32_at}
use Rattle.fields.specs.Faults.{flaw, nowhere}
use Rattle.base.specs.Block.{sector, is_regf, stored_checksum, is_version, bins_of, is_bins_size}

pub data OfBase (h : List ℕ) : Flaw → Type 0 where
  -- 1: "hive under 4096 bytes"
  hive-short : length h < 4096 → OfBase h (flaw HiveShort nowhere)
  -- 2
  no-regf : is_regf (sector h) ≡ false → OfBase h (flaw NoRegf nowhere)
  -- 3
  other-checksum : (u32_at (sector h) 508 ≡ stored_checksum (sector h) → ⊥) → OfBase h (flaw Checksum nowhere)
  -- 4: "version, type, format, clustering"
  other-version : is_version (sector h) 0 ≡ false → OfBase h (flaw Version nowhere)
  -- 5: "bins size field"
  no-bins-size : is_bins_size (bins_of (sector h)) ≡ false → OfBase h (flaw BinsSize nowhere)
  -- 6: "hive ends before the bins do"
  bins-cut : length h < 4096 + bins_of (sector h) → OfBase h (flaw BinsCut nowhere)
  -- 7: "sequence numbers differ"
  sequences-differ : (u32_at (sector h) 4 ≡ u32_at (sector h) 8 → ⊥) → OfBase h (flaw Sequences nowhere)
