-- "The closing call (27) writes the log's first 512 bytes with type 0 and a new checksum to the hive's first 512."
use Rattle.std.specs.Prelude.{ℕ, List}
use Rattle.std.proofs.lemmas.List.Edits.{sets}
use Rattle.fields.specs.Number.{le32}
use Rattle.base.specs.Block.{stored_checksum}

-- with type 0
abbrev pub as_hive : List ℕ → List ℕ
as_hive s = sets s 28 (le32 0)

-- the closing sector of a log whose first 512 bytes are s
unfoldable pub closing_sector : List ℕ → List ℕ
closing_sector s = sets (as_hive s) 508 (le32 (stored_checksum (as_hive s)))
