-- A first sector whose sequence numbers are made equal.
use Rattle.std.specs.Prelude.{ℕ, List}
use Rattle.std.proofs.lemmas.List.Edits.{sets}
use Rattle.fields.specs.Number.{u32_at, le32}
use Rattle.base.specs.Block.{stored_checksum}

-- the second sequence number, bytes 8 to 11, becomes the first, bytes 4 to 7
abbrev pub evened : List ℕ → List ℕ
evened s = sets s 8 (le32 (u32_at s 4))

-- and the checksum is that of what then stands there
unfoldable pub settled_sector : List ℕ → List ℕ
settled_sector s = sets (evened s) 508 (le32 (stored_checksum (evened s)))
