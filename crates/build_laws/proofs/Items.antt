-- The security item, read back: it is linked to itself.
use Prim.Native.Nat.{ℕ, ◌<◌}
use native.Mathlib.Omega.{arith}
use mathlib.Core.Path.{◌≡◌, refl}
use mathlib.Core.List.{List, ◌++◌}
use lib.ListN.{length}
use Rattle.fields.specs.Number.{u16_at, u32_at, le16, le32}
use Rattle.records.specs.Facts.{Signed}
use Rattle.security.specs.Items.{item_in}
use Rattle.forest.specs.Forest.{Forest, key_count}
use Rattle.layout.specs.Layout.{zeros, item_at, item_record}
use Rattle.build_laws.proofs.Bytes.{word}
use Rattle.layout.proofs.Bounds.{keys-hold}

module _ (f : Forest) (sd : List ℕ) (k : ℕ) where
  abbrev Cell : List ℕ
  Cell = item_record f sd ++ zeros k

  pub item-signed : Signed Cell 115 107
  unfolding item_record
  item-signed = refl

  module _ (p : item_at f < 4294967296) (q : length sd < 4294967296) where
    forward-read : u32_at Cell 4 ≡ item_at f
    unfolding item_record le16 le32 u16_at u32_at
    forward-read = word (item_at f) p

    backward-read : u32_at Cell 8 ≡ item_at f
    unfolding item_record le16 le32 u16_at u32_at
    backward-read = word (item_at f) p

    count-read : u32_at Cell 12 ≡ key_count f
    unfolding item_record le16 le32 u16_at u32_at
    count-read = let c = keys-hold f in word (key_count f) (omega arith)

    size-read : u32_at Cell 16 ≡ length sd
    unfolding item_record le16 le32 u16_at u32_at
    size-read = word (length sd) q

    pub item-read : item_in Cell ≡ record { forward = record { 0 = item_at f }; backward = record { 0 = item_at f }; count = key_count f; size = length sd }
    unfolding item_in
    item-read = rw (forward-read, backward-read, count-read, size-read)
