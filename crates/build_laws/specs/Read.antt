-- The forest that a tree is, read from the bins data d of a hive of a minor version.
use Rattle.std.specs.Prelude.{ℕ, zero, suc, List, [], ◌∷◌}
use Rattle.fields.specs.declared.Offset.{Offset}
use Rattle.fields.specs.Number.{u64_at}
use Rattle.base.specs.Block.{bins_data}
use Rattle.cells.specs.Named.{data_at}
use Rattle.records.specs.declared.Child.{Child}
use Rattle.records.specs.Keys.{key_of}
use Rattle.records.specs.Lists.{children}
use Rattle.values.specs.Records.{value_of}
use Rattle.values.specs.Segments.{bytes_of}
use Rattle.values.specs.Lists.{values_of}
use Rattle.namesakes.specs.Namesakes.{called_at}
use Rattle.tree.specs.Tree.{name_at, levels, hive_of}
use Rattle.forest.specs.Forest.{Item, Forest, none, more}

-- a value, and some of them
abbrev pub item_read : List ℕ → ℕ → Offset → Item
item_read d minor v = record { kind = (value_of d minor v).kind; name = called_at d v; bytes = bytes_of d (value_of d minor v).content }

unfoldable pub items_read : List ℕ → ℕ → List Offset → List Item
items_read d minor [] = []
items_read d minor (v ∷ vs) = item_read d minor v ∷ items_read d minor vs

-- keys side by side, each before those that come later
unfoldable pub side_by_side : (Offset → Forest → Forest) → List Child → Forest
side_by_side f [] = none
side_by_side f (c ∷ cs) = f c.at (side_by_side f cs)

-- a key with all that is below it, of so many levels, and the keys beside it
unfoldable pub key_read : List ℕ → ℕ → ℕ → Offset → Forest → Forest
key_read d minor zero o r = r
key_read d minor (suc n) o r =
    more (u64_at (data_at d o) 4) (name_at d o) (items_read d minor (values_of d (key_of d o))) (side_by_side (key_read d minor n) (children d o)) r

-- of a hive
abbrev pub forest_of : List ℕ → Forest
forest_of h = key_read (bins_data h) (hive_of h).minor levels (hive_of h).root none
