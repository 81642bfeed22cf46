-- The descriptor of one item, for a reader that asks a single key's and walks no ring: the item's cell by the call's rule, 11; then "sk" with its 20 bytes and
-- room for the descriptor, 12 at the item. Its links and its count are not asked. d is the bins data and m the work map.
use Rattle.std.specs.Prelude.{ℕ, Bool, ◌&&◌, List, Err, Ok, Result}
use Rattle.fields.specs.declared.Fault.TheVariants.{Record}
use Rattle.fields.specs.declared.Offset.{Offset}
use Rattle.fields.specs.declared.Place.{Place}
use Rattle.fields.specs.Faults.{flaw, unless, ◌next◌, Verdict}
use Rattle.cells.specs.Rule.{Rule}
use Rattle.cells.specs.Named.{cell_fault, data_at, part_place}
use Rattle.security.specs.declared.Item.{Item}
use Rattle.security.specs.Items.{is_sk, is_roomy}
use Rattle.fields.specs.declared.Flaw.{Flaw}

-- the data r of a cell hold an item with its descriptor
unfoldable pub is_described : List ℕ → Bool
is_described r = is_sk r && is_roomy r

unfoldable pub descriptor_fault : Rule → List ℕ → List ℕ → Offset → Verdict
descriptor_fault rule d m o = cell_fault rule d m o next unless (is_described (data_at d o)) (flaw Record o)

-- the answer: the flaw, or the item
abbrev pub described : Verdict → Item → Result Item Flaw
described (Ok tt) i = Ok i
described (Err f) i = Err f

-- where in the file the descriptor of the item at an offset lies: "Security descriptor" at 20
unfoldable pub descriptor_place : Offset → Item → Place
descriptor_place o i = part_place o 20 i.size
