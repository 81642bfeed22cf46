-- Security items: "Read `sk` records as source document 003 lays them out (004 swaps the two links; 003 decides): forward and backward offsets,
-- reference count, descriptor size, descriptor." d is the bins data, m the work map and ks the keys of the tree in walk order.
use Rattle.std.specs.Prelude.{ℕ, zero, suc, ◌+◌, Bool, true, false, cond, ◌&&◌, ◌||◌, List, [], ◌∷◌, eqb, leb, length, Ok}
use Rattle.fields.specs.declared.Fault.TheVariants.{Security}
use Rattle.fields.specs.declared.Offset.{Offset}
use Rattle.fields.specs.Number.{u32_at}
use Rattle.fields.specs.Bytes.{stands_at}
use Rattle.fields.specs.Faults.{flaw, unless, is_sound, ◌next◌, Verdict}
use Rattle.fields.specs.Charges.{Charge, Free, charge_of, ◌after◌}
use Rattle.cells.specs.Rule.{Map}
use Rattle.cells.specs.Named.{cell_fault, data_at}
use Rattle.records.specs.Offsets.{offset_at}
use Rattle.records.specs.Keys.{security_of}
use Rattle.security.specs.declared.Item.{Item}

-- the data r of a cell hold an item: ""sk" and all 20 bytes before the descriptor"
abbrev pub is_sk : List ℕ → Bool
is_sk r = leb 20 (length r) && stands_at r 0 (115 ∷ 107 ∷ [])

-- an offset names an item: "a cell in use with "sk" and all 20 bytes before the descriptor"
unfoldable pub is_item : List ℕ → List ℕ → Offset → Bool
is_item d m o = is_sound (cell_fault Map d m o) && is_sk (data_at d o)

-- the fields of the item r: "Flink" at 4, "Blink" at 8, "Reference count" at 12, "Security descriptor size" at 16
unfoldable pub item_in : List ℕ → Item
item_in r = record { forward = offset_at r 4; backward = offset_at r 8; count = u32_at r 12; size = u32_at r 16 }

-- the item at an offset
unfoldable pub item_of : List ℕ → Offset → Item
item_of d o = item_in (data_at d o)

-- "its descriptor's room", in the item r
abbrev pub is_roomy : List ℕ → Bool
is_roomy r = leb (20 + (item_in r).size) (length r)

unfoldable pub has_room : List ℕ → Offset → Bool
has_room d o = is_roomy (data_at d o)

-- its forward link: "each naming an item whose backward link names it back"
unfoldable pub is_linked : List ℕ → List ℕ → Offset → Bool
is_linked d m o = is_item d m (item_of d o).forward && eqb (item_of d (item_of d o).forward).backward.0 o.0

-- "the number of reached keys that name the item"
abbrev pub one_more : Bool → ℕ → ℕ
one_more true n = suc n
one_more false n = n

unfoldable pub named_by : List ℕ → List Offset → Offset → ℕ
named_by d [] o = 0
named_by d (k ∷ ks) o = one_more (eqb (security_of d k).0 o.0) (named_by d ks o)

-- "each for its descriptor's room, forward link and count (place: that item)"
unfoldable pub is_joined : List ℕ → List ℕ → Offset → Bool
is_joined d m o = has_room d o && is_linked d m o

unfoldable pub link_fault : List ℕ → List ℕ → Offset → Verdict
link_fault d m o = unless (is_joined d m o) (flaw Security o)

unfoldable pub count_fault : List ℕ → List Offset → Offset → Verdict
count_fault d ks o = unless (eqb (item_of d o).count (named_by d ks o)) (flaw Security o)

unfoldable pub item_fault : List ℕ → List ℕ → List Offset → Offset → Verdict
item_fault d m ks o = link_fault d m o next count_fault d ks o

-- the forward link that comes back to the first item
unfoldable pub closes_at : List ℕ → Offset → Offset → Bool
closes_at d first o = eqb (item_of d o).forward.0 first.0

-- "items in ring order": from one on, until a forward link comes back to the first, with so many steps left
unfoldable pub ring_fault : List ℕ → List ℕ → List Offset → Offset → ℕ → Offset → Verdict
ring_fault d m ks first zero o = Ok tt
ring_fault d m ks first (suc n) o =
    item_fault d m ks o
    next cond (closes_at d first o) (Ok tt) (ring_fault d m ks first n (item_of d o).forward)

-- these items
unfoldable pub ring_of : List ℕ → Offset → ℕ → Offset → List Offset
ring_of d first zero o = []
ring_of d first (suc n) o = o ∷ cond (closes_at d first o) [] (ring_of d first n (item_of d o).forward)

-- the steps that are enough for every ring: each item stands at another offset
abbrev pub ring_steps : List ℕ → ℕ
ring_steps d = length d

-- an offset is one of some items
unfoldable pub is_among : Offset → List Offset → Bool
is_among o [] = false
is_among o (i ∷ is) = eqb o.0 i.0 || is_among o is

-- "then keys in walk order whose offset is off the ring (place: key)": the first one
unfoldable pub off_charge : List ℕ → List Offset → List Offset → Charge
off_charge d items [] = Free
off_charge d items (k ∷ ks) = charge_of k (unless (is_among (security_of d k) items) (flaw Security k)) after off_charge d items ks

-- the ring of the root's item
abbrev pub root_fault : List ℕ → List ℕ → Offset → List Offset → Verdict
root_fault d m root ks =
    unless (is_item d m (security_of d root)) (flaw Security root)
    next ring_fault d m ks (security_of d root) (ring_steps d) (security_of d root)

abbrev pub root_ring : List ℕ → Offset → List Offset
root_ring d root = ring_of d (security_of d root) (ring_steps d) (security_of d root)

-- "All these faults are the new refusal 28, given after the tree walk: first the root's own offset (place: root), then items in ring order, [..] then
-- keys in walk order whose offset is off the ring (place: key)." The key under examination: "for 28 met on the ring, the root".
unfoldable pub security_charge : List ℕ → List ℕ → Offset → List Offset → Charge
security_charge d m root ks = charge_of root (root_fault d m root ks) after off_charge d (root_ring d root) ks
