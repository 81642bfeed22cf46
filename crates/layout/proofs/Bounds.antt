-- What sizes hold: the offsets of a list, the elements of a leaf, and every value and key at least some bytes.
use Prim.Native.Nat.{ℕ, zero, suc, ◌+◌, ◌*◌, ◌≤◌}
use native.Mathlib.Omega.{arith}
use mathlib.Core.Bool.{Bool, true, false, cond}
use lib.Dec.{leb}
use lib.ListN.{length}
use Rattle.forest.specs.Forest.{Item, Forest, none, more, key_count}
use Rattle.layout.specs.Layout.{stored, value_size, list_size, larger, leaf_size, size_of}
use Rattle.layout.proofs.Sizes.{cell_room}

pub value-least : (v : Item) → 24 ≤ value_size v
unfolding value_size
value-least v = let c = cell_room (20 + length (stored v.name)) in omega arith

pub list-holds : (n : ℕ) → 4 * n ≤ list_size n
unfolding list_size
list-holds zero = omega arith
list-holds (suc n) = let c = cell_room (4 * suc n) in omega arith

pub leaf-holds : (n : ℕ) → 8 * n ≤ leaf_size n
unfolding leaf_size
leaf-holds zero = omega arith
leaf-holds (suc n) = let c = cell_room (4 + 8 * suc n) in omega arith

pub keys-hold : (f : Forest) → key_count f ≤ size_of f
unfolding key_count size_of
keys-hold none = omega arith
keys-hold (more s x vs b r) =
    let c = cell_room (76 + length (stored x)) in
    let p = keys-hold b in
    let q = keys-hold r in
    omega arith

-- the larger of two is bounded by what bounds both
pub larger-most : (a b m : ℕ) → a ≤ m → b ≤ m → larger a b ≤ m
unfolding larger
larger-most a b m p q = by (leb a b)
  where
    by : (t : Bool) → cond t b a ≤ m
    by true = q
    by false = p
