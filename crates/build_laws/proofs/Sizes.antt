-- No number of a key's record is too large where the key's cells end inside 32 bits: there are not more values and subkeys than bytes.
use Prim.Native.Nat.{ℕ, ◌+◌, ◌≤◌}
use native.Mathlib.Omega.{arith}
use mathlib.Core.List.{List, [], ◌∷◌}
use lib.ListN.{length}
use Rattle.forest.specs.Forest.{Item, Forest, none, more, count_of}
use Rattle.layout.specs.Layout.{stored, value_size, values_size, size_of}
use Rattle.layout.proofs.Sizes.{cell_room}
use Rattle.layout.proofs.Bounds.{value-least}
use Rattle.build_laws.specs.Written.{next_at}

-- the data's cells are part of a value's
pub next-inside : (v : Item) (at : ℕ) → next_at v at ≤ at + value_size v
unfolding value_size
next-inside v at = omega arith

pub values-many : (vs : List Item) → length vs ≤ values_size vs
unfolding values_size
values-many [] = omega arith
values-many (v ∷ vs) = let a = value-least v in let e = values-many vs in omega arith

pub subkeys-many : (f : Forest) → count_of f ≤ size_of f
unfolding size_of count_of
subkeys-many none = omega arith
subkeys-many (more s x vs b r) = let c = cell_room (76 + length (stored x)) in let e = subkeys-many r in omega arith
