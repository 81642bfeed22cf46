-- What a list that passes its test says, and where its leaves and elements lie.
pub use Rattle.cells.proofs.Parts.{data-short}
use Prim.Native.Nat.{ℕ, ◌+◌, ◌*◌, ◌<◌, ◌≤◌}
use native.Mathlib.Nat.{add-mul, one-mul, mul-le-mul_right}
use native.Mathlib.Omega.{arith}
use mathlib.Core.Path.{◌≡◌, refl}
use mathlib.Core.Bool.{Bool, true, false}
use mathlib.Core.List.{List}
use lib.ListN.{length}
use lib.Dec.{leb}
use borrow.Author.Tests.{leb-true}
use Rattle.fields.proofs.Bools.{and-inv}
use Rattle.records.specs.Lists.{is_ri, count_of, has_elements, width_of, has_leaf_signature, is_leaf, is_list}

-- element i of n stands before the end of all
pub element-room : (i n width : ℕ) → i < n → i * width + width ≤ n * width
element-room i n width h =
    let e = add-mul i 1 width in
    let o = one-mul width in
    let m = mul-le-mul_right {m = i + 1} {n = n} width (omega arith) in
    omega arith

-- "count at 2 (at least 1), elements at 4", in a record of so much room
pub record Elements (r : List ℕ) (width : ℕ) : Type 0 where
  pub some : 1 ≤ count_of r
  pub room : 4 + count_of r * width ≤ length r

pub elements : (r : List ℕ) (width : ℕ) → has_elements r width ≡ true → Elements r width
unfolding has_elements
elements r width e =
    let a = and-inv (leb 4 (length r)) _ e in
    let b = and-inv (leb 1 (count_of r)) _ a.1 in
    record { some = leb-true 1 (count_of r) b.0; room = leb-true (4 + count_of r * width) (length r) b.1 }

pub record IsLeaf (r : List ℕ) : Type 0 where
  pub signature : has_leaf_signature r ≡ true
  pub holds : Elements r (width_of r)

pub leaf-facts : (r : List ℕ) → is_leaf r ≡ true → IsLeaf r
unfolding is_leaf
leaf-facts r e =
    let a = and-inv (has_leaf_signature r) _ e in
    record { signature = a.0; holds = elements r (width_of r) a.1 }

-- an `ri` has room for its offsets, and any other list is a leaf
pub index-facts : (r : List ℕ) → is_list r ≡ true → is_ri r ≡ true → Elements r 4
unfolding is_list
index-facts r e i = elements r 4 (rw i at e)

single-facts : (r : List ℕ) → is_list r ≡ true → is_ri r ≡ false → IsLeaf r
unfolding is_list
single-facts r e i = leaf-facts r (rw i at e)

pub leaf_room : (r : List ℕ) → is_leaf r ≡ true → 4 ≤ length r
leaf_room r e = let f = (leaf-facts r e).holds in omega arith

pub list-room : (r : List ℕ) → is_list r ≡ true → 4 ≤ length r
list-room r e = by (is_ri r) refl
  where
    by : (t : Bool) → is_ri r ≡ t → 4 ≤ length r
    by true i = let f = index-facts r e i in omega arith
    by false i = let f = (single-facts r e i).holds in omega arith

-- what a list that was found has room for, and what an element has
pub ruleset rooms = (leaf_room, list-room)

pub ruleset places = (element-room, data-short)
