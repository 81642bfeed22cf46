-- "Lists: signature, count at 2 (at least 1), elements at 4. `li`: offset. `lf`: offset, 4 bytes not read. `lh`: offset, hash. `ri`: offsets of
-- `li`, `lf` or `lh` lists, never of `ri`. The key's count is the total over its leaves." Below, r is the data of a cell.
use Rattle.std.specs.Prelude.{ℕ, zero, suc, ◌+◌, ◌*◌, Bool, cond, ◌&&◌, ◌||◌, List, [], ◌∷◌, ◌++◌, eqb, leb, length, Ok}
use Rattle.fields.specs.declared.Fault.TheVariants.{Record}
use Rattle.fields.specs.declared.Offset.{Offset}
use Rattle.fields.specs.Number.{u16_at, u32_at}
use Rattle.fields.specs.Bytes.{stands_at}
use Rattle.fields.specs.Faults.{flaw, unless, ◌next◌, fault_over, Verdict}
use Rattle.cells.specs.Rule.{Rule}
use Rattle.cells.specs.Named.{cell_fault, data_at}
use Rattle.records.specs.declared.Child.{Child}
use Rattle.records.specs.declared.Key.{Key}
use Rattle.records.specs.Offsets.{offset_at, offsets_at}
use Rattle.records.specs.Keys.{key_of}

abbrev pub is_li : List ℕ → Bool
is_li r = stands_at r 0 (108 ∷ 105 ∷ [])

abbrev pub is_lf : List ℕ → Bool
is_lf r = stands_at r 0 (108 ∷ 102 ∷ [])

abbrev pub is_lh : List ℕ → Bool
is_lh r = stands_at r 0 (108 ∷ 104 ∷ [])

abbrev pub is_ri : List ℕ → Bool
is_ri r = stands_at r 0 (114 ∷ 105 ∷ [])

abbrev pub count_of : List ℕ → ℕ
count_of r = u16_at r 2

-- 4 bytes and all elements, of so many bytes each, with at least one
unfoldable pub has_elements : List ℕ → ℕ → Bool
has_elements r width = leb 4 (length r) && (leb 1 (count_of r) && leb (4 + count_of r * width) (length r))

-- an element of a leaf has 4 bytes, or 8 with what follows the offset
unfoldable pub width_of : List ℕ → ℕ
width_of r = cond (is_li r) 4 8

unfoldable pub has_leaf_signature : List ℕ → Bool
has_leaf_signature r = is_li r || (is_lf r || is_lh r)

unfoldable pub is_leaf : List ℕ → Bool
is_leaf r = has_leaf_signature r && has_elements r (width_of r)

-- element i of a leaf, with what stands beside the offset: the hash of an `lh`, the hint of an `lf`. For the check the scope says: "`lf`: offset, hint"
unfoldable pub child_at : List ℕ → ℕ → Child
child_at r i =
    record {
      at = offset_at r (4 + i * width_of r);
      hashed = is_lh r;
      hinted = is_lf r;
      beside = cond (is_li r) 0 (u32_at r (8 + i * width_of r));
    }

unfoldable pub children_from : List ℕ → ℕ → ℕ → List Child
children_from r i zero = []
children_from r i (suc n) = child_at r i ∷ children_from r (suc i) n

unfoldable pub leaf_children : List ℕ → List Child
leaf_children r = children_from r 0 (count_of r)

-- the leaves of a list, in order: those that an `ri` names, or the list itself
unfoldable pub leaves_of : List ℕ → Offset → List Offset
leaves_of d o = cond (is_ri (data_at d o)) (offsets_at (data_at d o) 4 (count_of (data_at d o))) (o ∷ [])

-- the elements of some leaves, one leaf after the other
unfoldable pub children_in : List ℕ → List Offset → List Child
children_in d [] = []
children_in d (l ∷ ls) = leaf_children (data_at d l) ++ children_in d ls

-- the children of a key, over all its leaves: "Count 0: the list offset is not read."
unfoldable pub leaves_below : List ℕ → Key → List Offset
leaves_below d k = cond (eqb k.subkeys 0) [] (leaves_of d k.list)

unfoldable pub children_below : List ℕ → Key → List Child
children_below d k = children_in d (leaves_below d k)

abbrev pub children : List ℕ → Offset → List Child
children d o = children_below d (key_of d o)

-- a leaf: its cell, then its record; an `ri` there is 12 at that inner list
unfoldable pub leaf_fault : Rule → List ℕ → List ℕ → Offset → Verdict
leaf_fault rule d m o = cell_fault rule d m o next unless (is_leaf (data_at d o)) (flaw Record o)

-- a list's own record: a leaf, or an `ri` with its elements
unfoldable pub is_list : List ℕ → Bool
is_list r = cond (is_ri r) (has_elements r 4) (is_leaf r)

unfoldable pub head_fault : Rule → List ℕ → List ℕ → Offset → Verdict
head_fault rule d m o = cell_fault rule d m o next unless (is_list (data_at d o)) (flaw Record o)

-- the whole of a list: its own record, then each leaf that an `ri` names, in order
unfoldable pub list_fault : Rule → List ℕ → List ℕ → Offset → Verdict
list_fault rule d m o =
    head_fault rule d m o
    next cond (is_ri (data_at d o)) (fault_over (leaf_fault rule d m) (leaves_of d o)) (Ok tt)

-- "all its lists"
unfoldable pub lists_fault : Rule → List ℕ → List ℕ → Key → Verdict
lists_fault rule d m k = cond (eqb k.subkeys 0) (Ok tt) (list_fault rule d m k.list)
