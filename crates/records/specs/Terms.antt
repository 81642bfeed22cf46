-- The leaves of a list and the elements of a leaf, where they stand in the list's cell, so that a loop over them reads each list's head once.
use Rattle.std.specs.Prelude.{ℕ, zero, suc, ◌+◌, ◌*◌, ◌≤◌, ◌≡◌, true, false, cond, List, [], ◌∷◌, eqb, length, Err, Ok, Result}
use Rattle.fields.specs.declared.Offset.{Offset}
use Rattle.fields.specs.Number.{u32_at}
use Rattle.fields.specs.Faults.{nowhere, fault_over, Verdict}
use Rattle.cells.specs.Rule.{Rule}
use Rattle.cells.specs.Named.{data_at}
use Rattle.records.specs.declared.Child.{Child}
use Rattle.records.specs.declared.Leaf.{Leaf}
use Rattle.records.specs.declared.Leaves.{Leaves}
use Rattle.records.specs.Offsets.{offset_at, offsets_at}
use Rattle.records.specs.Lists.{is_lf, is_ri, is_lh, count_of, width_of, children_in, leaf_fault}
use Rattle.fields.specs.declared.Flaw.{Flaw}

-- the leaves of the list r at an offset
unfoldable pub leaves_in : List ℕ → Offset → Leaves
leaves_in r o = record { cell = o; count = cond (is_ri r) (count_of r) 1; index = is_ri r }

unfoldable pub leaves_at : List ℕ → Offset → Leaves
leaves_at d o = leaves_in (data_at d o) o

-- leaf j, and all of them: "elements at 4"
unfoldable pub leaf_named : List ℕ → Leaves → ℕ → Offset
leaf_named d ls j = cond ls.index (offset_at (data_at d ls.cell) (4 + 4 * j)) ls.cell

unfoldable pub leaves_named : List ℕ → Leaves → List Offset
leaves_named d ls = cond ls.index (offsets_at (data_at d ls.cell) 4 ls.count) (ls.cell ∷ [])

-- the offsets of an `ri` lie in its cell's data
pub record LeavesLie (d : List ℕ) (ls : Leaves) : Type 0 where
  pub inside : ls.index ≡ true → 4 + 4 * ls.count ≤ length (data_at d ls.cell)
  pub single : ls.index ≡ false → ls.count ≡ 1

-- the elements of the leaf r at an offset
unfoldable pub leaf_in : List ℕ → Offset → Leaf
leaf_in r o = record { cell = o; count = count_of r; width = width_of r; hashed = is_lh r; hinted = is_lf r }

unfoldable pub leaf_of : List ℕ → Offset → Leaf
leaf_of d o = leaf_in (data_at d o) o

-- element i of a leaf
unfoldable pub child_named : List ℕ → Leaf → ℕ → Child
child_named d l i =
    let r = data_at d l.cell in
    record {
      at = offset_at r (4 + i * l.width);
      hashed = l.hashed;
      hinted = l.hinted;
      beside = cond (eqb l.width 4) 0 (u32_at r (8 + i * l.width));
    }

-- the elements of a leaf, as a loop reads them: n of them from element i on, and all
unfoldable pub elements_from : List ℕ → Leaf → ℕ → ℕ → List Child
elements_from d l i zero = []
elements_from d l i (suc n) = child_named d l i ∷ elements_from d l (suc i) n

unfoldable pub elements_of : List ℕ → Leaf → List Child
elements_of d l = elements_from d l 0 l.count

-- what stands past the end of a list of children
abbrev pub no_child : Child
no_child = record { at = nowhere; hashed = false; hinted = false; beside = 0 }

-- the elements of a leaf lie in its cell's data, with what stands beside their offsets
pub record ElementsLie (d : List ℕ) (l : Leaf) : Type 0 where
  pub inside : 4 + l.count * l.width ≤ length (data_at d l.cell)
  pub offset-fits : 4 ≤ l.width
  pub beside-fits : (l.width ≡ 4 → ⊥) → 8 ≤ l.width

-- the answers: the flaw, or what was found
abbrev pub headed : Verdict → Leaves → Result Leaves Flaw
headed (Ok tt) ls = Ok ls
headed (Err f) ls = Err f

abbrev pub leafed : Verdict → Leaf → Result Leaf Flaw
leafed (Ok tt) l = Ok l
leafed (Err f) l = Err f

abbrev pub totalled : Verdict → ℕ → Result ℕ Flaw
totalled (Ok tt) n = Ok n
totalled (Err f) n = Err f

-- the elements of some leaves, counted, or the first leaf's flaw
abbrev pub total_over : Rule → List ℕ → List ℕ → Leaves → Result ℕ Flaw
total_over rule d m ls = totalled (fault_over (leaf_fault rule d m) (leaves_named d ls)) (length (children_in d (leaves_named d ls)))
