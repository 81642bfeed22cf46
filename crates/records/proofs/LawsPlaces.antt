-- The leaves of a list and the elements of a leaf, read where they stand in its cell, are those of the sequence.
use Prim.Native.Nat.{ℕ, zero, suc, ◌+◌, ◌*◌, ◌<◌, ◌≤◌}
use native.Mathlib.Omega.{arith}
use mathlib.Core.Path.{◌≡◌, refl, sym, ap, ◌∙◌}
use mathlib.Core.Bool.{Bool, true, false, cond}
use mathlib.Core.List.{List, [], ◌∷◌}
use lib.ListN.{length, get_or}
use Rattle.fields.specs.declared.Offset.{Offset}
use Rattle.fields.specs.Faults.{nowhere}
use Rattle.cells.specs.Rule.{Rule}
use Rattle.cells.specs.Named.{data_at}
use Rattle.cells.proofs.Parts.{data-small}
use Rattle.records.specs.declared.Child.{Child}
use Rattle.records.specs.declared.Leaves.{Leaves}
use Rattle.records.specs.Offsets.{offset_at, offsets_at}
use Rattle.records.specs.Lists.{is_li, is_ri, count_of, width_of, is_leaf, is_list, child_at, leaf_children, leaves_of, leaf_fault, head_fault}
use Rattle.records.specs.Terms.{leaves_in, leaves_at, leaf_named, leaves_named, LeavesLie, leaf_in, leaf_of, child_named, ElementsLie}
use Rattle.records.proofs.LawsRecord.{record-tested}
use Rattle.records.proofs.ListFacts.{IsLeaf, leaf-facts, index-facts, list-room}
use Rattle.records.proofs.LawsSequence.{offsets-length, offsets-at, leaf-children-length, leaf-children-at}
use Rattle.std.specs.Prelude.{Ok}

-- leaf j of some leaves
module _ (d : List ℕ) (ls : Leaves) (lie : LeavesLie d ls) where
  pub named-length : length (leaves_named d ls) ≡ ls.count
  unfolding leaves_named
  named-length = by ls.index refl
    where
      by : (t : Bool) → ls.index ≡ t → length (cond ls.index (offsets_at (data_at d ls.cell) 4 ls.count) (ls.cell ∷ [])) ≡ ls.count
      by true e = rw e (offsets-length (data_at d ls.cell) 4 ls.count)
      by false e = rw e (sym (lie.single e))

  pub named-at : (j : ℕ) → j < ls.count → leaf_named d ls j ≡ get_or (leaves_named d ls) j nowhere
  unfolding leaves_named leaf_named
  named-at j h = by ls.index refl j h
    where
      by : (t : Bool) → ls.index ≡ t → (j : ℕ) → j < ls.count
          → cond ls.index (offset_at (data_at d ls.cell) (4 + 4 * j)) ls.cell
          ≡ get_or (cond ls.index (offsets_at (data_at d ls.cell) 4 ls.count) (ls.cell ∷ [])) j nowhere
      by true e j h = rw e (sym (offsets-at (data_at d ls.cell) 4 ls.count j nowhere h))
      by false e zero h = rw e
      by false e (suc j) h = let s = lie.single e in absurd (omega arith)

-- the leaves of a list are those that stand there
pub leaves-are : (d : List ℕ) (o : Offset) → leaves_named d (leaves_at d o) ≡ leaves_of d o
unfolding leaves_named leaves_at leaves_in leaves_of
leaves-are d o = by (is_ri (data_at d o)) refl
  where
    by : (t : Bool) → is_ri (data_at d o) ≡ t
        → cond (is_ri (data_at d o)) (offsets_at (data_at d o) 4 (cond (is_ri (data_at d o)) (count_of (data_at d o)) 1)) (o ∷ [])
        ≡ cond (is_ri (data_at d o)) (offsets_at (data_at d o) 4 (count_of (data_at d o))) (o ∷ [])
    by true i = rw i
    by false i = rw i

module _ (rule : Rule) (d m : List ℕ) (o : Offset) (e : head_fault rule d m o ≡ Ok tt) where
  pub head-tested : is_list (data_at d o) ≡ true
  unfolding head_fault
  head-tested = record-tested is_list rule d m o e

  -- the leaves of a list that passes lie in its cell
  pub leaves-lie : LeavesLie d (leaves_at d o)
  unfolding leaves_at leaves_in
  leaves-lie = record { inside = lies; single = λ i. rw i }
    where
      lies : is_ri (data_at d o) ≡ true → 4 + 4 * cond (is_ri (data_at d o)) (count_of (data_at d o)) 1 ≤ length (data_at d o)
      lies i = let f = index-facts (data_at d o) head-tested i in rw i (omega (arith, f.room))

  -- at most as many as 16 bits count
  pub leaves-few : ((i : ℕ) → get_or d i 0 < 256) → (leaves_at d o).count < 65536
  unfolding leaves_at leaves_in
  leaves-few bytes = by (is_ri (data_at d o)) refl
    where
      by : (t : Bool) → is_ri (data_at d o) ≡ t → cond (is_ri (data_at d o)) (count_of (data_at d o)) 1 < 65536
      by true i = rw i (data-small d o 2 (let r = list-room (data_at d o) head-tested in omega arith) bytes)
      by false i = rw i (omega arith)

  pub leaf-is : (j : ℕ) → j < (leaves_at d o).count → leaf_named d (leaves_at d o) j ≡ get_or (leaves_of d o) j nowhere
  leaf-is j h = named-at d (leaves_at d o) leaves-lie j h ∙ ap (λ (ls : List Offset). get_or ls j nowhere) (leaves-are d o)

pub leaf-count : (d : List ℕ) (o : Offset) → (leaf_of d o).count ≡ length (leaf_children (data_at d o))
unfolding leaf_of leaf_in
leaf-count d o = sym (leaf-children-length (data_at d o))

-- an element has 4 bytes, or 8 with what stands beside the offset
wide : (r : List ℕ) → (4 ≤ width_of r) × ((width_of r ≡ 4 → ⊥) → 8 ≤ width_of r)
unfolding width_of
wide r = by (is_li r)
  where
    by : (t : Bool) → (4 ≤ cond t 4 8) × ((◌≡◌ {A = ℕ} (cond t 4 8) 4 → ⊥) → 8 ≤ cond t 4 8)
    by true = (omega arith, λ h. absurd (h refl))
    by false = (omega arith, λ h. omega arith)

module _ (rule : Rule) (d m : List ℕ) (o : Offset) (e : leaf_fault rule d m o ≡ Ok tt) where
  pub leaf-tested : IsLeaf (data_at d o)
  unfolding leaf_fault
  leaf-tested = leaf-facts (data_at d o) (record-tested is_leaf rule d m o e)

  pub leaf-some : 0 < length (leaf_children (data_at d o))
  leaf-some = let c = leaf-children-length (data_at d o) in let f = leaf-tested.holds in omega arith

  -- the elements of a leaf that passes lie in its cell
  pub elements_lie : ElementsLie d (leaf_of d o)
  unfolding leaf_of leaf_in
  elements_lie =
      let w = wide (data_at d o) in
      record { inside = leaf-tested.holds.room; offset-fits = w.0; beside-fits = w.1 }

-- the elements of a leaf are those that stand there
pub child-is : (d : List ℕ) (o : Offset) (i : ℕ) → child_named d (leaf_of d o) i ≡ child_at (data_at d o) i
unfolding child_named leaf_of leaf_in child_at width_of
child-is d o i = by (is_li (data_at d o)) refl
  where
    by : (t : Bool) → is_li (data_at d o) ≡ t → child_named d (leaf_of d o) i ≡ child_at (data_at d o) i
    by true e = rw e
    by false e = rw e

pub child-at : (d : List ℕ) (o : Offset) (i : ℕ) (z : Child) → i < (leaf_of d o).count
    → child_named d (leaf_of d o) i ≡ get_or (leaf_children (data_at d o)) i z
unfolding leaf_of leaf_in
child-at d o i z h = child-is d o i ∙ sym (leaf-children-at (data_at d o) i z h)
