-- The values and the subkeys of a key, by its lists in their cells. d is the bins data.
use Prim.Native.Nat.{ℕ, suc, ◌+◌, ◌<◌, ◌≤◌}
use native.Mathlib.Omega.{arith}
use mathlib.Core.Path.{◌≡◌, refl, ap, ◌∙◌}
use mathlib.Core.Bool.{false}
use mathlib.Core.List.{List, [], ◌∷◌, append-nil}
use lib.ListN.{length}
use borrow.Author.Tests.{ne_eqb}
use Rattle.fields.specs.declared.Offset.{Offset}
use Rattle.cells.specs.Named.{data_at}
use Rattle.records.specs.Offsets.{offsets_at}
use Rattle.records.specs.Lists as lists
use Rattle.values.specs.Lists.{values_of}
use Rattle.forest.specs.Forest.{Item, Forest, none, more, count_of}
use Rattle.layout.specs.Layout.{size_of, values_at, list_at, below_at, leaf_at, beside_at, value_offsets, value_size, if_any}
use Rattle.build_laws.specs.Written.{leaf_record, items_at, children_at}
use Rattle.build_laws.proofs.Keys.{key_at}
use Rattle.build_laws.proofs.Lists.{offsets-read}
use Rattle.build_laws.proofs.Leaves.{leaf-no-ri, leaf-read}
use Rattle.build_laws.proofs.Held.{Holds}

pub items-count : (vs : List Item) (at : ℕ) → length (items_at vs at) ≡ length vs
unfolding items_at
items-count [] at = refl
items-count (v ∷ vs) at = ap suc (items-count vs (at + value_size v))

pub children-count : (f : Forest) (at : ℕ) → length (children_at f at) ≡ count_of f
unfolding children_at count_of
children-count none at = refl
children-count (more s x vs b r) at = ap suc (children-count r (beside_at x vs b at))

module _ (d : List ℕ) (x : List ℕ) (at parent : ℕ) (o : Offset) where
  pub values-in : (vs : List Item) (b : Forest) → (0 < length vs → Holds d (list_at x vs at) (value_offsets vs (values_at x at))) → list_at x vs at ≤ 4294967296
      → values_of d (key_at x vs b at parent o) ≡ items_at vs (values_at x at)
  unfolding values_of items_at if_any
  values-in [] b h p = refl
  values-in (v ∷ vs) b h p =
      let w = h (omega arith) in
      rw (ne_eqb (suc (length vs)) 0 (λ e. omega arith))
      (ap (λ (r : List ℕ). offsets_at r 0 (suc (length vs))) w.1 ∙ offsets-read (v ∷ vs) (values_at x at) w.0 p)

  pub children-in : (vs : List Item) (b : Forest) → (0 < count_of b → Holds d (leaf_at x vs b at) (leaf_record b (below_at x vs at))) → count_of b ≤ 65535
      → leaf_at x vs b at ≤ 4294967296 → lists.children_below d (key_at x vs b at parent o) ≡ children_at b (below_at x vs at)
  unfolding lists.children_below lists.leaves_below lists.leaves_of lists.children_in children_at count_of if_any
  children-in vs none h few p = refl
  children-in vs (more s y ws c r) h few p =
      rw (ne_eqb (suc (count_of r)) 0 (λ e. omega arith)) (leaf-in (more s y ws c r) (h (omega arith)) few p)
    where
      leaf-in : (b : Forest) → Holds d (leaf_at x vs (more s y ws c r) at) (leaf_record b (below_at x vs at)) → count_of b ≤ 65535
          → below_at x vs at + size_of b ≤ 4294967296
          → lists.children_in d (lists.leaves_of d (record { 0 = leaf_at x vs (more s y ws c r) at })) ≡ children_at b (below_at x vs at)
      leaf-in b w few p =
          let no : lists.is_ri (data_at d (record { 0 = leaf_at x vs (more s y ws c r) at })) ≡ false = ap lists.is_ri w.1 ∙ leaf-no-ri b (below_at x vs at) w.0 in
          rw no (append-nil _ ∙ ap lists.leaf_children w.1 ∙ leaf-read b (below_at x vs at) w.0 few p)
