-- The total over the leaves, by a loop: the invariant, a law for each way out, and the way from a key's lists to their leaves.
use Prim.Native.Nat.{ℕ, ◌+◌, ◌*◌, ◌<◌, ◌≤◌}
use native.Mathlib.Omega.{arith}
use mathlib.Core.Path.{◌≡◌, refl, ap, ◌∙◌}
use mathlib.Core.List.{List}
use lib.ListN.{length, get_or, drop}
use Rattle.fields.specs.declared.Offset.{Offset}
use Rattle.fields.specs.declared.Flaw.{Flaw}
use Rattle.fields.specs.Faults.{nowhere, fault_over}
use Rattle.fields.proofs.Loops.{loop-stop, loop-on, loop-end}
use Rattle.cells.specs.Rule.{Rule}
use Rattle.cells.specs.Named.{data_at}
use Rattle.cells.proofs.Parts.{data-small}
use Rattle.records.specs.declared.Key.{Key}
use Rattle.records.specs.declared.Leaf.{Leaf}
use Rattle.records.specs.declared.Leaves.{Leaves}
use Rattle.records.specs.Lists.{count_of, children_in, children_below, leaf_fault, head_fault, lists_fault}
use Rattle.records.specs.Terms.{leaves_at, leaf_named, leaves_named, LeavesLie, leaf_in, leaf_of, headed, leafed, totalled, total_over}
use Rattle.records.proofs.LawsAnswer.{headed-whole, headed-flawed, leafed-whole, leafed-flawed}
use Rattle.records.proofs.LawsSequence.{count-on, count-end}
use Rattle.records.proofs.LawsPlaces.{named-length, named-at, leaves-lie, leaves-are, leaves-few, leaf-tested}
use Rattle.records.proofs.LawsLists.{list-stop, list_over, lists-none, lists-some, below_none, below-some}
use Rattle.std.specs.Prelude.{Err, Ok}

-- so many elements in the first j leaves, and the rest answers for the whole
pub record Counted (rule : Rule) (d m : List ℕ) (ls : Leaves) (sum j : ℕ) : Type 0 where
  pub within : j ≤ ls.count
  pub small : sum ≤ 65535 * j
  pub faults : fault_over (leaf_fault rule d m) (leaves_named d ls) ≡ fault_over (leaf_fault rule d m) (drop j (leaves_named d ls))
  pub counts : length (children_in d (leaves_named d ls)) ≡ sum + length (children_in d (drop j (leaves_named d ls)))

module _ (rule : Rule) (d m : List ℕ) (ls : Leaves) (lie : LeavesLie d ls) where
  pub counted_start : Counted rule d m ls 0 0
  counted_start = record { within = omega arith; small = omega arith; faults = refl; counts = omega arith }

  module _ (sum j : ℕ) (w : Counted rule d m ls sum j) where
    pub counted-end : ls.count ≤ j → Ok sum ≡ total_over rule d m ls
    counted-end h =
        let n = named-length d ls lie in
        let e = count-end d (leaves_named d ls) j (omega arith) in
        let q : sum ≡ length (children_in d (leaves_named d ls)) = omega (arith, w.counts) in
        rw (loop-end (leaf_fault rule d m) (leaves_named d ls) j nowhere w.faults (omega arith)) (ap Ok q)

    module _ (o : Offset) (more : j < ls.count) (is : o ≡ leaf_named d ls j) where
      pub counted-bad : {f : Flaw} → leafed (leaf_fault rule d m o) (leaf_of d o) ≡ Err f → Err f ≡ total_over rule d m ls
      counted-bad e =
          let n = named-length d ls lie in
          rw (loop-stop (leaf_fault rule d m) (leaves_named d ls) j nowhere w.faults o (omega arith) (is ∙ named-at d ls lie j more)
          (leafed-flawed (leaf_fault rule d m o) (leaf_of d o) e))

      pub counted-on : (l : Leaf) → ((i : ℕ) → get_or d i 0 < 256) → leafed (leaf_fault rule d m o) (leaf_of d o) ≡ Ok l
          → Counted rule d m ls (sum + l.count) (j + 1)
      unfolding leaf_of leaf_in
      counted-on l bytes e =
          let n = named-length d ls lie in
          let s = leafed-whole (leaf_fault rule d m o) (leaf_of d o) e in
          let f = (leaf-tested rule d m o s.0).holds in
          let b = data-small d o 2 (omega arith) bytes in
          let c : l.count ≡ count_of (data_at d o) = ap (λ (x : Leaf). x.count) s.1 in
          let k = count-on d (leaves_named d ls) j nowhere o (omega arith) (is ∙ named-at d ls lie j more) in
          record {
            within = omega arith;
            small = omega (arith, w.small);
            faults = loop-on (leaf_fault rule d m) (leaves_named d ls) j nowhere w.faults o (omega arith) (is ∙ named-at d ls lie j more) s.0;
            counts = omega (arith, w.counts);
          }

-- from a key's lists to their leaves
module _ (rule : Rule) (d m : List ℕ) (k : Key) where
  pub total-none : k.subkeys ≡ 0 → Ok 0 ≡ totalled (lists_fault rule d m k) (length (children_below d k))
  unfolding children_below children_in
  total-none e = rw (lists-none rule d m k e, below_none d k e)

  module _ (some : k.subkeys ≡ 0 → ⊥) where
    pub total-bad : {f : Flaw} → headed (head_fault rule d m k.list) (leaves_at d k.list) ≡ Err f
        → Err f ≡ totalled (lists_fault rule d m k) (length (children_below d k))
    total-bad e =
        let h = headed-flawed (head_fault rule d m k.list) (leaves_at d k.list) e in
        rw (lists-some rule d m k some, list-stop rule d m k.list h)

    module _ (ls : Leaves) (e : headed (head_fault rule d m k.list) (leaves_at d k.list) ≡ Ok ls) where
      head-sound : (head_fault rule d m k.list ≡ Ok tt) × (ls ≡ leaves_at d k.list)
      head-sound = headed-whole (head_fault rule d m k.list) (leaves_at d k.list) e

      -- what `total_over` requires
      pub total-ready : ((i : ℕ) → get_or d i 0 < 256) → (ls.count < 65536) × LeavesLie d ls
      total-ready bytes =
          let h = head-sound in
          rw h.1 (leaves-few rule d m k.list h.0 bytes, leaves-lie rule d m k.list h.0)

      pub total-good : total_over rule d m ls ≡ totalled (lists_fault rule d m k) (length (children_below d k))
      unfolding children_below
      total-good =
          let h = head-sound in
          rw (h.1, leaves-are d k.list, lists-some rule d m k some, list_over rule d m k.list h.0, below-some d k some)

-- what `total_of` needs
pub ruleset totals = (total-none, total-bad, total-ready, total-good)
