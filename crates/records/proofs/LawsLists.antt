-- The lists of a key: the first fault of all leaves, and what sound lists say of each leaf.
use Prim.Native.Nat.{ℕ, zero, suc}
use native.Mathlib.Omega.{arith}
use mathlib.Core.Path.{◌≡◌, refl, sym, ap, ◌∙◌}
use mathlib.Core.Bool.{Bool, true, false}
use mathlib.Core.List.Memᴰ
use mathlib.Core.List.{List, [], ◌∷◌, Memᴰ}
use borrow.Author.Tests.{eq-eqb, ne_eqb}
use Rattle.fields.specs.declared.Offset.{Offset}
use Rattle.fields.specs.declared.Flaw.{Flaw}
use Rattle.fields.specs.Faults.{fault_over}
use Rattle.fields.proofs.Firsts.{on, stop, both}
use Rattle.fields.proofs.Loops.{over-each, each_over}
use Rattle.cells.specs.Rule.{Rule}
use Rattle.cells.specs.Named.{data_at}
use Rattle.records.specs.declared.Key.{Key}
use Rattle.records.specs.Lists.{is_ri, leaves_of, leaves_below, leaf_fault, head_fault, list_fault, lists_fault}
use Rattle.records.proofs.ListTests.{leaf-list}
use Rattle.std.specs.Prelude.{Err, Ok}

module _ (rule : Rule) (d m : List ℕ) (o : Offset) where
  pub list-stop : {f : Flaw} → head_fault rule d m o ≡ Err f → list_fault rule d m o ≡ Err f
  unfolding list_fault
  list-stop e = stop _ _ e

module _ (rule : Rule) (d m : List ℕ) (o : Offset) where
  -- a list that is no `ri` is a leaf
  head-leaf : head_fault rule d m o ≡ Ok tt → is_ri (data_at d o) ≡ false → leaf_fault rule d m o ≡ Ok tt
  unfolding head_fault leaf_fault
  head-leaf e i = rw (leaf-list (data_at d o) i) at e

  -- behind its own record a list is the sequence of its leaves
  pub list_over : head_fault rule d m o ≡ Ok tt → list_fault rule d m o ≡ fault_over (leaf_fault rule d m) (leaves_of d o)
  unfolding list_fault leaves_of
  list_over e = by (is_ri (data_at d o)) refl
    where
      by : (t : Bool) → is_ri (data_at d o) ≡ t → list_fault rule d m o ≡ fault_over (leaf_fault rule d m) (leaves_of d o)
      by true i = on _ _ e ∙ rw i
      by false i =
          on _ _ e
          ∙ rw i (sym (each_over (leaf_fault rule d m) (o ∷ []) (λ x p. ap (leaf_fault rule d m) (Memᴰ.eq_of_singleton p) ∙ head-leaf e i)))

  pub list-head : list_fault rule d m o ≡ Ok tt → head_fault rule d m o ≡ Ok tt
  unfolding list_fault
  list-head e = (both (head_fault rule d m o) _ e).0

  list-leaf : list_fault rule d m o ≡ Ok tt → (l : Offset) → Memᴰ l (leaves_of d o) → leaf_fault rule d m l ≡ Ok tt
  list-leaf e = over-each (leaf_fault rule d m) (leaves_of d o) (sym (list_over (list-head e)) ∙ e)

-- "Count 0: the list offset is not read."
pub below_none : (d : List ℕ) (k : Key) → k.subkeys ≡ 0 → leaves_below d k ≡ []
unfolding leaves_below
below_none d k e = rw (eq-eqb k.subkeys 0 e)

pub below-some : (d : List ℕ) (k : Key) → (k.subkeys ≡ 0 → ⊥) → leaves_below d k ≡ leaves_of d k.list
unfolding leaves_below
below-some d k n = rw (ne_eqb k.subkeys 0 n)

by_count : {A : Type 0} (n : ℕ) → (n ≡ 0 → A) → ((n ≡ 0 → ⊥) → A) → A
by_count zero p q = p refl
by_count (suc n) p q = q (λ e. omega arith)

module _ (rule : Rule) (d m : List ℕ) (k : Key) where
  pub lists-none : k.subkeys ≡ 0 → lists_fault rule d m k ≡ Ok tt
  unfolding lists_fault
  lists-none e = rw (eq-eqb k.subkeys 0 e)

  pub lists-some : (k.subkeys ≡ 0 → ⊥) → lists_fault rule d m k ≡ list_fault rule d m k.list
  unfolding lists_fault
  lists-some n = rw (ne_eqb k.subkeys 0 n)

  pub lists-head : lists_fault rule d m k ≡ Ok tt → (k.subkeys ≡ 0 → ⊥) → head_fault rule d m k.list ≡ Ok tt
  lists-head e n = list-head rule d m k.list (sym (lists-some n) ∙ e)

  -- each leaf of a key whose lists are sound is a leaf
  pub lists-leaf : lists_fault rule d m k ≡ Ok tt → (l : Offset) → Memᴰ l (leaves_below d k) → leaf_fault rule d m l ≡ Ok tt
  lists-leaf e l p =
      by_count k.subkeys
      (λ z. absurd (Memᴰ.not-nil {a = l} (rw (below_none d k z) at p)))
      (λ n. list-leaf rule d m k.list (sym (lists-some n) ∙ e) l (rw (below-some d k n) at p))
