-- A key's value list: where its elements stand, and that they are the key's values.
use Prim.Native.Nat.{ℕ, ◌*◌}
use native.Mathlib.Omega.{arith}
use mathlib.Core.Path.{◌≡◌, refl, ap, ◌∙◌}
use mathlib.Core.Bool.{Bool, true, false}
use mathlib.Core.List.{List}
use lib.Dec.{eqb}
use Rattle.fields.specs.declared.Flaw.{Flaw}
use Rattle.fields.specs.Faults.{fault_over}
use Rattle.fields.proofs.Firsts.{on, stop}
use Rattle.cells.specs.Rule.{Rule}
use Rattle.records.specs.declared.Key.{Key}
use Rattle.records.specs.Offsets.{offsets_at}
use Rattle.values.specs.declared.Entries.{Entries}
use Rattle.values.specs.Entries.{entries_of}
use Rattle.values.specs.Terms.{Room}
use Rattle.values.specs.Lists.{values_of, value_list_fault, value_entries, whole_value_fault, values_fault}
use Rattle.values.proofs.Rooms.{roomy}
use Rattle.values.proofs.Segment_faults.{entered-whole, entered-flawed}
use Rattle.std.specs.Prelude.{Err, Ok}

-- the elements are the key's values
pub values_listed : (d : List ℕ) (k : Key) → values_of d k ≡ entries_of d (value_entries k)
unfolding values_of value_entries entries_of
values_listed d k = by (eqb k.values 0) refl
  where
    by : (t : Bool) → eqb k.values 0 ≡ t → values_of d k ≡ entries_of d (value_entries k)
    by true e = rw e (unfold offsets_at in refl)
    by false e = rw e

module _ (rule : Rule) (d m : List ℕ) (k : Key) where
  pub values-room : value_list_fault rule d m k ≡ Ok tt → Room d (value_entries k)
  unfolding value_list_fault value_entries
  values-room s = by (eqb k.values 0) refl
    where
      by : (t : Bool) → eqb k.values 0 ≡ t → Room d (value_entries k)
      by true e = rw e (omega arith)
      by false e = rw e (roomy rule d m k.value_list (4 * k.values) (rw e at s))

  module _ (s : value_list_fault rule d m k ≡ Ok tt) (e : Entries) (is : value_entries k ≡ e) where
    pub list-room : Room d e
    list-room = rw (← is) (values-room s)

    pub list-values : values_of d k ≡ entries_of d e
    list-values = values_listed d k ∙ ap (entries_of d) is

  module _ (minor : ℕ) where
    pub unlisted-values : {f : Flaw} → value_list_fault rule d m k ≡ Err f → values_fault rule d m minor k ≡ Err f
    unfolding values_fault
    unlisted-values e = stop _ _ e

    pub by_values : value_list_fault rule d m k ≡ Ok tt → (e : Entries) → value_entries k ≡ e
        → values_fault rule d m minor k ≡ fault_over (whole_value_fault rule d m minor) (entries_of d e)
    unfolding values_fault
    by_values s e is = on _ _ s ∙ ap (fault_over (whole_value_fault rule d m minor)) (list-values s e is)

-- the ways out of the tests of a value list
pub ruleset values_ways = (entered-whole, entered-flawed, unlisted-values, list-room, by_values)
