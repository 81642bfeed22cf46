-- No two values of a key have the same name exactly when the test finds none, and where it finds one, that is the first with an earlier namesake.
use Prim.Native.Nat.{ℕ, ◌<◌, ◌≤◌}
use native.Mathlib.Omega.{arith}
use mathlib.Core.Path.{◌≡◌, refl, ap, ◌∙◌, subst}
use mathlib.Core.Bool.{Bool, true, false, cond}
use mathlib.Core.Logic.{◌↔◌}
use mathlib.Core.List.{List, []}
use lib.Dec.{eqb}
use lib.ListN.{length, get_or}
use borrow.Author.Tests.{ne_eqb}
use Rattle.fields.specs.declared.Fault.TheVariants.{Namesake}
use Rattle.fields.specs.declared.Flaw.{Flaw}
use Rattle.fields.specs.declared.Offset.{Offset}
use Rattle.fields.specs.Faults.{nowhere, flaw}
use Rattle.fields.proofs.Bools.{never}
use Rattle.fields.proofs.Firsts.{both}
use Rattle.fields.proofs.Loops.{over-each}
use Rattle.cells.specs.Rule.{Rule}
use Rattle.names.specs.Comparison.{compare}
use Rattle.names.proofs.By_code.{by_order}
use Rattle.names.proofs.LawsOrder.{same-symmetric, same-transitive, name-same, same-name}
use Rattle.namesake_laws.specs.Repeats.{First}
use Rattle.records.specs.declared.Key.{Key}
use Rattle.records.specs.declared.Name.{Name}
use Rattle.records.specs.Keys.{NameIn, codes_of}
use Rattle.records.proofs.Elements.{at_in}
use Rattle.values.specs.Records.{value_fault, fields_of, value_of}
use Rattle.values.specs.declared.Entries.{Entries}
use Rattle.values.specs.Entries.{entries_at, entries_of}
use Rattle.values.specs.Lists.{values_of, value_list_fault, value_entries, whole_value_fault, values_fault}
use Rattle.values.proofs.Rooms.{entries-length}
use Rattle.values.proofs.LawsLists.{values_listed, values-room, list-values}
use Rattle.values.proofs.LawsValues.{name-inside}
use Rattle.namesakes.specs.Namesakes.{value_name, are_namesakes, is_repeat, repeat_fault, namesake_fault, called_at, twins, Distinct, Earlier, Repeats}
use Rattle.namesakes.specs.Terms.{NamesLie, called}
use Rattle.namesakes.proofs.Positions.{repeat_at, none-repeats, one-repeats, sound-at, Stands, flawed-at, repeat-of, of-repeat}
use Rattle.std.specs.Prelude.{Err, Ok}
use Rattle.std.specs.declared.cmp.Ordering.TheVariants.{Equal}

-- a repeat at a position, and the positions before it
module _ (d : List ℕ) (vs : List Offset) (j : ℕ) (l : j < length vs) where
  pub earlier-of : repeat_at d [] vs j ≡ true → Earlier d vs j
  unfolding twins is_repeat
  earlier-of e = let r = of-repeat d (get_or vs j nowhere) [] vs j (omega arith) refl e in record { at = r.0; before = r.1; same = r.2 }

  pub of-earlier : Earlier d vs j → repeat_at d [] vs j ≡ true
  unfolding twins
  of-earlier x = repeat-of d (get_or vs j nowhere) [] vs x.at j x.before (omega (arith, x.before)) x.same

  pub clear_of : repeat_at d [] vs j ≡ false → (i : ℕ) → i < j → twins d vs i j ≡ false
  clear_of e i b = by (twins d vs i j) refl
    where
      by : (t : Bool) → twins d vs i j ≡ t → twins d vs i j ≡ false
      by true q = absurd (never _ (of-earlier (record { at = i; before = b; same = q })) e)
      by false q = q

  pub of-clear : ((i : ℕ) → i < j → twins d vs i j ≡ false) → repeat_at d [] vs j ≡ false
  of-clear h = by (repeat_at d [] vs j) refl
    where
      by : (t : Bool) → repeat_at d [] vs j ≡ t → repeat_at d [] vs j ≡ false
      by true q = let x = earlier-of q in absurd (never _ x.same (h x.at x.before))
      by false q = q

pub twins-turned : (d : List ℕ) (vs : List Offset) (i j : ℕ) → twins d vs i j ≡ true → twins d vs j i ≡ true
unfolding twins are_namesakes
twins-turned d vs i j e = name-same _ _ (same-symmetric _ _ (same-name _ _ e))

-- the lowest position of all answers
module _ (d : List ℕ) (vs : List Offset) (n r : ℕ) (is : length vs ≡ n) (f : First (called d vs) n r) where
  lower : (j : ℕ) → j < r → repeat_at d [] vs j ≡ false
  unfolding twins are_namesakes
  lower j l = of-clear d vs j (omega (arith, f.within)) (λ i b. f.clear i j b l)

  pub first-flaw : r < n → repeat_fault d [] vs ≡ Err (flaw Namesake (get_or vs r nowhere))
  unfolding twins are_namesakes
  first-flaw l =
      let e = f.found l in
      one-repeats d [] vs r (omega arith) lower (of-earlier d vs r (omega arith) (record { at = e.at; before = e.before; same = e.same }))

  pub first-none : n ≤ r → repeat_fault d [] vs ≡ Ok tt
  first-none l = none-repeats d [] vs (λ j k. lower j (omega arith))

module _ (d : List ℕ) (k : Key) where
  sound-distinct : namesake_fault d k ≡ Ok tt → Distinct d k
  unfolding namesake_fault
  sound-distinct s = record { differ = λ i j b l. clear_of d (values_of d k) j l (sound-at d [] (values_of d k) s j l) i b }

  distinct-sound : Distinct d k → namesake_fault d k ≡ Ok tt
  unfolding namesake_fault
  distinct-sound x = none-repeats d [] (values_of d k) (λ j l. of-clear d (values_of d k) j l (λ i b. x.differ i j b l))

  -- "no two values of a key have the same name"
  pub distinct-exactly : (namesake_fault d k ≡ Ok tt) ↔ Distinct d k
  distinct-exactly = (sound-distinct, distinct-sound)

  -- "new refusal 29, place: the first value with an earlier namesake"
  pub namesake-told : {f : Flaw} → namesake_fault d k ≡ Err f → (v : Offset) × (f ≡ flaw Namesake v) × Repeats d k v
  unfolding namesake_fault
  namesake-told {f} e = (get_or (values_of d k) s.at nowhere, s.says, is)
    where
      s : Stands d [] (values_of d k) f
      s = flawed-at d [] (values_of d k) e

      is : Repeats d k (get_or (values_of d k) s.at nowhere)
      is =
          record {
            at = s.at;
            inside = s.inside;
            here = refl;
            earlier = earlier-of d (values_of d k) s.at s.inside s.repeat;
            lowest = λ i j b l. clear_of d (values_of d k) j (omega (arith, s.inside)) (s.lowest j l) i b;
          }

  pub told-namesake : {v : Offset} → Repeats d k v → namesake_fault d k ≡ Err (flaw Namesake v)
  unfolding namesake_fault twins are_namesakes
  told-namesake x =
      let e = x.earlier in
      rw x.here
      (first-flaw d (values_of d k) _ x.at refl (record {
        within = omega (arith, x.inside);
        clear = x.lowest;
        found = λ l. record { at = e.at; before = e.before; same = e.same };
      }) x.inside)

  -- so two positions whose values have one name are one
  pub only_one : Distinct d k → (i j : ℕ) → i < length (values_of d k) → j < length (values_of d k) → twins d (values_of d k) i j ≡ true → i ≡ j
  only_one x i j a b e =
      by_order i j
      (λ l. absurd (never _ e (x.differ i j l b)))
      (λ l. absurd (never _ (twins-turned d (values_of d k) i j e) (x.differ j i l a)))
      (λ q. q)

  -- the same, by the elements of the value list
  module _ (e : Entries) (is : value_entries k ≡ e) where
    same-values : values_of d k ≡ entries_of d e
    same-values = values_listed d k ∙ ap (entries_of d) is

    module _ (r : ℕ) (f : First (called d (entries_of d e)) e.count r) where
      pub flaw-at : r < e.count → {v : Offset} → v ≡ get_or (entries_of d e) r nowhere → namesake_fault d k ≡ Err (flaw Namesake v)
      unfolding namesake_fault
      flaw-at l at = ap (repeat_fault d []) same-values ∙ rw at (first-flaw d (entries_of d e) e.count r (entries-length d e) f l)

      pub none-at : e.count ≤ r → namesake_fault d k ≡ Ok tt
      unfolding namesake_fault
      none-at l = ap (repeat_fault d []) same-values ∙ first-none d (entries_of d e) e.count r (entries-length d e) f l

    -- one value, or none, repeats nothing
    pub too_few : e.count < 2 → namesake_fault d k ≡ Ok tt
    too_few l =
        let n : e.count ≤ e.count = omega arith in
        none-at e.count
        (record {
          within = n;
          clear = λ i j p q. absurd (let y = p in let z = q in omega arith);
          found = λ q. absurd (let z = q in omega arith);
        })
        n

-- where a key's values stand
module _ (k : Key) where
  pub entries-are : (k.values ≡ 0 → ⊥) → value_entries k ≡ entries_at k.value_list k.values
  unfolding value_entries
  entries-are f = rw (ne_eqb k.values 0 f)

  pub entries-few : k.values < 2 → (value_entries k).count < 2
  unfolding value_entries
  entries-few l = by (eqb k.values 0)
    where
      by : (t : Bool) → (cond t (entries_at nowhere 0) (entries_at k.value_list k.values)).count < 2
      by true = omega arith
      by false = l

-- the name of a value, in a hive of any minor version
pub name-is : (d : List ℕ) (minor : ℕ) (v : Offset) → (value_of d minor v).name ≡ value_name d v
unfolding value_of fields_of
name-is d minor v = refl

-- two values that have a name are namesakes
pub of-one-name : (d : List ℕ) (minor : ℕ) (vs : List Offset) (i j : ℕ) (x : List ℕ) → compare (codes_of d (value_of d minor (get_or vs i nowhere)).name) x ≡ Equal
    → compare (codes_of d (value_of d minor (get_or vs j nowhere)).name) x ≡ Equal → twins d vs i j ≡ true
unfolding twins are_namesakes called_at value_of fields_of
of-one-name d minor vs i j x p q = name-same _ _ (same-transitive _ x _ p (same-symmetric _ x q))

-- "tested after that key's values have passed": then their names lie in their cells
module _ (rule : Rule) (d m : List ℕ) (minor : ℕ) (k : Key) (s : values_fault rule d m minor k ≡ Ok tt) where
  listed : value_list_fault rule d m k ≡ Ok tt
  unfolding values_fault
  listed = (both _ _ s).0

  each : (i : ℕ) → i < (value_entries k).count → value_fault rule d m (get_or (entries_of d (value_entries k)) i nowhere) ≡ Ok tt
  unfolding values_fault whole_value_fault
  each i l =
      let e = list-values rule d m k listed (value_entries k) refl in
      let o = over-each (whole_value_fault rule d m minor) (entries_of d (value_entries k)) (rw (← e) (both _ _ s).1) _
      (at_in _ i nowhere (omega (arith, entries-length d (value_entries k)))) in
      (both _ _ o).0

  pub passed-lie : NamesLie d (value_entries k)
  passed-lie =
      record {
        room = values-room rule d m k listed;
        lie = λ i l. subst (λ (n : Name). NameIn d n) (name-is d minor (get_or (entries_of d (value_entries k)) i nowhere)) (name-inside rule d m minor _ (each i l));
      }
