-- The tree of a forest that is laid in the bins data d stands: each key by itself, the order of its subkeys, and what its leaf says of each.
use Prim.Native.Nat.{ℕ, zero, suc, ◌+◌, ◌*◌, ◌<◌, ◌≤◌}
use native.Mathlib.Omega.{arith}
use mathlib.Core.Path.{◌≡◌, refl, sym, ap, ◌∙◌, subst}
use mathlib.Core.Bool.{true, false}
use mathlib.Core.Logic.{⊎_elim}
use mathlib.Core.List.Memᴰ
use mathlib.Core.List.{List, Memᴰ}
use lib.ListN.{length, get_or}
use Rattle.fields.specs.declared.Offset.{Offset}
use Rattle.fields.specs.Faults.{nowhere}
use Rattle.names.specs.Comparison.{compare, same_name}
use Rattle.names.specs.Hashing.{hash_of}
use Rattle.records.specs.declared.Child.{Child}
use Rattle.records.specs.Keys.{key_of}
use Rattle.records.specs.Lists.{children}
use Rattle.namesakes.specs.Namesakes.{called_at, are_namesakes, twins}
use Rattle.tree.specs.declared.Hive.{Hive}
use Rattle.tree.specs.Tree.{name_at}
use Rattle.tree.specs.WellFormed.{Room, ValueStands, KeyStands, ChildStands, Ascends, none as no-children, more as ascends-more, TreeStands, key as stands}
use Rattle.forest.specs.Forest.{Item, Forest, count_of, names_of, item_names}
use Rattle.forest.specs.Allowed.{Sorted, sorted_more, Apart, apart_more}
use Rattle.layout.specs.Layout.{value_size, stored, below_at}
use Rattle.layout.proofs.Sizes.{cell_room}
use Rattle.build_laws.specs.Written.{items_at, children_at}
use Rattle.build_laws.proofs.Held_lists.{children-count}
use Rattle.build_laws.specs.Laid.{ValuesLaid, no-values, value, KeyLaid, Laid, no_keys, key}

-- the minor version and the root of a built hive
abbrev pub built_as : Hive
built_as = record { minor = 5; root = record { 0 = 32 } }

positive : (n : ℕ) → (n ≡ 0 → ⊥) → 0 < n
positive zero f = absurd (f refl)
positive (suc n) f = omega arith

module _ {d : List ℕ} where
  -- ---- values

  values-stand : {vs : List Item} {at : ℕ} → ValuesLaid d vs at → (v : Offset) → Memᴰ v (items_at vs at) → ValueStands d 5 v
  unfolding items_at
  values-stand no-values v i = absurd (Memᴰ.not-nil i)
  values-stand (value {at = at} l t) v i =
      ⊎_elim (λ (e : v ≡ record { 0 = at }). subst (λ (o : Offset). ValueStands d 5 o) (sym e) l.stands) (λ j. values-stand t v j) (Memᴰ.cases_cons i)

  called-among : {vs : List Item} {at : ℕ} → ValuesLaid d vs at → (j : ℕ) → j < length (items_at vs at)
      → Memᴰ (called_at d (get_or (items_at vs at) j nowhere)) (item_names vs)
  unfolding items_at item_names
  called-among no-values j h = absurd (omega arith)
  called-among (value l t) zero h = Memᴰ.head l.called
  called-among (value l t) (suc j) h = Memᴰ.tail (called-among t j (omega arith))

  values-differ : {vs : List Item} {at : ℕ} → ValuesLaid d vs at → Apart (item_names vs) → (i j : ℕ) → i < j → j < length (items_at vs at)
      → twins d (items_at vs at) i j ≡ false
  unfolding items_at item_names twins are_namesakes
  values-differ no-values a i j p q = absurd (omega arith)
  values-differ (value l t) a i zero p q = absurd (omega arith)
  values-differ (value {v = v} {vs = vs} {at = at} l t) (apart_more f a) zero (suc j) p q =
      let other = called_at d (get_or (items_at vs (at + value_size v)) j nowhere) in
      ap (λ (x : List ℕ). same_name x other) l.called ∙ f other (called-among t j (omega arith))
  values-differ (value l t) (apart_more f a) (suc i) (suc j) p q = values-differ t a i j (omega arith) (omega arith)

  -- ---- a key by itself

  module _ {S s : ℕ} {x : List ℕ} {vs : List Item} {b : Forest} {at parent : ℕ} (k : KeyLaid d S s x vs b at parent) where
    key-stands : KeyStands d 5 (record { 0 = at })
    key-stands =
        record {
          in_use = k.in_use;
          record-good = k.record-good;
          values = record {
            list = λ ne.
                subst (λ (n : ℕ). Room d (key_of d (record { 0 = at })).value_list (4 * n)) (sym k.values-many)
                (k.list (positive (length vs) (λ e. ne (k.values-many ∙ e))));
            each = λ v i. values-stand k.each v (subst (λ (l : List Offset). Memᴰ v l) k.values-are i);
            distinct = record {
              differ =
                  subst (λ (l : List Offset). (i j : ℕ) → i < j → j < length l → twins d l i j ≡ false) (sym k.values-are)
                  (values-differ k.each k.allowed.apart);
            };
          };
          lists = λ ne. k.leaf (positive (count_of b) (λ e. ne (k.subkeys-many ∙ e)));
          total = ap length k.children-are ∙ children-count b (below_at x vs at) ∙ sym k.subkeys-many;
        }

  -- ---- the keys side by side

  child-named : {S n : ℕ} {f : Forest} {at parent : ℕ} → Laid d S n f at parent → (c : Child) → Memᴰ c (children_at f at)
      → Memᴰ (name_at d c.at) (names_of f)
  unfolding children_at names_of
  child-named no_keys c i = absurd (Memᴰ.not-nil i)
  child-named (key {x = x} {at = at} k u t) c i =
      ⊎_elim
      (λ (e : c ≡ record { at = record { 0 = at }; hashed = true; hinted = false; beside = hash_of x }).
      Memᴰ.head (ap (λ (y : Child). name_at d y.at) e ∙ k.named))
      (λ j. Memᴰ.tail (child-named t c j))
      (Memᴰ.cases_cons i)

  children-ascend : {S n : ℕ} {f : Forest} {at parent : ℕ} → Laid d S n f at parent → Sorted (names_of f) → Ascends d (children_at f at)
  unfolding children_at names_of
  children-ascend no_keys a = no-children
  children-ascend (key k u t) (sorted_more f a) =
      ascends-more (λ e i. ap (λ (y : List ℕ). compare y (name_at d e.at)) k.named ∙ f (name_at d e.at) (child-named t e i)) (children-ascend t a)

  child-stands : {S n : ℕ} {f : Forest} {at parent : ℕ} → Laid d S n f at parent → 32 < at → (c : Child) → Memᴰ c (children_at f at)
      → ChildStands d (record { 0 = 32 }) (record { 0 = parent }) c
  unfolding children_at
  child-stands no_keys low c i = absurd (Memᴰ.not-nil i)
  child-stands (key {x = x} {vs = vs} {b = b} {at = at} {parent = parent} k u t) low c i =
      ⊎_elim
      (λ (e : c ≡ record { at = record { 0 = at }; hashed = true; hinted = false; beside = hash_of x }).
      subst (λ (y : Child). ChildStands d (record { 0 = 32 }) (record { 0 = parent }) y) (sym e)
      (record {
        parent = k.names_parent;
        other = λ q. omega arith;
        hash = λ q. ap hash_of (sym k.named);
        hint = λ (q : false ≡ true). absurd (let z : ◌≡◌ {A = ℕ} 0 1 = cc in omega arith);
      }))
      (λ j. child-stands t (omega arith) c j)
      (Memᴰ.cases_cons i)

  -- ---- the trees

  pub trees-stand : {S n : ℕ} {f : Forest} {at parent : ℕ} → Laid d S n f at parent → 32 ≤ at → (c : Child) → Memᴰ c (children_at f at)
      → TreeStands d built_as n c.at
  unfolding children_at
  trees-stand no_keys low c i = absurd (Memᴰ.not-nil i)
  trees-stand (key {n = n} {x = x} {vs = vs} {b = b} {at = at} k u t) low c i =
      ⊎_elim
      (λ (e : c ≡ record { at = record { 0 = at }; hashed = true; hinted = false; beside = hash_of x }).
      subst (λ (y : Child). TreeStands d built_as (suc n) y.at) (sym e) (here (λ y j. trees-stand u (omega (arith, below)) y (listed y j))))
      (λ j. trees-stand t (omega arith) c j)
      (Memᴰ.cases_cons i)
    where
      below : 32 < below_at x vs at
      below = let r = cell_room (76 + length (stored x)) in omega arith

      listed : (y : Child) → Memᴰ y (children d (record { 0 = at })) → Memᴰ y (children_at b (below_at x vs at))
      listed y j = subst (λ (l : List Child). Memᴰ y l) k.children-are j

      here : ((y : Child) → Memᴰ y (children d (record { 0 = at })) → TreeStands d built_as n y.at) → TreeStands d built_as (suc n) (record { 0 = at })
      here trees =
          stands (key-stands k) (subst (λ (l : List Child). Ascends d l) (sym k.children-are) (children-ascend u k.allowed.sorted))
          (λ y j. child-stands u below y (listed y j)) trees
