-- The keys of a forest stand in the bins data d where the row of cells, cs, has them, and are read there as they were.
use Prim.Native.Nat.{ℕ, zero, suc, ◌+◌, ◌*◌, ◌<◌, ◌≤◌}
use native.Mathlib.Omega.{arith}
use mathlib.Core.Path.{◌≡◌, refl, sym, ap, ◌∙◌, subst}
use mathlib.Core.List.{List, [], ◌∷◌}
use lib.ListN.{length}
use Rattle.fields.specs.declared.Offset.{Offset}
use Rattle.cells.specs.Named.{data_at}
use Rattle.records.specs.declared.Key.{Key}
use Rattle.records.specs.Facts.{Signed}
use Rattle.records.specs.Keys.{key_of}
use Rattle.records.specs.Lists.{children_below}
use Rattle.values.specs.Lists.{values_of}
use Rattle.tree.specs.Facts.{leaf}
use Rattle.tree.specs.WellFormed.{Room, ListStands}
use Rattle.forest.specs.Forest.{Item, Forest, none, more, count_of}
use Rattle.forest.specs.Allowed.{KeyAllowed, Allowed, allowed-none, allowed-more}
use Rattle.layout.specs.Layout.{row_size, values_at, list_at, below_at, leaf_at, beside_at, value_offsets, list_cells, leaf_cells, if_any, key_record, cells_of}
use Rattle.layout.proofs.Sizes.{value-offsets-length}
use Rattle.layout.proofs.Splits.{Split, Part, part-ends}
use Rattle.layout.proofs.Places.{key-at, values-part, list-part, below-part, leaf-part, beside-part, list_at_lem, leaf-at}
use Rattle.layout.proofs.Built.{Placed, placed-room}
use Rattle.build_laws.specs.Written.{leaf_record}
use Rattle.build_laws.proofs.Keys.{key_at}
use Rattle.build_laws.proofs.Leaves.{leaf-signed, leaf-record}
use Rattle.build_laws.proofs.Held.{security-in, key-record-in, key-name-in, key_in_lem, open-frame-in}
use Rattle.build_laws.proofs.Held_lists.{values-in, children-in}
use Rattle.build_laws.proofs.Placed.{placed-holds}
use Rattle.build_laws.specs.Laid.{KeyLaid, Laid, no_keys, key}
use Rattle.build_laws.proofs.Forest_values.{values-laid}

-- where there is any, the place is named
any-there : (n at : ℕ) → 0 < n → if_any n at ≡ at
unfolding if_any
any-there zero at h = absurd (omega arith)
any-there (suc n) at h = refl

-- a leaf is no `ri`
leaf-stands : {d : List ℕ} {o : ℕ} (b : Forest) (at : ℕ) → count_of b ≤ 65535 → 0 < count_of b → Placed d o (leaf_record b at) → ListStands d (record { 0 = o })
leaf-stands {d} {o} b at few some p =
    let h = placed-holds p in
    let good = leaf-record b at h.0 few some in
    let is : Signed (data_at d (record { 0 = o })) 108 104 = rw h.1 (leaf-signed b at h.0) in
    record {
      in_use = p.used;
      record-good = leaf (rw h.1 good);
      leaves = λ (ri : Signed (data_at d (record { 0 = o })) 114 105) l i. absurd (let z : ◌≡◌ {A = ℕ} 108 114 = cc in omega arith);
    }

module _ {d : List ℕ} {cs : List (List ℕ)} {from : ℕ} (there : (o : ℕ) (x : List ℕ) → Split cs from o x → Placed d o x)
    (small : from + row_size cs < 4294967296) where
  list-there : (vs : List Item) (at : ℕ) {o : ℕ} → Part cs from (list_cells vs at) o → 0 < length vs → Placed d o (value_offsets vs at)
  list-there [] at c h = absurd (omega arith)
  list-there (v ∷ vs) at {o} c h = there o (value_offsets (v ∷ vs) at) (list_at_lem v vs at c)

  leaf-there : (b : Forest) (at : ℕ) {o : ℕ} → Part cs from (leaf_cells b at) o → 0 < count_of b → Placed d o (leaf_record b at)
  unfolding count_of
  leaf-there none at c h = absurd (omega arith)
  leaf-there (more s x vs b r) at {o} c h = there o (leaf_record (more s x vs b r) at) (leaf-at s x vs b r at c)

  module _ (S : ℕ) (item : S < 4294967296) where
    module _ (s : ℕ) (x : List ℕ) (vs : List Item) (b r : Forest) (at parent : ℕ) (p : parent < 4294967296)
        (c : Part cs from (cells_of (more s x vs b r) at parent S) at) where
      here : Placed d at (key_record s x vs b at parent S)
      here = there at (key_record s x vs b at parent S) (key-at s x vs b r at parent S c)

      leaf-fits : leaf_at x vs b at < 4294967296
      leaf-fits = let e = part-ends (leaf_cells b (below_at x vs at)) (leaf-part s x vs b r at parent S c) in omega arith

      at-fits : at < 4294967296
      at-fits = let e = leaf-fits in omega arith

      value-list : 0 < length vs → Placed d (list_at x vs at) (value_offsets vs (values_at x at))
      value-list = list-there vs (values_at x at) (list-part s x vs b r at parent S c)

      the-leaf : 0 < count_of b → Placed d (leaf_at x vs b at) (leaf_record b (below_at x vs at))
      the-leaf = leaf-there b (below_at x vs at) (leaf-part s x vs b r at parent S c)

      module _ (a : KeyAllowed s x vs b) where
        is-key : key_of d (record { 0 = at }) ≡ key_at x vs b at parent (record { 0 = at })
        is-key = key_in_lem d s x vs b at parent S (placed-holds here) a.name p leaf-fits

        list-is : 0 < length vs → (key_of d (record { 0 = at })).value_list ≡ record { 0 = list_at x vs at }
        list-is h =
            ap (λ (k : Key). k.value_list) is-key
            ∙ ap (λ (n : ℕ). let o : Offset = record { 0 = n } in o) (any-there (length vs) (list_at x vs at) h)

        leaf-is : 0 < count_of b → (key_of d (record { 0 = at })).list ≡ record { 0 = leaf_at x vs b at }
        leaf-is h =
            ap (λ (k : Key). k.list) is-key ∙ ap (λ (n : ℕ). let o : Offset = record { 0 = n } in o) (any-there (count_of b) (leaf_at x vs b at) h)

        list-stands : 0 < length vs → Room d (record { 0 = list_at x vs at }) (4 * length vs)
        list-stands h =
            let l = value-list h in
            let r = placed-room l in
            let e = value-offsets-length vs (values_at x at) in
            record { in_use = l.used; room = omega arith }

        pub key-laid : KeyLaid d S s x vs b at parent
        key-laid =
            let h = placed-holds here in
            let e = leaf-fits in
            record {
              allowed = a;
              in_use = here.used;
              record-good = key-record-in d s x vs b at parent S h a.name;
              names_parent = ap (λ (k : Key). k.parent.0) is-key;
              values-many = ap (λ (k : Key). k.values) is-key;
              subkeys-many = ap (λ (k : Key). k.subkeys) is-key;
              named = key-name-in d s x vs b at parent S h a.name;
              secured = security-in d s x vs b at parent S h item;
              opens = open-frame-in d s x vs b at parent S h a.name;
              values-are =
                  ap (values_of d) is-key ∙ values-in d x at parent (record { 0 = at }) vs b (λ l. placed-holds (value-list l)) (omega arith);
              list = λ l. subst (λ (o : Offset). Room d o (4 * length vs)) (sym (list-is l)) (list-stands l);
              each = values-laid there small vs a.each (values-part s x vs b r at parent S c);
              children-are =
                  ap (children_below d) is-key
                  ∙ children-in d x at parent (record { 0 = at }) vs b (λ l. placed-holds (the-leaf l)) a.few (omega arith);
              leaf = λ l. subst (λ (o : Offset). ListStands d o) (sym (leaf-is l)) (leaf-stands b (below_at x vs at) a.few l (the-leaf l));
            }

    -- all keys of a forest
    pub forest-laid : {n : ℕ} {g : Forest} → Allowed n g → (at parent : ℕ) → parent < 4294967296 → Part cs from (cells_of g at parent S) at
        → Laid d S n g at parent
    forest-laid allowed-none at parent p c = no_keys
    forest-laid (allowed-more {s = s} {x = x} {vs = vs} {b = b} {r = r} a u t) at parent p c =
        key (key-laid s x vs b r at parent p c a)
        (forest-laid u (below_at x vs at) at (at-fits s x vs b r at parent p c) (below-part s x vs b r at parent S c))
        (forest-laid t (beside_at x vs b at) parent p (beside-part s x vs b r at parent S c))
