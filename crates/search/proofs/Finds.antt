-- In a tree that stands, a search below a key finds the child of that name, and meets no fault.
use Prim.Native.Nat.{ℕ, suc}
use native.Mathlib.Omega.{arith}
use mathlib.Core.Path.{◌≡◌, refl, sym, ap, ◌∙◌, subst}
use mathlib.Core.Bool.{Bool, true, false, cond}
use mathlib.Core.Logic.{⊎_elim}
use mathlib.Core.List.{List, [], ◌∷◌, ◌++◌, Memᴰ}
use lib.Dec.{eqb}
use borrow.Author.Tests.{eqb-false}
use Rattle.fields.specs.declared.Offset.{Offset}
use Rattle.fields.specs.declared.Flaw.{Flaw}
use Rattle.cells.specs.Rule.{Header}
use Rattle.cells.specs.Named.{data_at}
use Rattle.cells.specs.Tiled.{BinsTile}
use Rattle.cells.proofs.Mapped.{header-sound}
use Rattle.names.specs.Comparison.{compare, same_name}
use Rattle.names.proofs.LawsOrder.{name-same, same-name, same-right, same-symmetric}
use Rattle.records.specs.declared.Child.{Child}
use Rattle.records.specs.Keys.{key_fault, key_of}
use Rattle.records.specs.Lists.{is_ri, is_leaf, is_list, leaf_children, leaves_of, children_in, leaves_below, children_below, children, leaf_fault, head_fault}
use Rattle.tree.specs.declared.Hive.{Hive}
use Rattle.tree.specs.Tree.{name_at}
use Rattle.tree.specs.WellFormed.{ListStands, KeyStands, Ascends, more, TreeStands, key}
use Rattle.records.proofs.Facts.{signed-exactly, key-exactly}
use Rattle.tree.proofs.Facts.{leaf-exactly, list-exactly}
use Rattle.tree.proofs.Stands.{of-cell, of-leaf, of-key}
use Rattle.search.specs.Search.{on_sound, or_else, first_of, key_named, search_keys, search_leaf, search_leaves, search_below}
use Rattle.fields.specs.Faults.{Verdict}
use Rattle.std.specs.Prelude.{Err, None, Ok, Option, Result, Some}
use Rattle.std.specs.declared.cmp.Ordering.TheVariants.{Equal, Less}

-- the ways of a search
module _ (d x : List ℕ) where
  pub named-bad : (c : Child) {f : Flaw} → key_fault Header d [] c.at ≡ Err f → key_named d x c ≡ Err f
  unfolding key_named
  named-bad c e = rw e

  named-yes : (c : Child) → key_fault Header d [] c.at ≡ Ok tt → same_name (name_at d c.at) x ≡ true → key_named d x c ≡ Ok (Some c.at)
  unfolding key_named
  named-yes c e p = rw (e, p)

  named-no : (c : Child) → key_fault Header d [] c.at ≡ Ok tt → same_name (name_at d c.at) x ≡ false → key_named d x c ≡ Ok None
  unfolding key_named
  named-no c e p = rw (e, p)

  or-missing : (a b : Result (Option Offset) Flaw) → a ≡ Ok None → or_else a b ≡ b
  unfolding or_else
  or-missing a b e = rw e

  or-found : (a b : Result (Option Offset) Flaw) {o : Offset} → a ≡ Ok (Some o) → or_else a b ≡ Ok (Some o)
  unfolding or_else
  or-found a b e = rw e

  or_assoc : (a b c : Result (Option Offset) Flaw) → or_else (or_else a b) c ≡ or_else a (or_else b c)
  unfolding or_else
  or_assoc (Ok None) b c = refl
  or_assoc (Ok (Some o)) b c = refl
  or_assoc (Err f) b c = refl

  -- the search of two lists, one after the other
  search-append : (cs es : List Child) → or_else (search_keys d x cs) (search_keys d x es) ≡ search_keys d x (cs ++ es)
  unfolding first_of or_else
  search-append [] es = refl
  search-append (c ∷ cs) es = or_assoc (key_named d x c) (search_keys d x cs) (search_keys d x es) ∙ ap (or_else (key_named d x c)) (search-append cs es)

  -- leaves without fault are searched as one list
  search-leaves : (ls : List Offset) → ((l : Offset) → Memᴰ l ls → leaf_fault Header d [] l ≡ Ok tt) → search_leaves d x ls ≡ search_keys d x (children_in d ls)
  unfolding first_of search_leaf children_in
  search-leaves [] f = refl
  search-leaves (l ∷ ls) f =
      rw (f l (mathlib.Core.List.Memᴰ.head refl), search-leaves ls (λ e i. f e (mathlib.Core.List.Memᴰ.tail i)))
      (search-append (leaf_children (data_at d l)) (children_in d ls))

  -- what is found is a key of the list, of that name
  pub named_in : (c : Child) {o : Offset} → key_named d x c ≡ Ok (Some o) → (o ≡ c.at) × (compare (name_at d c.at) x ≡ Equal)
  unfolding key_named
  named_in c {o} e = by (key_fault Header d [] c.at) (same_name (name_at d c.at) x) refl e
    where
      by : (v : Verdict) (t : Bool) → same_name (name_at d c.at) x ≡ t → on_sound v (cond t (Ok (Some c.at)) (Ok None)) ≡ Ok (Some o)
          → (o ≡ c.at) × (compare (name_at d c.at) x ≡ Equal)
      by (Ok tt) true p q = (let z : c.at ≡ o = cc in sym z, same-name _ _ p)
      by (Ok tt) false p q = absurd (let z : ◌≡◌ {A = ℕ} 0 1 = cc in omega arith)
      by (Err f) t p q = absurd (let z : ◌≡◌ {A = ℕ} 0 1 = cc in omega arith)

  pub found_in : (cs : List Child) {o : Offset} → search_keys d x cs ≡ Ok (Some o) → (c : Child) × Memᴰ c cs × (o ≡ c.at) × (compare (name_at d c.at) x ≡ Equal)
  unfolding first_of or_else
  found_in [] e = absurd (let z : ◌≡◌ {A = ℕ} 0 1 = cc in omega arith)
  found_in (c ∷ cs) {o} e = by (found_in cs) (key_named d x c) refl e
    where
      by : (search_keys d x cs ≡ Ok (Some o) → (b : Child) × Memᴰ b cs × (o ≡ b.at) × (compare (name_at d b.at) x ≡ Equal))
          → (w : Result (Option Offset) Flaw) → key_named d x c ≡ w → or_else w (search_keys d x cs) ≡ Ok (Some o)
          → (b : Child) × Memᴰ b (c ∷ cs) × (o ≡ b.at) × (compare (name_at d b.at) x ≡ Equal)
      by rest (Ok (Some p)) q e =
          let s : p ≡ o = cc in
          let t = named_in c (q ∙ ap (λ (x : Offset). Ok (Some x)) s) in
          (c, mathlib.Core.List.Memᴰ.head refl, t.0, t.1)
      by rest (Ok None) q e = let t = rest e in (t.0, mathlib.Core.List.Memᴰ.tail t.1, t.2, t.3)
      by rest (Err f) q e = absurd (let z : ◌≡◌ {A = ℕ} 0 1 = cc in omega arith)

  -- where all records are good: no fault, and the key of the name is found
  pub no-fault : (cs : List Child) → ((c : Child) → Memᴰ c cs → key_fault Header d [] c.at ≡ Ok tt) → {f : Flaw} → search_keys d x cs ≡ Err f → ⊥
  unfolding first_of or_else key_named
  no-fault [] ok e = let z : ◌≡◌ {A = ℕ} 0 1 = cc in omega arith
  no-fault (c ∷ cs) ok {f} e =
      by (no-fault cs (λ b i. ok b (mathlib.Core.List.Memᴰ.tail i))) (same_name (name_at d c.at) x) (rw (ok c (mathlib.Core.List.Memᴰ.head refl)) at e)
    where
      by : (search_keys d x cs ≡ Err f → ⊥) → (t : Bool) → or_else (cond t (Ok (Some c.at)) (Ok None)) (search_keys d x cs) ≡ Err f → ⊥
      by rest true e = let z : ◌≡◌ {A = ℕ} 0 1 = cc in omega arith
      by rest false e = rest e

  pub find-there : (cs : List Child) → Ascends d cs → ((c : Child) → Memᴰ c cs → key_fault Header d [] c.at ≡ Ok tt)
      → (c : Child) → Memᴰ c cs → compare (name_at d c.at) x ≡ Equal → search_keys d x cs ≡ Ok (Some c.at)
  unfolding first_of
  find-there [] a ok c i e = absurd (mathlib.Core.List.Memᴰ.not-nil i)
  find-there (b ∷ cs) (more f a) ok c i e =
      ⊎_elim
      (λ (s : c ≡ b). or-found _ _ (named-yes b (ok b (mathlib.Core.List.Memᴰ.head refl)) (name-same _ _ (subst (λ (o : Child). compare (name_at d o.at) x ≡ Equal) s e)))
      ∙ ap (λ (o : Child). Ok (Some o.at)) (sym s))
      (λ j. or-missing _ _ (named-no b (ok b (mathlib.Core.List.Memᴰ.head refl)) (other j)) ∙ find-there cs a (λ p m. ok p (mathlib.Core.List.Memᴰ.tail m)) c j e)
      (mathlib.Core.List.Memᴰ.cases_cons i)
    where
      other : Memᴰ c cs → same_name (name_at d b.at) x ≡ false
      other j = by (same_name (name_at d b.at) x) refl
        where
          by : (t : Bool) → same_name (name_at d b.at) x ≡ t → same_name (name_at d b.at) x ≡ false
          by false p = p
          by true p =
              let q = same-right x (name_at d c.at) (name_at d b.at) (same-symmetric (name_at d c.at) x e) in
              let r : Less ≡ Equal = sym (f c j) ∙ sym q ∙ same-name (name_at d b.at) x p in
              absurd (let z : ◌≡◌ {A = ℕ} 0 1 = cc in omega arith)

module _ (d : List ℕ) (hive : Hive) (tiles : BinsTile d 0) where
  pub key-good : (n : ℕ) (o : Offset) → TreeStands d hive n o → key_fault Header d [] o ≡ Ok tt
  key-good Prim.Native.Nat.zero o x' = elim x' [ ]
  key-good (suc n) o (key s a ch tree) = of-key Header d [] (header-sound d tiles []) o s.in_use ((key-exactly (data_at d o)).1 s.record-good)

  -- a list that stands, leaf by leaf
  pub list-head : (o : Offset) → ListStands d o → head_fault Header d [] o ≡ Ok tt
  unfolding head_fault
  list-head o s = of-cell Header d [] (header-sound d tiles []) o (is_list (data_at d o)) _ s.in_use ((list-exactly (data_at d o)).1 s.record-good)

  pub leaves-good : (o : Offset) → ListStands d o → (l : Offset) → Memᴰ l (leaves_of d o) → leaf_fault Header d [] l ≡ Ok tt
  unfolding leaves_of is_list
  leaves-good o s l i = by (is_ri (data_at d o)) refl
    where
      by : (t : Bool) → is_ri (data_at d o) ≡ t → leaf_fault Header d [] l ≡ Ok tt
      by true e = of-leaf Header d [] (header-sound d tiles []) l (s.leaves ((signed-exactly (data_at d o) 114 105).0 e) l i)
      by false e =
          let good : is_leaf (data_at d o) ≡ true = rw e at ((list-exactly (data_at d o)).1 s.record-good) in
          let j : Memᴰ l (o ∷ []) = rw e at i in
          ⊎_elim (λ q. subst (λ (y : Offset). leaf_fault Header d [] y ≡ Ok tt) (sym q) (of-leaf Header d [] (header-sound d tiles []) o (record { in_use = s.in_use; record-good = (leaf-exactly (data_at d o)).0 good })))
          (λ k. absurd (mathlib.Core.List.Memᴰ.not-nil k)) (mathlib.Core.List.Memᴰ.cases_cons j)

  -- below a key that stands, its children are searched as one list
  pub search-below : (minor : ℕ) (o : Offset) → KeyStands d minor o → (x : List ℕ) → search_below d x (key_of d o) ≡ search_keys d x (children d o)
  unfolding search_below children_below leaves_below children_in first_of
  search-below minor o s x = by (eqb (key_of d o).subkeys 0) refl
    where
      by : (t : Bool) → eqb (key_of d o).subkeys 0 ≡ t → search_below d x (key_of d o) ≡ search_keys d x (children d o)
      by true e = rw e
      by false e =
          let l = s.lists (eqb-false _ _ e) in
          rw (e, list-head (key_of d o).list l) (search-leaves d x (leaves_of d (key_of d o).list) (leaves-good (key_of d o).list l))
