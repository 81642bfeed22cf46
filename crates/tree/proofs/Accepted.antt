-- A tree has no charge exactly when it stands.
use Rattle.std.proofs.Common.{◌≡◌, ℕ, zero, suc, Bool, true, false, not, ◌||◌, eqb, ◌⊎◌, List, [], ◌∷◌, length, sym, refl, ap, subst, inl, inr, ⊎_elim, arith, eq-eqb, ne_eqb, eqb-true}
use mathlib.Core.List.Memᴰ
use mathlib.Core.List.{Memᴰ}
use borrow.Author.Tests.{eqb-false, not-true}
use Rattle.fields.specs.declared.Offset.{Offset}
use Rattle.fields.specs.declared.Fault.TheVariants.{Order, Parent}
use Rattle.fields.specs.Faults.{flaw, unless}
use Rattle.fields.specs.Charges.{Free, charge_of}
use Rattle.fields.proofs.Charges.{both-free, free}
use Rattle.fields.proofs.Firsts.{both, sound, held, holds}
use Rattle.cells.specs.Rule.{Map}
use Rattle.cells.specs.Named.{data_at}
use Rattle.cells.specs.Tiled.{BinsTile, Mapped}
use Rattle.cells.proofs.Mapped.{in-use-sound}
use Rattle.names.specs.Comparison.{compare}
use Rattle.names.specs.Hashing.{hash_of}
use Rattle.names.specs.Hints.{fits_hint}
use Rattle.names.proofs.LawsOrder.{transitive}
use Rattle.records.specs.declared.Child.{Child}
use Rattle.records.specs.declared.Key.{Key}
use Rattle.records.specs.Keys.{key_of}
use Rattle.records.specs.Lists.{children_below, children}
use Rattle.namesakes.proofs.Laws.{distinct-exactly}
use Rattle.tree.specs.declared.Hive.{Hive}
use Rattle.tree.specs.declared.Arrival.{Arrival}
use Rattle.tree.specs.declared.Arrival.TheVariants.{Start, First, After}
use Rattle.tree.specs.Tree.{holder, name_at, parent_fault, is_before, order_fault, place_fault, hash_fault, hint_fault, beside_fault, level_fault, total_fault, rest_fault, own_fault, key_charge, list_charge, tree_charge, levels, root_child}
use Rattle.tree.specs.WellFormed.{KeyStands, ChildStands, Ascends, none, more, TreeStands, key}
use Rattle.records.proofs.Facts.{key-exactly}
use Rattle.tree.proofs.Stands.{values-of, of_values, lists_of, of-lists, key-of, of-key}
use Rattle.tree.proofs.Charges.{key-parts, key-zero, key-free, lists-free, tree_free}
use Rattle.std.specs.Prelude.{Ok}
use Rattle.std.specs.declared.cmp.Ordering.{Ordering}
use Rattle.std.specs.declared.cmp.Ordering.TheVariants.{Equal, Greater, Less}

pub before-is : (o : Ordering) → is_before o ≡ true → o ≡ Less
before-is Less e = refl
before-is Equal e = absurd (let z : ◌≡◌ {A = ℕ} 0 1 = cc in omega arith)
before-is Greater e = absurd (let z : ◌≡◌ {A = ℕ} 0 1 = cc in omega arith)

unless-set : (p q : Bool) → (not p || q) ≡ true → p ≡ true → q ≡ true
unless-set true q e f = e
unless-set false q e f = absurd (let z : ◌≡◌ {A = ℕ} 0 1 = cc in omega arith)

set-or : (p q : Bool) → (p ≡ true → q ≡ true) → (not p || q) ≡ true
set-or true q f = f refl
set-or false q f = refl

module _ (d m : List ℕ) (hive : Hive) (tiles : BinsTile d 0) (mapped : Mapped d m) where
  -- each leaf: sound exactly when what it tests holds
  parent_of : (k : Key) (at p : Offset) → parent_fault hive.root k at p ≡ Ok tt → (k.parent.0 ≡ p.0) × (at.0 ≡ hive.root.0 → ⊥)
  unfolding parent_fault
  parent_of k at p e =
      let x = both (unless (eqb k.parent.0 p.0) (flaw Parent at)) _ e in (
        eqb-true _ _ (held (eqb k.parent.0 p.0) (flaw Parent at) x.0),
        eqb-false _ _ (not-true _ (held (not (eqb at.0 hive.root.0)) (flaw Parent at) x.1)),
      )

  of-parent : (k : Key) (at p : Offset) → k.parent.0 ≡ p.0 → (at.0 ≡ hive.root.0 → ⊥) → parent_fault hive.root k at p ≡ Ok tt
  unfolding parent_fault
  of-parent k at p e ne =
      sound _ _ (holds {t = eqb k.parent.0 p.0} (flaw Parent at) (eq-eqb _ _ e))
      (holds {t = not (eqb at.0 hive.root.0)} (flaw Parent at) (ap not (ne_eqb _ _ ne)))

  order-of : (b at : Offset) → order_fault d b (key_of d at) at ≡ Ok tt → compare (name_at d b) (name_at d at) ≡ Less
  unfolding order_fault
  order-of b at e = before-is _ (held (is_before (compare (name_at d b) (name_at d at))) (flaw Order at) e)

  of-order : (b at : Offset) → compare (name_at d b) (name_at d at) ≡ Less → order_fault d b (key_of d at) at ≡ Ok tt
  unfolding order_fault
  of-order b at e = holds {t = is_before (compare (name_at d b) (name_at d at))} (flaw Order at) (ap is_before e)

  hash-of : (c : Child) → hash_fault d (key_of d c.at) c ≡ Ok tt → c.hashed ≡ true → c.beside ≡ hash_of (name_at d c.at)
  unfolding hash_fault
  hash-of c e f =
      let t = eqb c.beside (hash_of (name_at d c.at)) in
      eqb-true _ _ (unless-set c.hashed t (held (not c.hashed || t) (flaw Order c.at) e) f)

  of-hash : (c : Child) → (c.hashed ≡ true → c.beside ≡ hash_of (name_at d c.at)) → hash_fault d (key_of d c.at) c ≡ Ok tt
  unfolding hash_fault
  of-hash c f =
      let t = eqb c.beside (hash_of (name_at d c.at)) in
      holds {t = not c.hashed || t} (flaw Order c.at) (set-or c.hashed t (λ e. eq-eqb _ _ (f e)))

  hint-of : (c : Child) → hint_fault d (key_of d c.at) c ≡ Ok tt → c.hinted ≡ true → fits_hint c.beside (name_at d c.at) ≡ true
  unfolding hint_fault
  hint-of c e f =
      let t = fits_hint c.beside (name_at d c.at) in unless-set c.hinted t (held (not c.hinted || t) (flaw Order c.at) e) f

  of-hint : (c : Child) → (c.hinted ≡ true → fits_hint c.beside (name_at d c.at) ≡ true) → hint_fault d (key_of d c.at) c ≡ Ok tt
  unfolding hint_fault
  of-hint c f = let t = fits_hint c.beside (name_at d c.at) in holds {t = not c.hinted || t} (flaw Order c.at) (set-or c.hinted t f)

  of-beside : (c : Child) → (c.hashed ≡ true → c.beside ≡ hash_of (name_at d c.at))
      → (c.hinted ≡ true → fits_hint c.beside (name_at d c.at) ≡ true) → beside_fault d (key_of d c.at) c ≡ Ok tt
  unfolding beside_fault
  of-beside c f g = sound _ _ (of-hash c f) (of-hint c g)

  total_of : (k : Key) (at : Offset) → total_fault d k at ≡ Ok tt → length (children_below d k) ≡ k.subkeys
  unfolding total_fault
  total_of k at e = eqb-true _ _ (held (eqb (length (children_below d k)) k.subkeys) (flaw Parent at) e)

  of-total : (k : Key) (at : Offset) → length (children_below d k) ≡ k.subkeys → total_fault d k at ≡ Ok tt
  unfolding total_fault
  of-total k at e = holds {t = eqb (length (children_below d k)) k.subkeys} (flaw Parent at) (eq-eqb _ _ e)

  -- ---- no charge: it stands

  key-stands : (n : ℕ) (c : Child) (l : Arrival) → key_charge d m hive n c l ≡ Free → KeyStands d hive.minor c.at
  key-stands n c l e =
      let x = key-parts d m hive n c l e in
      let o = x.1 in
      let r = key-of d m tiles mapped c.at x.0 in
      record {
        in_use = r.0;
        record-good = (key-exactly (data_at d c.at)).0 r.1;
        values = values-of d m tiles mapped hive.minor (key_of d c.at) o.values o.names;
        lists = lists_of d m tiles mapped (key_of d c.at) o.lists;
        total = total_of (key_of d c.at) c.at o.total;
      }

  -- listed below a key
  abbrev pub Below : Offset → Arrival → Type 0
  Below p l = (l ≡ First p) ⊎ ((b : Offset) × (l ≡ After p b))

  parent-at : (p : Offset) (k : Key) (at : Offset) (l : Arrival) → Below p l → place_fault d hive.root k at l ≡ Ok tt → parent_fault hive.root k at p ≡ Ok tt
  unfolding place_fault
  parent-at p k at l (inl q) e = subst (λ (x : Arrival). place_fault d hive.root k at x ≡ Ok tt) q e
  parent-at p k at l (inr (b, q)) e = (both _ _ (subst (λ (x : Arrival). place_fault d hive.root k at x ≡ Ok tt) q e)).0

  order-at : (p b at : Offset) → place_fault d hive.root (key_of d at) at (After p b) ≡ Ok tt → compare (name_at d b) (name_at d at) ≡ Less
  unfolding place_fault
  order-at p b at e = order-of b at (both (parent_fault hive.root (key_of d at) at p) _ e).1

  child-stands : (n : ℕ) (p : Offset) (c : Child) (l : Arrival) → Below p l → key_charge d m hive n c l ≡ Free → ChildStands d hive.root p c
  child-stands n p c l b e =
      let o = (key-parts d m hive n c l e).1 in
      let q = parent_of (key_of d c.at) c.at p (parent-at p (key_of d c.at) c.at l b o.place) in
      record { parent = q.0; other = q.1; hash = hash-of c o.hash; hint = hint-of c o.hint }

  module _ (n : ℕ) (p : Offset) where
    -- each key of a list without charge has none, at some place in it
    pub each_free : (l : Arrival) (cs : List Child) → Below p l → list_charge (tree_charge d m hive n) p l cs ≡ Free → (c : Child) → Memᴰ c cs
        → (x : Arrival) × Below p x × (tree_charge d m hive n c x ≡ Free)
    unfolding list_charge
    each_free l [] q e c i = absurd (Memᴰ.not-nil i)
    each_free l (f ∷ cs) q e c i =
        ⊎_elim
        (λ s. (l, q, subst (λ (x : Child). tree_charge d m hive n x l ≡ Free) (sym s) (both-free _ _ e).0))
        (λ j. each_free (After p f.at) cs (inr (f.at, refl)) (both-free (tree_charge d m hive n f l) _ e).1 c j)
        (Memᴰ.cases_cons i)

    rise : (b : Child) (cs : List Child) → list_charge (tree_charge d m hive n) p (After p b.at) cs ≡ Free → Ascends d (b ∷ cs)
    unfolding list_charge
    rise b [] e = more (λ f i. absurd (Memᴰ.not-nil i)) none
    rise b (c ∷ cs) e =
        step (order-at p b.at c.at (key-parts d m hive n c (After p b.at) (key-free d m hive n c (After p b.at) (both-free _ _ e).0)).1.place)
        (rise c cs (both-free (tree_charge d m hive n c (After p b.at)) _ e).1)
      where
        above : compare (name_at d b.at) (name_at d c.at) ≡ Less → Ascends d (c ∷ cs) → (f : Child) → Memᴰ f (c ∷ cs)
            → compare (name_at d b.at) (name_at d f.at) ≡ Less
        above q (more g r) f i =
            ⊎_elim (λ s. subst (λ (x : Child). compare (name_at d b.at) (name_at d x.at) ≡ Less) (sym s) q)
            (λ j. transitive (name_at d b.at) (name_at d c.at) (name_at d f.at) q (g f j)) (Memᴰ.cases_cons i)

        step : compare (name_at d b.at) (name_at d c.at) ≡ Less → Ascends d (c ∷ cs) → Ascends d (b ∷ c ∷ cs)
        step q r = more (above q r) r

    rises : (cs : List Child) → list_charge (tree_charge d m hive n) p (First p) cs ≡ Free → Ascends d cs
    unfolding list_charge
    rises [] e = none
    rises (c ∷ cs) e = rise c cs (both-free (tree_charge d m hive n c (First p)) _ e).1

  pub stands : (n : ℕ) (c : Child) (l : Arrival) → tree_charge d m hive n c l ≡ Free → TreeStands d hive n c.at
  stands zero c l e = absurd (key-zero d m hive c l (key-free d m hive 0 c l e))
  stands (suc n) c l e =
      key (key-stands (suc n) c l (key-free d m hive (suc n) c l e)) (rises n c.at (children d c.at) below)
      (λ f i. let x = each_free n c.at (First c.at) (children d c.at) (inl refl) below f i in
      child-stands n c.at f x.0 x.1 (key-free d m hive n f x.0 x.2))
      (λ f i. let x = each_free n c.at (First c.at) (children d c.at) (inl refl) below f i in stands n f x.0 x.2)
    where
      below : list_charge (tree_charge d m hive n) c.at (First c.at) (children d c.at) ≡ Free
      below = lists-free d m hive n c l e

  -- ---- it stands: no charge

  of-stands : (n : ℕ) (c : Child) (l : Arrival) → KeyStands d hive.minor c.at → place_fault d hive.root (key_of d c.at) c.at l ≡ Ok tt
      → beside_fault d (key_of d c.at) c ≡ Ok tt → key_charge d m hive (suc n) c l ≡ Free
  unfolding key_charge own_fault rest_fault level_fault
  of-stands n c l s p h =
      free _ _ (ap (charge_of (holder l)) (of-key Map d m (in-use-sound d tiles m mapped) c.at s.in_use ((key-exactly (data_at d c.at)).1 s.record-good)))
      (ap (charge_of c.at)
      (sound _ _ p
      (sound _ _ h
      (sound (Ok tt) _ refl
      (sound _ _ (of_values Map d m (in-use-sound d tiles m mapped) hive.minor (key_of d c.at) s.values)
      (sound _ _ ((distinct-exactly d (key_of d c.at)).1 s.values.distinct)
      (sound _ _ (of-lists Map d m (in-use-sound d tiles m mapped) (key_of d c.at) s.lists) (of-total (key_of d c.at) c.at s.total))))))))

  first_of : (p : Offset) (c : Child) → ChildStands d hive.root p c → place_fault d hive.root (key_of d c.at) c.at (First p) ≡ Ok tt
  unfolding place_fault
  first_of p c s = of-parent (key_of d c.at) c.at p s.parent s.other

  after-of : (p : Offset) (b c : Child) → ChildStands d hive.root p c → compare (name_at d b.at) (name_at d c.at) ≡ Less
      → place_fault d hive.root (key_of d c.at) c.at (After p b.at) ≡ Ok tt
  unfolding place_fault
  after-of p b c s e = sound _ _ (of-parent (key_of d c.at) c.at p s.parent s.other) (of-order b.at c.at e)

  module _ (n : ℕ) (p : Offset) where
    abbrev Each : List Child → Type 0
    Each cs = (c : Child) → Memᴰ c cs → (l : Arrival) → place_fault d hive.root (key_of d c.at) c.at l ≡ Ok tt
        → beside_fault d (key_of d c.at) c ≡ Ok tt → tree_charge d m hive n c l ≡ Free

    lists-after : (b : Child) (cs : List Child) → Ascends d (b ∷ cs) → ((c : Child) → Memᴰ c cs → ChildStands d hive.root p c) → Each cs
        → list_charge (tree_charge d m hive n) p (After p b.at) cs ≡ Free
    unfolding list_charge
    lists-after b [] a ch each = refl
    lists-after b (c ∷ cs) (more f a) ch each =
        let s = ch c (Memᴰ.head refl) in
        free _ _ (each c (Memᴰ.head refl) (After p b.at) (after-of p b c s (f c (Memᴰ.head refl))) (of-beside c s.hash s.hint))
        (lists-after c cs a (λ e i. ch e (Memᴰ.tail i)) (λ e i. each e (Memᴰ.tail i)))

    lists-of-stands : (cs : List Child) → Ascends d cs → ((c : Child) → Memᴰ c cs → ChildStands d hive.root p c) → Each cs
        → list_charge (tree_charge d m hive n) p (First p) cs ≡ Free
    unfolding list_charge
    lists-of-stands [] a ch each = refl
    lists-of-stands (c ∷ cs) a ch each =
        let s = ch c (Memᴰ.head refl) in
        free _ _ (each c (Memᴰ.head refl) (First p) (first_of p c s) (of-beside c s.hash s.hint))
        (lists-after c cs a (λ e i. ch e (Memᴰ.tail i)) (λ e i. each e (Memᴰ.tail i)))

  stands-free : (n : ℕ) (c : Child) (l : Arrival) → place_fault d hive.root (key_of d c.at) c.at l ≡ Ok tt
      → beside_fault d (key_of d c.at) c ≡ Ok tt → TreeStands d hive n c.at → tree_charge d m hive n c l ≡ Free
  stands-free zero c l p h x3 = elim x3 [ ]
  stands-free (suc n) c l p h (key s a ch tree) =
      tree_free d m hive n c l (of-stands n c l s p h)
      (lists-of-stands n c.at (children d c.at) a ch (λ e i x q g. stands-free n e x q g (tree e i)))

  start-sound : (k : Key) (at : Offset) → place_fault d hive.root k at Start ≡ Ok tt
  unfolding place_fault
  start-sound k at = refl

  -- from the root: no charge exactly when the tree stands
  pub root_stands : tree_charge d m hive levels (root_child hive) Start ≡ Free → TreeStands d hive levels hive.root
  root_stands e = stands levels (root_child hive) Start e

  pub root-free : TreeStands d hive levels hive.root → tree_charge d m hive levels (root_child hive) Start ≡ Free
  root-free s =
      stands-free levels (root_child hive) Start (start-sound _ _)
      (of-beside (root_child hive) (λ e. absurd (let z : ◌≡◌ {A = ℕ} 0 1 = cc in omega arith)) (λ e. absurd (let z : ◌≡◌ {A = ℕ} 0 1 = cc in omega arith))) s
