-- What the walk's definitions come to, a law for each way that the code takes.
use Rattle.std.proofs.Common.{◌≡◌, ℕ, zero, suc, ◌+◌, ◌-◌, ◌<◌, ◌≤◌, List, [], ◌∷◌, ◌++◌, length, get_or, drop, sym, refl, ap, ◌∙◌, subst, add-one, sub-one, arith, drop-cons}
use Rattle.fields.specs.declared.Offset.{Offset}
use Rattle.fields.specs.declared.Refusal.{Refusal}
use Rattle.fields.specs.Faults.{nowhere}
use Rattle.fields.specs.Charges.{Charge, Free, Of, ◌after◌}
use Rattle.fields.proofs.Charges.{both-free, after-assoc}
use Rattle.fields.proofs.Loops.{drop_all}
use Rattle.cells.specs.Rule.{Map}
use Rattle.cells.specs.Named.{data_at}
use Rattle.records.specs.declared.Child.{Child}
use Rattle.records.specs.declared.Key.{Key}
use Rattle.records.specs.Keys.{key_fault, key_of}
use Rattle.records.specs.Lists.{leaf_children, children_in, children_below, children}
use Rattle.records.specs.Listed.{joined, keys_in}
use Rattle.records.specs.Terms.{no_child}
use Rattle.records.proofs.Listed.{joined-append}
use Rattle.records.proofs.LawsKey.{key-room, name-room}
use Rattle.tree.specs.declared.Count.{Count}
use Rattle.tree.specs.declared.Hive.{Hive}
use Rattle.tree.specs.declared.Arrival.{Arrival}
use Rattle.tree.specs.declared.Arrival.TheVariants.{First, After}
use Rattle.tree.specs.Tree.{key_charge, list_charge, tree_charge, tally, tallied, walked, key_answer, list_answer}
use Rattle.tree.specs.Terms.{Fits, last_of}
use Rattle.tree.proofs.Charges.{key-parts, key-zero, key-free}
use Rattle.std.specs.Prelude.{Err, Ok, Result}

pub refused-of : (a : Charge) (t : Count) {f : Refusal} → walked a t ≡ Err f → a ≡ Of f
refused-of Free t e = absurd (let z : ◌≡◌ {A = ℕ} 0 1 = cc in omega arith)
refused-of (Of g) t e = cc

pub counted-free : (a : Charge) (t : Count) {u : Count} → walked a t ≡ Ok u → (a ≡ Free) × (t ≡ u)
counted-free Free t e = (refl, cc)
counted-free (Of f) t e = absurd (let z : ◌≡◌ {A = ℕ} 0 1 = cc in omega arith)

tallied-append : (d : List ℕ) (t : Count) (ks js : List Offset) → tallied d t (ks ++ js) ≡ tallied d (tallied d t ks) js
unfolding tallied
tallied-append d t [] js = refl
tallied-append d t (k ∷ ks) js = tallied-append d (tally t (key_of d k)) ks js

-- where the next key stands after some children
last_arrival : Offset → Arrival → List Child → Arrival
last_arrival key l [] = l
last_arrival key l (c ∷ cs) = last_arrival key (After key c.at) cs

pub last-at : (c e : Child) (cs : List Child) → get_or (c ∷ e ∷ cs) (length (c ∷ e ∷ cs) - 1) no_child ≡ get_or (e ∷ cs) (length (e ∷ cs) - 1) no_child
last-at c e cs =
    let p : length (c ∷ e ∷ cs) - 1 ≡ suc (length (e ∷ cs) - 1) = omega arith in
    ap (λ (i : ℕ). get_or (c ∷ e ∷ cs) i no_child) p

last-arrival : (key : Offset) (l : Arrival) (cs : List Child) → 0 < length cs → last_arrival key l cs ≡ After key (get_or cs (length cs - 1) no_child).at
unfolding last_arrival
last-arrival key l [] p = absurd (omega arith)
last-arrival key l (c ∷ []) p = refl
last-arrival key l (c ∷ e ∷ cs) p =
    last-arrival key (After key c.at) (e ∷ cs) (omega arith) ∙ ap (λ (x : Child). After key x.at) (sym (last-at c e cs))

charge-append : (each : Child → Arrival → Charge) (key : Offset) (l : Arrival) (cs es : List Child)
    → list_charge each key l (cs ++ es) ≡ list_charge each key l cs after list_charge each key (last_arrival key l cs) es
unfolding list_charge last_arrival ◌after◌
charge-append each key l [] es = refl
charge-append each key l (c ∷ cs) es =
    ap (λ (x : Charge). each c l after x) (charge-append each key (After key c.at) cs es)
    ∙ sym (after-assoc (each c l) (list_charge each key (After key c.at) cs) (list_charge each key (last_arrival key (After key c.at) cs) es))

module _ (d m : List ℕ) (hive : Hive) where
  -- ---- a key

  pub key-refused : (n : ℕ) (c : Child) (l : Arrival) (t : Count) {r : Refusal} → key_charge d m hive n c l ≡ Of r → key_answer d m hive n c l t ≡ Err r
  unfolding key_answer tree_charge ◌after◌
  key-refused zero c l t e = rw e
  key-refused (suc n) c l t e = rw e

  pub level-left : (n : ℕ) (c : Child) (l : Arrival) → key_charge d m hive n c l ≡ Free → 1 ≤ n
  level-left zero c l e = absurd (key-zero d m hive c l e)
  level-left (suc n) c l e = omega arith

  key-on-suc : (n : ℕ) (c : Child) (l : Arrival) (t : Count) → key_charge d m hive (suc n) c l ≡ Free
      → key_answer d m hive (suc n) c l t ≡ list_answer d m hive n c.at (First c.at) (children d c.at) (tally t (key_of d c.at))
  unfolding key_answer list_answer tree_charge keys_in tallied ◌after◌
  key-on-suc n c l t e = rw e

  pub key-on : (n : ℕ) (c : Child) (l : Arrival) (t u : Count) (k : Key) → k ≡ key_of d c.at → key_charge d m hive n c l ≡ Free → u ≡ tally t k
      → key_answer d m hive n c l t ≡ list_answer d m hive (n - 1) c.at (First c.at) (children_below d k) u
  key-on zero c l t u k i e q = absurd (key-zero d m hive c l e)
  key-on (suc n) c l t u k i e q = rw (sub-one (suc n), q, i) (key-on-suc n c l t e)

  -- ---- a list, key by key

  module _ (n : ℕ) (key : Offset) where
    stop-cons : (l : Arrival) (c : Child) (cs : List Child) (t : Count) {f : Refusal} → key_answer d m hive n c l t ≡ Err f
        → list_answer d m hive n key l (c ∷ cs) t ≡ Err f
    unfolding key_answer list_answer list_charge ◌after◌
    stop-cons l c cs t e = rw (refused-of (tree_charge d m hive n c l) _ e)

    on-cons : (l : Arrival) (c : Child) (cs : List Child) (t : Count) {u : Count} → key_answer d m hive n c l t ≡ Ok u
        → list_answer d m hive n key l (c ∷ cs) t ≡ list_answer d m hive n key (After key c.at) cs u
    unfolding key_answer list_answer list_charge joined ◌after◌
    on-cons l c cs t e =
        let x = counted-free (tree_charge d m hive n c l) _ e in
        rw (x.0, tallied-append d t (keys_in d n c.at) (joined (keys_in d n) cs), x.1)

    pub end-nil : (l : Arrival) (t : Count) → list_answer d m hive n key l [] t ≡ Ok t
    unfolding list_answer list_charge joined tallied
    end-nil l t = refl

    -- a list of one
    pub one_key : (l : Arrival) (c : Child) (t : Count) → list_answer d m hive n key l (c ∷ []) t ≡ key_answer d m hive n c l t
    one_key l c t = by (key_answer d m hive n c l t) refl
      where
        by : (w : Result Count Refusal) → key_answer d m hive n c l t ≡ w → list_answer d m hive n key l (c ∷ []) t ≡ w
        by (Ok u) e = on-cons l c [] t e ∙ end-nil (After key c.at) u
        by (Err f) e = stop-cons l c [] t e

    -- one list after another
    stop-append : (l : Arrival) (cs es : List Child) (t : Count) {f : Refusal} → list_answer d m hive n key l cs t ≡ Err f
        → list_answer d m hive n key l (cs ++ es) t ≡ Err f
    unfolding list_answer ◌after◌
    stop-append l cs es t e =
        rw (charge-append (tree_charge d m hive n) key l cs es, refused-of (list_charge (tree_charge d m hive n) key l cs) _ e)

    on-append : (l : Arrival) (cs es : List Child) (t : Count) {u : Count} → list_answer d m hive n key l cs t ≡ Ok u
        → list_answer d m hive n key l (cs ++ es) t ≡ list_answer d m hive n key (last_arrival key l cs) es u
    unfolding list_answer ◌after◌
    on-append l cs es t e =
        let x = counted-free (list_charge (tree_charge d m hive n) key l cs) _ e in
        rw (
          charge-append (tree_charge d m hive n) key l cs es,
          x.0,
          joined-append (keys_in d n) cs es,
          tallied-append d t (joined (keys_in d n) cs) (joined (keys_in d n) es),
          x.1,
        )

    -- the loop over a leaf: at index i, after l and with the count t
    module _ (l₀ : Arrival) (t₀ : Count) (cs : List Child) (i : ℕ) (l : Arrival) (t : Count)
        (inv : list_answer d m hive n key l₀ cs t₀ ≡ list_answer d m hive n key l (drop i cs) t) where
      pub leaf-stop : (c : Child) {f : Refusal} → i < length cs → c ≡ get_or cs i no_child → key_answer d m hive n c l t ≡ Err f
          → list_answer d m hive n key l₀ cs t₀ ≡ Err f
      leaf-stop c p q e = inv ∙ rw (drop-cons cs i no_child p, ← q) (stop-cons l c _ t e)

      pub leaf-on : (c : Child) {u : Count} → i < length cs → c ≡ get_or cs i no_child → key_answer d m hive n c l t ≡ Ok u
          → list_answer d m hive n key l₀ cs t₀ ≡ list_answer d m hive n key (After key c.at) (drop (i + 1) cs) u
      leaf-on c p q e = inv ∙ rw (drop-cons cs i no_child p, ← q, add-one i) (on-cons l c _ t e)

      pub leaf-end : length cs ≤ i → list_answer d m hive n key l₀ cs t₀ ≡ Ok t
      leaf-end p = inv ∙ rw (drop_all cs i p) (end-nil l t)

    -- the loop over the leaves
    leaves-cons : (os : List Offset) (j : ℕ) (o : Offset) → j < length os → o ≡ get_or os j nowhere
        → children_in d (drop j os) ≡ leaf_children (data_at d o) ++ children_in d (drop (j + 1) os)
    unfolding children_in
    leaves-cons os j o p q = rw (drop-cons os j nowhere p, ← q, add-one j)

    module _ (l₀ : Arrival) (t₀ : Count) (os : List Offset) (j : ℕ) (l : Arrival) (t : Count)
        (inv : list_answer d m hive n key l₀ (children_in d os) t₀ ≡ list_answer d m hive n key l (children_in d (drop j os)) t) where
      pub leaves-stop : (o : Offset) {f : Refusal} → j < length os → o ≡ get_or os j nowhere
          → list_answer d m hive n key l (leaf_children (data_at d o)) t ≡ Err f → list_answer d m hive n key l₀ (children_in d os) t₀ ≡ Err f
      leaves-stop o p q e = inv ∙ rw (leaves-cons os j o p q) (stop-append l (leaf_children (data_at d o)) (children_in d (drop (j + 1) os)) t e)

      pub leaves-on : (o : Offset) {u : Count} (k : Offset) → j < length os → o ≡ get_or os j nowhere → 0 < length (leaf_children (data_at d o)) → k ≡ last_of d o
          → list_answer d m hive n key l (leaf_children (data_at d o)) t ≡ Ok u
          → list_answer d m hive n key l₀ (children_in d os) t₀ ≡ list_answer d m hive n key (After key k) (children_in d (drop (j + 1) os)) u
      unfolding last_of
      leaves-on o k p q some last e =
          inv
          ∙ rw (leaves-cons os j o p q, last, ← last-arrival key l (leaf_children (data_at d o)) some)
          (on-append l (leaf_children (data_at d o)) (children_in d (drop (j + 1) os)) t e)

      pub leaves-end : length os ≤ j → list_answer d m hive n key l₀ (children_in d os) t₀ ≡ Ok t
      unfolding children_in
      leaves-end p = inv ∙ rw (drop_all os j p) (end-nil l t)

    -- ---- a key that was counted was tested

    fits : (o : Offset) → key_fault Map d m o ≡ Ok tt → Fits d o
    fits o e = record { room = key-room Map d m o e; name = name-room Map d m o e }

    free-fits : (c : Child) (l : Arrival) → tree_charge d m hive n c l ≡ Free → Fits d c.at
    free-fits c l e = fits c.at (key-parts d m hive n c l (key-free d m hive n c l e)).0

    pub key_fits : (c : Child) (l : Arrival) (t : Count) {u : Count} → key_answer d m hive n c l t ≡ Ok u → Fits d c.at
    unfolding key_answer
    key_fits c l t e = free-fits c l (counted-free (tree_charge d m hive n c l) _ e).0

    last_fits : (l : Arrival) (cs : List Child) → 0 < length cs → list_charge (tree_charge d m hive n) key l cs ≡ Free → Fits d (get_or cs (length cs - 1) no_child).at
    unfolding list_charge
    last_fits l [] p e = absurd (omega arith)
    last_fits l (c ∷ []) p e = free-fits c l (both-free _ _ e).0
    last_fits l (c ∷ f ∷ cs) p e =
        subst (λ (x : Child). Fits d x.at) (sym (last-at c f cs))
        (last_fits (After key c.at) (f ∷ cs) (omega arith) (both-free (tree_charge d m hive n c l) _ e).1)

    pub leaf-fits : (l : Arrival) (o : Offset) (t : Count) {u : Count} → 0 < length (leaf_children (data_at d o))
        → list_answer d m hive n key l (leaf_children (data_at d o)) t ≡ Ok u → Fits d (last_of d o)
    unfolding list_answer last_of
    leaf-fits l o t p e =
        last_fits l (leaf_children (data_at d o)) p (counted-free (list_charge (tree_charge d m hive n) key l (leaf_children (data_at d o))) _ e).0
