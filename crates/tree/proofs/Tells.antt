-- Every refusal of the check says why: its number, its place, and the fact that fails there.
use Rattle.std.proofs.Common.{◌≡◌, ℕ, zero, suc, ◌+◌, ◌≤◌, Bool, true, false, not, ◌||◌, eqb, List, [], ◌∷◌, length, sym, refl, subst, arith, eqb-true}
use mathlib.Core.List.{Memᴰ}
use borrow.Author.Tests.{eqb-false}
use Rattle.fields.specs.declared.Fault.TheVariants as named
use Rattle.fields.specs.declared.Offset.{Offset}
use Rattle.fields.specs.declared.Flaw.{Flaw}
use Rattle.fields.specs.declared.Refusal.{Refusal}
use Rattle.fields.specs.Faults.{number_of, flaw, unless, ◌next◌, no_key, refusal_of, Because}
use Rattle.fields.specs.Charges.{Charge, charge_of, ◌after◌}
use Rattle.fields.proofs.Charges.{clear_of, because, Charges, after-charges, flaw-charges}
use Rattle.fields.proofs.Every.{Every, every-sound, every-flaw, every-unless, every-next, every-over}
use Rattle.base.specs.Block.{bins_data}
use Rattle.cells.specs.Rule.{Map}
use Rattle.cells.specs.declared.Tally.{Tally}
use Rattle.cells.specs.Survey.{survey_answer, map_left}
use Rattle.cells.specs.Tiled.{BinsTile, Mapped}
use Rattle.cells.proofs.Refusals.{Ruled, by_map, survey-refuses}
use Rattle.cells.proofs.Mapped.{surveyed}
use Rattle.names.specs.Comparison.{compare}
use Rattle.names.specs.Hashing.{hash_of}
use Rattle.names.specs.Hints.{fits_hint}
use Rattle.records.specs.declared.Child.{Child}
use Rattle.records.specs.Keys.{key_fault, key_of}
use Rattle.records.specs.Lists.{children, lists_fault}
use Rattle.values.specs.Records.{value_fault, data_in}
use Rattle.values.specs.Segments.{data_fault}
use Rattle.values.specs.Lists.{values_of, value_list_fault, whole_value_fault, values_fault}
use Rattle.values.specs.Refused.{Role, a_key, Fit, Unfit, no_cell, no_record, Among, one_of, its-child}
use Rattle.values.proofs.Refusals.{key-fit, key-unfit, value-fit, value-unfit, lists-unfit, value-list-unfit, value-named, data-unfit}
use Rattle.namesakes.specs.Namesakes.{namesake_fault}
use Rattle.namesakes.proofs.Laws.{namesake-told}
use Rattle.security.specs.Refused.{OfSecurity, no_item, no_room, no-link, other-count, off-ring}
use Rattle.security.proofs.Tells.{security-tells}
use Rattle.tree.specs.declared.Hive.{Hive}
use Rattle.tree.specs.declared.Arrival.{Arrival}
use Rattle.tree.specs.declared.Arrival.TheVariants.{Start, First, After}
use Rattle.tree.specs.Tree.{holder, name_at, is_before, parent_fault, order_fault, place_fault, hash_fault, hint_fault, beside_fault, level_fault, total_fault, rest_fault, own_fault, key_charge, list_charge, tree_charge, levels, hive_of, root_child, keys_of, keys_charge, ring_charge, on_tiled, check_answer}
use Rattle.tree.specs.Told.{Reached, the-root, a-child, Follows, at_once, later, OfTree, of-root, of-lists, of_values, of-data, of-namesake, no-order, other-hash, other-hint, other-parent, root-listed, other-total, too-deep, Told, of-survey, of_tree, of-security}
use Rattle.tree.specs.WellFormed.{TreeStands}
use Rattle.tree.proofs.Accepted.{root_stands}
use Rattle.tree.proofs.Charges.{refused-charge, level-zero, key-parts}
use Rattle.std.specs.Prelude.{Err, Ok, Result}
use Rattle.std.specs.declared.cmp.Ordering.{Ordering}
use Rattle.std.specs.declared.cmp.Ordering.TheVariants.{Equal, Greater, Less}

follows-in : {b c : Child} {cs : List Child} → Follows b c cs → Memᴰ c cs
follows-in at_once = Memᴰ.tail (Memᴰ.head refl)
follows-in (later f) = Memᴰ.tail (follows-in f)

-- an `lh` element whose hash is another, or an `lf` element whose hint does not fit
besides : (set same : Bool) → not set || same ≡ false → (set ≡ true) × (same ≡ false)
besides true same e = (refl, e)
besides false same e = absurd (let z : ◌≡◌ {A = ℕ} 0 1 = cc in omega arith)

not-before : (o : Ordering) → is_before o ≡ false → o ≡ Less → ⊥
not-before Less e p = let z : ◌≡◌ {A = ℕ} 0 1 = cc in omega arith
not-before Equal e p = let z : ◌≡◌ {A = ℕ} 0 1 = cc in omega arith
not-before Greater e p = let z : ◌≡◌ {A = ℕ} 0 1 = cc in omega arith

module _ (d m : List ℕ) (tiles : BinsTile d 0) (mapped : Mapped d m) (hive : Hive) where
  ruled : Ruled Map d m
  ruled = by_map d m tiles mapped

  -- where a key is listed, and its level
  data Place : ℕ → Child → Arrival → Type 0 where
    at-start : Place 0 (root_child hive) Start
    at_first : {n : ℕ} {k : Offset} {c : Child} → Reached d hive.root n k → Memᴰ c (children d k) → Place (suc n) c (First k)
    at_after : {n : ℕ} {k : Offset} {b c : Child} → Reached d hive.root n k → Follows b c (children d k) → Place (suc n) c (After k b.at)

  reached : {n : ℕ} {c : Child} {l : Arrival} → Place n c l → Fit Map d a_key c.at → Reached d hive.root n c.at
  reached at-start f = the-root f
  reached (at_first k i) f = a-child k i f
  reached (at_after k i) f = a-child k (follows-in i) f

  -- the key's cell and record
  record-tells : {lv : ℕ} {c : Child} {l : Arrival} → Place lv c l → (n : ℕ) → lv + n ≡ 513 → Every (OfTree d hive (holder l)) (key_fault Map d m c.at)
  record-tells at-start n p f e = of-root (key-unfit Map d m ruled hive.root f e)
  record-tells {c = c} (at_first k i) n p f e = of-lists k (omega arith) (one_of (its-child i) (key-unfit Map d m ruled c.at f e))
  record-tells {c = c} (at_after k i) n p f e = of-lists k (omega arith) (one_of (its-child (follows-in i)) (key-unfit Map d m ruled c.at f e))

  -- parent or root listed, order, hash
  parent-tells : {n : ℕ} {k : Offset} (c : Child) → Reached d hive.root n k → Memᴰ c (children d k) → Fit Map d a_key c.at
      → Every (OfTree d hive c.at) (parent_fault hive.root (key_of d c.at) c.at k)
  unfolding parent_fault
  parent-tells {k = k} c r i g =
      every-next (OfTree d hive c.at) (unless (eqb (key_of d c.at).parent.0 k.0) (flaw named.Parent c.at)) _
      (every-unless (OfTree d hive c.at) (eqb (key_of d c.at).parent.0 k.0) _ (λ e. other-parent r i g (eqb-false _ _ e)))
      (λ s. every-unless (OfTree d hive c.at) (not (eqb c.at.0 hive.root.0)) _ (λ e. root-listed r i g (same (eqb c.at.0 hive.root.0) refl e)))
    where
      same : (t : Bool) → eqb c.at.0 hive.root.0 ≡ t → not t ≡ false → c.at.0 ≡ hive.root.0
      same true p q = eqb-true _ _ p
      same false p q = absurd (let z : ◌≡◌ {A = ℕ} 0 1 = cc in omega arith)

  place-tells : {n : ℕ} {c : Child} {l : Arrival} → Place n c l → Fit Map d a_key c.at
      → Every (OfTree d hive c.at) (place_fault d hive.root (key_of d c.at) c.at l)
  unfolding place_fault order_fault
  place-tells at-start g = every-sound (OfTree d hive hive.root)
  place-tells {c = c} (at_first r i) g = parent-tells c r i g
  place-tells {c = c} (at_after {k = k} {b = b} r i) g =
      every-next (OfTree d hive c.at) (parent_fault hive.root (key_of d c.at) c.at k) _ (parent-tells c r (follows-in i) g)
      (λ s. every-unless (OfTree d hive c.at) (is_before (compare (name_at d b.at) (name_at d c.at))) _ (λ e. no-order r i g (not-before _ e)))

  hash-tells : {n : ℕ} {k : Offset} (c : Child) → Reached d hive.root n k → Memᴰ c (children d k) → Fit Map d a_key c.at
      → Every (OfTree d hive c.at) (beside_fault d (key_of d c.at) c)
  unfolding beside_fault hash_fault hint_fault
  hash-tells c r i g =
      every-next (OfTree d hive c.at) (unless (not c.hashed || eqb c.beside (hash_of (name_at d c.at))) (flaw named.Order c.at)) _
      (every-unless (OfTree d hive c.at) (not c.hashed || eqb c.beside (hash_of (name_at d c.at))) _
      (λ e. let h = besides c.hashed (eqb c.beside (hash_of (name_at d c.at))) e in other-hash r i g h.0 (eqb-false _ _ h.1)))
      (λ s. every-unless (OfTree d hive c.at) (not c.hinted || fits_hint c.beside (name_at d c.at)) _
      (λ e. let h = besides c.hinted (fits_hint c.beside (name_at d c.at)) e in other-hint r i g h.0 h.1))

  beside-tells : {n : ℕ} {c : Child} {l : Arrival} → Place n c l → Fit Map d a_key c.at → Every (OfTree d hive c.at) (beside_fault d (key_of d c.at) c)
  unfolding beside_fault hash_fault hint_fault ◌next◌
  beside-tells at-start g = every-sound (OfTree d hive hive.root)
  beside-tells {c = c} (at_first r i) g = hash-tells c r i g
  beside-tells {c = c} (at_after r i) g = hash-tells c r (follows-in i) g

  -- the level, the values, the lists and the total
  module _ {lv : ℕ} {k : Offset} (r : Reached d hive.root lv k) where
    level-tells : (n : ℕ) → lv + n ≡ 513 → Every (OfTree d hive k) (level_fault n k)
    unfolding level_fault
    level-tells zero e = every-flaw (OfTree d hive k) (too-deep r (omega arith))
    level-tells (suc n) e = every-sound (OfTree d hive k)

    level-left : (n : ℕ) → lv + n ≡ 513 → level_fault n k ≡ Ok tt → lv ≤ 512
    level-left zero e s = absurd (level-zero d m hive (record { at = k; hashed = false; hinted = false; beside = 0 }) s)
    level-left (suc n) e s = omega arith

    values-tell : lv ≤ 512 → Every (OfTree d hive k) (values_fault Map d m hive.minor (key_of d k))
    unfolding values_fault whole_value_fault
    values-tell b =
        every-next (OfTree d hive k) (value_list_fault Map d m (key_of d k)) _ (λ f e. of_values r b (value-list-unfit Map d m ruled k f e))
        (λ s. every-over (OfTree d hive k) (whole_value_fault Map d m hive.minor) (values_of d (key_of d k))
        (λ v i. every-next (OfTree d hive k) (value_fault Map d m v) (data_fault Map d m (data_in d hive.minor v))
        (λ f e. of_values r b (one_of (value-named Map d m ruled k v s i) (value-unfit Map d m ruled v f e)))
        (λ t f e. of-data r b i (value-fit Map d m ruled v t) (data-unfit Map d m ruled (data_in d hive.minor v) f e))))

    names-tell : lv ≤ 512 → Every (OfTree d hive k) (namesake_fault d (key_of d k))
    names-tell b f e = let w = namesake-told d (key_of d k) e in subst (λ (x : Flaw). OfTree d hive k x) (sym w.1) (of-namesake r b w.2)

    rest-tells : (n : ℕ) → lv + n ≡ 513 → Every (OfTree d hive k) (rest_fault d m hive.minor n (key_of d k) k)
    unfolding rest_fault total_fault
    rest-tells n e =
        every-next (OfTree d hive k) (level_fault n k) _ (level-tells n e)
        (λ a. every-next (OfTree d hive k) (values_fault Map d m hive.minor (key_of d k)) _ (values-tell (level-left n e a))
        (λ b. every-next (OfTree d hive k) (namesake_fault d (key_of d k)) _ (names-tell (level-left n e a))
        (λ s. every-next (OfTree d hive k) (lists_fault Map d m (key_of d k)) _ (λ f p. of-lists r (level-left n e a) (lists-unfit Map d m ruled k f p))
        (λ c. every-unless (OfTree d hive k) (eqb (length (children d k)) (key_of d k).subkeys) _ (λ p. other-total r (eqb-false _ _ p))))))

  own-tells : {lv : ℕ} {c : Child} {l : Arrival} → Place lv c l → Fit Map d a_key c.at → (n : ℕ) → lv + n ≡ 513
      → Every (OfTree d hive c.at) (own_fault d m hive n (key_of d c.at) c l)
  unfolding own_fault
  own-tells {c = c} {l = l} p g n e =
      every-next (OfTree d hive c.at) (place_fault d hive.root (key_of d c.at) c.at l) _ (place-tells p g)
      (λ s. every-next (OfTree d hive c.at) (beside_fault d (key_of d c.at) c) _ (beside-tells p g) (λ t. rest-tells (reached p g) n e))

  key-charges : {lv : ℕ} {c : Child} {l : Arrival} → Place lv c l → (n : ℕ) → lv + n ≡ 513 → Charges (OfTree d hive) (key_charge d m hive n c l)
  unfolding key_charge
  key-charges {c = c} {l = l} p n e =
      after-charges (OfTree d hive) (charge_of (holder l) (key_fault Map d m c.at)) _ (flaw-charges (OfTree d hive) (holder l) (key_fault Map d m c.at) (record-tells p n e))
      (λ s. flaw-charges (OfTree d hive) c.at (own_fault d m hive n (key_of d c.at) c l)
      (own-tells p (key-fit Map d m ruled c.at (clear_of (holder l) _ s)) n e))

  -- what is left of a key's children, and where the first of them is listed
  record Left (lv : ℕ) (k : Offset) (l : Arrival) (cs : List Child) : Type 0 where
    follow : (b c : Child) → Follows b c cs → Follows b c (children d k)
    head : (c : Child) (es : List Child) → cs ≡ c ∷ es → Place (suc lv) c l

  list-charges : {lv : ℕ} {k : Offset} → Reached d hive.root lv k → (each : Child → Arrival → Charge)
      → ((c : Child) (l : Arrival) → Place (suc lv) c l → Charges (OfTree d hive) (each c l)) → (l : Arrival) (cs : List Child) → Left lv k l cs → Charges (OfTree d hive) (list_charge each k l cs)
  unfolding list_charge
  list-charges r each p l [] s = λ f e. absurd (let z : ◌≡◌ {A = ℕ} 0 1 = cc in omega arith)
  list-charges {k = k} r each p l (c ∷ cs) s =
      after-charges (OfTree d hive) (each c l) _ (p c l (s.head c cs refl))
      (λ x. list-charges r each p (After k c.at) cs (record {
        follow = λ a b i. s.follow a b (later i);
        head = λ b es q. at_after r (s.follow c b (subst (λ (xs : List Child). Follows c b (c ∷ xs)) (sym q) at_once));
      }))

  tree-charges : (n : ℕ) {lv : ℕ} {c : Child} {l : Arrival} → Place lv c l → lv + n ≡ 513 → Charges (OfTree d hive) (tree_charge d m hive n c l)
  unfolding tree_charge
  tree-charges zero p e = key-charges p zero e
  tree-charges (suc n) {lv} {c} {l} p e =
      after-charges (OfTree d hive) (key_charge d m hive (suc n) c l) _ (key-charges p (suc n) e)
      (λ s. let r = reached p (key-fit Map d m ruled c.at (key-parts d m hive (suc n) c l s).0) in
      list-charges r (tree_charge d m hive n) (λ x y q. tree-charges n q (omega arith)) (First c.at) (children d c.at)
      (record { follow = λ a b i. i; head = λ b es q. at_first r (subst (λ (xs : List Child). Memᴰ b xs) (sym q) (Memᴰ.head refl)) }))

-- its number is one of 11 to 15, or 29
module _ (d : List ℕ) (hive : Hive) where
  pub unfit-number : {w : Role} {o : Offset} {f : Flaw} → Unfit Map d w o f → (11 ≤ number_of f.fault) × (number_of f.fault ≤ 12)
  unfit-number (no_cell p) = (omega arith, omega arith)
  unfit-number (no_record p q) = (omega arith, omega arith)

  pub among-number : {R : Role → Offset → Type 0} {f : Flaw} → Among Map d R f → (11 ≤ number_of f.fault) × (number_of f.fault ≤ 12)
  among-number (one_of p u) = unfit-number u

  tree-number : {k : Offset} {f : Flaw} → OfTree d hive k f → 11 ≤ number_of f.fault
  tree-number (of-root u) = (unfit-number u).0
  tree-number (of-lists r p a) = (among-number a).0
  tree-number (of_values r p a) = (among-number a).0
  tree-number (of-data r p i g a) = (among-number a).0
  tree-number (no-order r i g p) = omega arith
  tree-number (other-hash r i g p q) = omega arith
  tree-number (other-hint r i g p q) = omega arith
  tree-number (of-namesake r p x) = omega arith
  tree-number (other-parent r i g p) = omega arith
  tree-number (root-listed r i g p) = omega arith
  tree-number (other-total r p) = omega arith
  tree-number (too-deep r p) = omega arith

-- ---- the check

-- past the survey: why the tree is refused, or the security items of a tree that stands
pub data Past (h : List ℕ) : Offset → Flaw → Type 0 where
  in_tree : {k : Offset} {f : Flaw} → OfTree (bins_data h) (hive_of h) k f → Past h k f
  on-ring : {k : Offset} {f : Flaw} → TreeStands (bins_data h) (hive_of h) levels (hive_of h).root
      → OfSecurity (bins_data h) (hive_of h).root (keys_of h) k f → Past h k f

pub security-number : {d : List ℕ} {root : Offset} {ks : List Offset} {k : Offset} {f : Flaw} → OfSecurity d root ks k f → number_of f.fault ≡ 28
security-number (no_item p) = refl
security-number (no_room r p) = refl
security-number (no-link r p) = refl
security-number (other-count r p) = refl
security-number (off-ring i p) = refl

past-number : {h : List ℕ} {k : Offset} {f : Flaw} → Past h k f → 11 ≤ number_of f.fault
past-number {h} (in_tree t) = tree-number (bins_data h) (hive_of h) t
past-number (on-ring s t) = let n = security-number t in omega arith

module _ (h m : List ℕ) where
  walk-tells : {t : Tally} {r : Refusal} → survey_answer h (length m) ≡ Ok t → on_tiled h m (Ok t) ≡ Err r → Because (Past h) r
  walk-tells {t} {r} p q =
      let x = (surveyed h m t p).1 in
      let d = bins_data h in
      let left = map_left h m in
      after-charges (Past h) (keys_charge h left) (ring_charge h left)
      (λ f e. because (OfTree d (hive_of h)) (Past h) (λ k g w. in_tree w) (tree-charges d left x.tiles x.mapped (hive_of h) levels at-start refl f e))
      (λ c f e. because (OfSecurity d (hive_of h).root (keys_of h)) (Past h) (λ k g w. on-ring (root_stands d left (hive_of h) x.tiles x.mapped c) w)
      (security-tells d left x.tiles x.mapped (hive_of h).root (keys_of h) f e))
      r (refused-charge (keys_charge h left after ring_charge h left) _ q)

  -- its number is 11 or more
  pub walk-number : {t : Tally} {r : Refusal} → survey_answer h (length m) ≡ Ok t → on_tiled h m (Ok t) ≡ Err r → 11 ≤ number_of r.fault
  walk-number p q = let w = walk-tells p q in rw w.2 (past-number w.3)

  pub check-tells : {r : Refusal} → check_answer h m ≡ Err r → Because (Told h (length m)) r
  unfolding check_answer
  check-tells {r} e = by (survey_answer h (length m)) refl e
    where
      told : BinsTile (bins_data h) 0 → (k : Offset) (f : Flaw) → Past h k f → Told h (length m) k f
      told b k f (in_tree t) = of_tree b t
      told b k f (on-ring s t) = of-security b s t

      by : (s : Result Tally Flaw) → survey_answer h (length m) ≡ s → on_tiled h m s ≡ Err r → Because (Told h (length m)) r
      by (Err f) p q = (no_key, f, let z : refusal_of no_key f ≡ r = cc in sym z, of-survey (survey-refuses h (length m) p))
      by (Ok t) p q = because (Past h) (Told h (length m)) (told (surveyed h m t p).1.tiles) (walk-tells p q)
