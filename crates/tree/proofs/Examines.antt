-- Which key a refusal of the check names: none before the first key is accepted, then one that the walk has reached.
use Rattle.std.proofs.Common.{◌≡◌, ℕ, suc, ◌+◌, ◌-◌, ◌%◌, ◌≤◌, ◌⊎◌, List, length, sym, refl, subst, inl, inr, arith}
use mathlib.Core.List.{Memᴰ}
use Rattle.fields.specs.declared.Flaw.{Flaw}
use Rattle.fields.specs.declared.Offset.{Offset}
use Rattle.fields.specs.declared.Refusal.{Refusal}
use Rattle.fields.specs.declared.Fault.TheVariants.{Namesake}
use Rattle.fields.specs.Faults.{number_of, nowhere, flaw, no_key, refusal_of}
use Rattle.fields.proofs.Bools.{never}
use Rattle.base.specs.Block.{bins_data}
use Rattle.base.proofs.Refusals.{base-number}
use Rattle.cells.specs.Rule.{Map}
use Rattle.cells.specs.Tiled.{InUse}
use Rattle.cells.specs.Refused.{OfSurvey, of-base, map-small, of-bins}
use Rattle.cells.proofs.Refusals.{bins-number}
use Rattle.cells.proofs.Tiles.{wholly-inside}
use Rattle.records.specs.Keys.{key_of}
use Rattle.records.specs.Lists.{children}
use Rattle.records.specs.Listed.{keys_in}
use Rattle.records.proofs.Elements.{at_in}
use Rattle.records.proofs.Listed.{joined_in}
use Rattle.values.specs.Lists.{values_of}
use Rattle.values.specs.Refused.{Role, a_key, Fit, Unfit, no_cell, no_record}
use Rattle.namesakes.specs.Namesakes.{Repeats}
use Rattle.security.specs.Refused.{OfSecurity, no_item, no_room, no-link, other-count, off-ring}
use Rattle.tree.specs.Tree.{hive_of, keys_of, check_answer}
use Rattle.tree.specs.Told.{Reached, the-root, a-child, OfTree, of-root, of-lists, of_values, of-data, of-namesake, no-order, other-hash, other-hint, other-parent, root-listed, other-total, too-deep, Told, of-survey, of_tree, of-security, Examined}
use Rattle.tree.proofs.Tells.{unfit-number, among-number, check-tells}
use Rattle.std.specs.Prelude.{Err}

fit-not : {d : List ℕ} {w : Role} {o : Offset} {f : Flaw} → Unfit Map d w o f → Fit Map d w o → ⊥
fit-not (no_cell p) g = p g.used
fit-not (no_record p q) g = never _ g.passing q

-- no cell starts there: an offset of a cell is a multiple of 8
no-cell-there : (d : List ℕ) → InUse d no_key → ⊥
no-cell-there d u = let p : 4294967295 % 8 ≡ 0 = (wholly-inside d no_key u).inside.eights in omega arith

-- a key that is reached is one in use, so is the root, and it is listed
module _ (d : List ℕ) (root : Offset) where
  reached-fit : {n : ℕ} {k : Offset} → Reached d root n k → Fit Map d a_key k
  reached-fit (the-root f) = f
  reached-fit (a-child r i f) = f

  root-fit : {n : ℕ} {k : Offset} → Reached d root n k → Fit Map d a_key root
  root-fit (the-root f) = f
  root-fit (a-child r i f) = root-fit r

  -- what is listed below it is listed below the root
  below_root : {n : ℕ} {k : Offset} → Reached d root n k → (j : ℕ) (x : Offset) → Memᴰ x (keys_in d j k) → Memᴰ x (keys_in d (n + j) root)
  unfolding keys_in
  below_root (the-root f) j x i = let e : j ≡ 0 + j = omega arith in subst (λ (t : ℕ). Memᴰ x (keys_in d t root)) e i
  below_root (a-child {n} {k} {c} r m f) j x i =
      let e : n + suc j ≡ suc n + j = omega arith in
      subst (λ (t : ℕ). Memᴰ x (keys_in d t root)) e (below_root r (suc j) x (Memᴰ.tail (joined_in (keys_in d j) (children d k) m i)))

  reached-in : {n : ℕ} {k : Offset} → Reached d root n k → n ≤ 512 → Memᴰ k (keys_in d 513 root)
  unfolding keys_in
  reached-in {n} {k} r p =
      let e : n + suc (512 - n) ≡ 513 = omega arith in
      subst (λ (t : ℕ). Memᴰ k (keys_in d t root)) e (below_root r (suc (512 - n)) k (Memᴰ.head refl))

module _ (h : List ℕ) where
  by-root : {f : Flaw} → Unfit Map (bins_data h) a_key (hive_of h).root f → Examined h (refusal_of no_key f)
  by-root u =
      let n = unfit-number (bins_data h) (hive_of h) u in
      record {
        early = λ p. refl;
        rootless = λ p q. (λ e g. fit-not u g, λ e. refl);
        reached = λ p q g. absurd (fit-not u g);
        placed = λ p q. absurd (omega arith);
        ringed = λ p. absurd (omega arith);
        holding = λ p. absurd (omega arith);
      }

  by_key : {n : ℕ} {k : Offset} {f : Flaw} → Reached (bins_data h) (hive_of h).root n k → n ≤ 512 → (11 ≤ number_of f.fault) × (number_of f.fault ≤ 12)
      → Examined h (refusal_of k f)
  by_key r l n =
      record {
        early = λ p. absurd (omega (arith, n.0));
        rootless = λ p q. (
          λ e. absurd (no-cell-there (bins_data h) (subst (λ (o : Offset). InUse (bins_data h) o) e (reached-fit (bins_data h) (hive_of h).root r).used)),
          λ g. absurd (g (root-fit (bins_data h) (hive_of h).root r)),
        );
        reached = λ p q g. (reached-fit (bins_data h) (hive_of h).root r, reached-in (bins_data h) (hive_of h).root r l);
        placed = λ p q. absurd (omega (arith, n.1));
        ringed = λ p. absurd (omega (arith, n.1));
        holding = λ p. absurd (omega (arith, n.1));
      }

  by_place : {f : Flaw} → 13 ≤ number_of f.fault → number_of f.fault ≤ 15 → Examined h (refusal_of f.place f)
  by_place n m =
      record {
        early = λ p. absurd (omega arith);
        rootless = λ p q. absurd (omega arith);
        reached = λ p q g. absurd (omega arith);
        placed = λ p q. refl;
        ringed = λ p. absurd (omega arith);
        holding = λ p. absurd (omega arith);
      }

  -- 29
  by_value : {n : ℕ} {k v : Offset} → Reached (bins_data h) (hive_of h).root n k → n ≤ 512 → Repeats (bins_data h) (key_of (bins_data h) k) v
      → Examined h (refusal_of k (flaw Namesake v))
  by_value {k = k} r l x =
      record {
        early = λ q. absurd (let z : 29 ≤ 10 = q in omega arith);
        rootless = λ q s. absurd (let z : 29 ≤ 12 = s in omega arith);
        reached = λ q s g. absurd (let z : 29 ≤ 12 = s in omega arith);
        placed = λ q s. absurd (let z : 29 ≤ 15 = s in omega arith);
        ringed = λ q. absurd (let z : ◌≡◌ {A = ℕ} 29 28 = q in omega arith);
        holding = λ q. (
          reached-in (bins_data h) (hive_of h).root r l,
          subst (λ (o : Offset). Memᴰ o (values_of (bins_data h) (key_of (bins_data h) k))) (sym x.here) (at_in _ x.at nowhere x.inside),
        );
      }

  by-tree : {k : Offset} {f : Flaw} → OfTree (bins_data h) (hive_of h) k f → Examined h (refusal_of k f)
  by-tree (of-root u) = by-root u
  by-tree (of-lists r p a) = by_key r p (among-number (bins_data h) (hive_of h) a)
  by-tree (of_values r p a) = by_key r p (among-number (bins_data h) (hive_of h) a)
  by-tree (of-data r p i g a) = by_key r p (among-number (bins_data h) (hive_of h) a)
  by-tree (no-order r i g p) = by_place (omega arith) (omega arith)
  by-tree (other-hash r i g p q) = by_place (omega arith) (omega arith)
  by-tree (other-hint r i g p q) = by_place (omega arith) (omega arith)
  by-tree (of-namesake r p x) = by_value r p x
  by-tree (other-parent r i g p) = by_place (omega arith) (omega arith)
  by-tree (root-listed r i g p) = by_place (omega arith) (omega arith)
  by-tree (other-total r p) = by_place (omega arith) (omega arith)
  by-tree (too-deep r p) = by_place (omega arith) (omega arith)

  -- 28
  on-place : {f : Flaw} {k : Offset} → number_of f.fault ≡ 28 → Memᴰ k (keys_of h) → (k ≡ (hive_of h).root) ⊎ (k ≡ f.place) → Examined h (refusal_of k f)
  on-place n i p =
      record {
        early = λ q. absurd (omega arith);
        rootless = λ q s. absurd (omega arith);
        reached = λ q s g. absurd (omega arith);
        placed = λ q s. absurd (omega arith);
        ringed = λ q. (i, p);
        holding = λ q. absurd (omega arith);
      }

  root-listed-first : Memᴰ (hive_of h).root (keys_of h)
  unfolding keys_in
  root-listed-first = Memᴰ.head refl

  by-ring : {k : Offset} {f : Flaw} → OfSecurity (bins_data h) (hive_of h).root (keys_of h) k f → Examined h (refusal_of k f)
  by-ring (no_item p) = on-place refl root-listed-first (inl refl)
  by-ring (no_room r p) = on-place refl root-listed-first (inl refl)
  by-ring (no-link r p) = on-place refl root-listed-first (inl refl)
  by-ring (other-count r p) = on-place refl root-listed-first (inl refl)
  by-ring (off-ring i p) = on-place refl i (inr refl)

  survey-number : (room : ℕ) {f : Flaw} → OfSurvey h room f → number_of f.fault ≤ 10
  survey-number room (of-base b) = let n = base-number h b in omega arith
  survey-number room (map-small p) = omega arith
  survey-number room (of-bins b) = (bins-number (bins_data h) b).1

  by-told : (room : ℕ) {k : Offset} {f : Flaw} → Told h room k f → Examined h (refusal_of k f)
  by-told room (of-survey s) =
      let n = survey-number room s in
      record {
        early = λ p. refl;
        rootless = λ p q. absurd (omega arith);
        reached = λ p q g. absurd (omega arith);
        placed = λ p q. absurd (omega arith);
        ringed = λ p. absurd (omega arith);
        holding = λ p. absurd (omega arith);
      }
  by-told room (of_tree b t) = by-tree t
  by-told room (of-security b s t) = by-ring t

  pub check-examines : (m : List ℕ) {r : Refusal} → check_answer h m ≡ Err r → Examined h r
  check-examines m e = let w = check-tells h m e in subst (λ (x : Refusal). Examined h x) (sym w.2) (by-told (length m) w.3)
