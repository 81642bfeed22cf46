-- The counts of a pass are those of the listing, and their sum tells whether every key names an item of the ring: no second pass is needed for that.
use Rattle.std.proofs.Common.{◌≡◌, ℕ, zero, suc, ◌+◌, ◌%◌, ◌<◌, ◌≤◌, Bool, true, false, cond, ◌||◌, eqb, List, [], ◌∷◌, length, get_or, set, sym, refl, ap, ◌∙◌, subst, ap₂, arith, get_or-set_other, get_or-set_same, eq-eqb, ne_eqb, eqb-true}
use mathlib.Core.List.{Memᴰ}
use borrow.Author.Tests.{eqb-false}
use Rattle.fields.specs.declared.Fault.TheVariants.{Security}
use Rattle.fields.specs.declared.Offset.{Offset}
use Rattle.fields.specs.Faults.{flaw, unless, nowhere, ◌next◌, fault_over}
use Rattle.chains.specs.Chains.{find_in}
use Rattle.chains.proofs.Laws.{find-most}
use Rattle.records.specs.Keys.{security_of}
use Rattle.records.specs.Listed.{Once, cons}
use Rattle.records.proofs.Listed.{same-offset}
use Rattle.records.proofs.Elements.{at_in}
use Rattle.security_pass.specs.declared.Pass.{Pass}
use Rattle.security_pass.specs.Counting.{bump, visited, counted_all}
use Rattle.security_pass.proofs.Laws.{length-bump, visit-count}
use Rattle.security.specs.Items.{item_of, one_more, named_by, count_fault, is_among}
use Rattle.security.specs.Terms.{along, onward, HoldsFrom}
use Rattle.security.proofs.Gathers.{onward-suc}
use Rattle.security_check.specs.Terms.{row_of, unequal, added_from, sum_over}

-- what is found is there
found-is : (ks : List ℕ) (x n i : ℕ) → find_in ks x n ≡ suc i → get_or ks i 0 ≡ x
unfolding find_in
found-is ks x zero i e = absurd (omega arith)
found-is ks x (suc n) i e = by (found-is ks x n i) (eqb (get_or ks n 0) x) refl e
  where
    by : (find_in ks x n ≡ suc i → get_or ks i 0 ≡ x) → (t : Bool) → eqb (get_or ks n 0) x ≡ t → cond t (suc n) (find_in ks x n) ≡ suc i → get_or ks i 0 ≡ x
    by h true g e = let z : i ≡ n = omega arith in rw z (eqb-true _ x g)
    by h false g e = h e

-- and what is there is found
is_found : (ks : List ℕ) (x n j : ℕ) → j < n → get_or ks j 0 ≡ x → find_in ks x n ≡ 0 → ⊥
unfolding find_in
is_found ks x zero j l e = elim l [ ]
is_found ks x (suc n) j l e = by (is_found ks x n j) (eqb (get_or ks n 0) x) refl
  where
    by : (j < n → get_or ks j 0 ≡ x → find_in ks x n ≡ 0 → ⊥) → (t : Bool) → eqb (get_or ks n 0) x ≡ t → cond t (suc n) (find_in ks x n) ≡ 0 → ⊥
    by h true g z = let y = z in omega arith
    by h false g z =
        let f = eqb-false _ x g in
        let s : (j ≡ n → ⊥) = λ q. f (ap (λ (k : ℕ). get_or ks k 0) (sym q) ∙ e) in
        h (omega arith) e z

split : (a m : ℕ) (b : Bool) → ((a + one_more b 0) % 4294967296 + m) % 4294967296 ≡ (a + one_more b m) % 4294967296
split a m true = omega arith
split a m false = omega arith

-- no number stands twice among the first n
abbrev pub Distinct : List ℕ → ℕ → Type 0
Distinct table n = (i j : ℕ) → i < n → j < n → get_or table i 0 ≡ get_or table j 0 → i ≡ j

module _ (table : List ℕ) (n : ℕ) (distinct : Distinct table n) where
  -- the place of each number is its own
  find_at : (j : ℕ) → j < n → find_in table (get_or table j 0) n ≡ suc j
  find_at j l = by (find_in table (get_or table j 0) n) refl
    where
      by : (p : ℕ) → find_in table (get_or table j 0) n ≡ p → p ≡ suc j
      by zero e = absurd (is_found table (get_or table j 0) n j l refl e)
      by (suc i) e =
          let m = find-most table (get_or table j 0) n in
          let q = distinct i j (omega arith) l (found-is table (get_or table j 0) n i e) in
          omega arith

  module _ (j : ℕ) (l : j < n) where
    -- one visit
    bumped : (cs : List ℕ) (x : ℕ) → n ≤ length cs → get_or cs j 0 < 4294967296
        → get_or (bump cs (find_in table x n)) j 0 ≡ (get_or cs j 0 + one_more (eqb x (get_or table j 0)) 0) % 4294967296
    unfolding bump
    bumped cs x r c = by (find_in table x n) refl
      where
        by : (p : ℕ) → find_in table x n ≡ p → get_or (bump cs p) j 0 ≡ (get_or cs j 0 + one_more (eqb x (get_or table j 0)) 0) % 4294967296
        by zero e = rw (ne_eqb x (get_or table j 0) (λ q. is_found table x n j l (sym q) e)) (omega arith)
        by (suc i) e = at (eqb i j) refl
          where
            at : (b : Bool) → eqb i j ≡ b → get_or (set cs i ((get_or cs i 0 + 1) % 4294967296)) j 0 ≡ (get_or cs j 0 + one_more (eqb x (get_or table j 0)) 0) % 4294967296
            at true g =
                let q = eqb-true i j g in
                rw (q, get_or-set_same cs j ((get_or cs j 0 + 1) % 4294967296) 0 (omega arith), eq-eqb x (get_or table j 0) (sym (found-is table x n i e) ∙ ap (λ (k : ℕ). get_or table k 0) q))
            at false g =
                let q = eqb-false i j g in
                rw (
                  get_or-set_other cs i j ((get_or cs i 0 + 1) % 4294967296) 0 (λ r. q (sym r)),
                  ne_eqb x (get_or table j 0) (λ r. let y = sym e ∙ ap (λ (k : ℕ). find_in table k n) r ∙ find_at j l in q (let z = y in omega arith)),
                )
                (omega arith)

    -- "the number of reached keys that name the item"
    module _ (d : List ℕ) (w : Pass) (counts : w.seek ≡ false) (size : w.items ≡ n) where
      one : (cs : List ℕ) (k : Offset) → visited d table w cs k ≡ bump cs (find_in table (security_of d k).0 n)
      one cs k = visit-count d table w cs k refl counts ∙ ap (λ (i : ℕ). bump cs (find_in table (security_of d k).0 i)) size

      counted_is : (cs : List ℕ) (ks : List Offset) → n ≤ length cs → get_or cs j 0 < 4294967296
          → get_or (counted_all d table w cs ks) j 0 ≡ (get_or cs j 0 + named_by d ks (row_of table j)) % 4294967296
      unfolding counted_all named_by
      counted_is cs [] r c = omega arith
      counted_is cs (k ∷ ks) r c =
          let v = one cs k in
          let b = bumped cs (security_of d k).0 r c in
          let s = ap (λ (l : List ℕ). get_or l j 0) v ∙ b in
          let m : get_or (visited d table w cs k) j 0 < 4294967296 = rw s (omega arith) in
          counted_is (visited d table w cs k) ks (rw (v, length-bump cs (find_in table (security_of d k).0 n)) r) m
          ∙ rw s (split (get_or cs j 0) (named_by d ks (row_of table j)) (eqb (security_of d k).0 (get_or table j 0)))

      pub counted-exactly : (cs : List ℕ) (ks : List Offset) → n ≤ length cs → get_or cs j 0 ≡ 0 → named_by d ks (row_of table j) < 4294967296
          → get_or (counted_all d table w cs ks) j 0 ≡ named_by d ks (row_of table j)
      counted-exactly cs ks r z few = counted_is cs ks r (omega arith) ∙ rw z (omega arith)

pub named-most : (d : List ℕ) (ks : List Offset) (o : Offset) → named_by d ks o ≤ length ks
unfolding named_by
named-most d [] o = omega arith
named-most d (k ∷ ks) o = by (named-most d ks o) (eqb (security_of d k).0 o.0)
  where
    by : named_by d ks o ≤ length ks → (b : Bool) → one_more b (named_by d ks o) ≤ suc (length ks)
    by h true = omega arith
    by h false = omega arith

as-fault : (d : List ℕ) (ks : List Offset) (o : Offset) → unless (eqb (item_of d o).count (named_by d ks o)) (flaw Security o) ≡ count_fault d ks o
unfolding count_fault
as-fault d ks o = refl

-- ---- a table that holds the items from one on

pub along-length : (d : List ℕ) (n : ℕ) (o : Offset) → length (along d n o) ≡ n
unfolding along
along-length d zero o = refl
along-length d (suc n) o = ap suc (along-length d n (item_of d o).forward)

along-at : (d : List ℕ) (n i : ℕ) (o : Offset) → i < n → get_or (along d n o) i nowhere ≡ onward d i o
unfolding along onward
along-at d zero i o l = absurd (omega arith)
along-at d (suc n) zero o l = refl
along-at d (suc n) (suc i) o l = along-at d n i (item_of d o).forward (omega arith)

pub onward-in : (d : List ℕ) (n i : ℕ) (o : Offset) → i < n → Memᴰ (onward d i o) (along d n o)
onward-in d n i o l = rw (← along-at d n i o l) (at_in (along d n o) i nowhere (omega (arith, along-length d n o)))

once-apart : (os : List Offset) → Once os → (i j : ℕ) → i < length os → j < length os → get_or os i nowhere ≡ get_or os j nowhere → i ≡ j
once-apart [] r i j a b e = absurd (omega arith)
once-apart (o ∷ os) (cons f r) zero zero a b e = refl
once-apart (o ∷ os) (cons f r) zero (suc j) a b e =
    absurd (f (subst (λ (x : Offset). Memᴰ x os) (sym e) (at_in os j nowhere (omega arith))))
once-apart (o ∷ os) (cons f r) (suc i) zero a b e =
    absurd (f (subst (λ (x : Offset). Memᴰ x os) e (at_in os i nowhere (omega arith))))
once-apart (o ∷ os) (cons f r) (suc i) (suc j) a b e = ap suc (once-apart os r i j (omega arith) (omega arith) e)

module _ (d table : List ℕ) (n : ℕ) (from : Offset) (holds : HoldsFrom d table n from) where
  pub row_is : (i : ℕ) → i < n → row_of table i ≡ onward d i from
  row_is i l = same-offset _ _ (holds i l)

  pub table-distinct : Once (along d n from) → Distinct table n
  table-distinct once i j a b e =
      let m = along-length d n from in
      once-apart (along d n from) once i j (omega arith) (omega arith)
      (along-at d n i from a ∙ sym (row_is i a) ∙ same-offset _ _ e ∙ row_is j b ∙ sym (along-at d n j from b))

  -- its counts, compared and added, are those of the items
  module _ (counts : List ℕ) (ks : List Offset) (counted : (i : ℕ) → i < n → get_or counts i 0 ≡ named_by d ks (row_of table i)) where
    unequal-from : (i k : ℕ) → i + k ≡ n → unequal d table counts i k ≡ fault_over (count_fault d ks) (along d k (onward d i from))
    unfolding unequal fault_over along
    unequal-from i zero e = refl
    unequal-from i (suc k) e =
        let l : i < n = omega arith in
        ap₂ ◌next◌
        (ap (λ (x : ℕ). unless (eqb (item_of d (row_of table i)).count x) (flaw Security (row_of table i))) (counted i l)
        ∙ as-fault d ks (row_of table i)
        ∙ ap (count_fault d ks) (row_is i l))
        (unequal-from (suc i) k (omega arith) ∙ ap (λ (o : Offset). fault_over (count_fault d ks) (along d k o)) (onward-suc d i from))

    added-from : (i k : ℕ) → i + k ≡ n → added_from counts i k ≡ sum_over d ks (along d k (onward d i from))
    unfolding added_from sum_over along
    added-from i zero e = refl
    added-from i (suc k) e =
        let l : i < n = omega arith in
        let a : get_or counts i 0 ≡ named_by d ks (onward d i from) = counted i l ∙ ap (named_by d ks) (row_is i l) in
        let h = added-from (suc i) k (omega arith) in
        ap₂ ◌+◌ a (h ∙ ap (λ (o : Offset). sum_over d ks (along d k o)) (onward-suc d i from))

    pub unequal-is : unequal d table counts 0 n ≡ fault_over (count_fault d ks) (along d n from)
    unfolding onward
    unequal-is = unequal-from 0 n (omega arith)

    pub added_is : added_from counts 0 n ≡ sum_over d ks (along d n from)
    unfolding onward
    added_is = added-from 0 n (omega arith)

-- ---- the sum over distinct items counts each key once

or-false : (a b : Bool) → a || b ≡ false → (a ≡ false) × (b ≡ false)
or-false false b e = (refl, e)
or-false true b e = absurd (let y : ◌≡◌ {A = ℕ} 0 1 = cc in omega arith)

not-among : (o : Offset) (os : List Offset) → (Memᴰ o os → ⊥) → is_among o os ≡ false
unfolding is_among
not-among o [] f = refl
not-among o (p ∷ os) f =
    rw (ne_eqb o.0 p.0 (λ e. f (Memᴰ.head (same-offset o p e))), not-among o os (λ i. f (Memᴰ.tail i)))

-- how many of some keys name one of some items
pub within : List ℕ → List Offset → List Offset → ℕ
within d os [] = 0
within d os (k ∷ ks) = one_more (is_among (security_of d k) os) (within d os ks)

module _ (d : List ℕ) where
  sum-none : (os : List Offset) → sum_over d [] os ≡ 0
  unfolding sum_over named_by
  sum-none [] = refl
  sum-none (o ∷ os) = let h = sum-none os in omega arith

  sum-out : (k : Offset) (ks os : List Offset) → is_among (security_of d k) os ≡ false → sum_over d (k ∷ ks) os ≡ sum_over d ks os
  unfolding sum_over named_by is_among
  sum-out k ks [] e = refl
  sum-out k ks (o ∷ os) e =
      let f = or-false (eqb (security_of d k).0 o.0) (is_among (security_of d k) os) e in
      rw (f.0, sum-out k ks os f.1)

  sum-in : (k : Offset) (ks os : List Offset) → Once os → is_among (security_of d k) os ≡ true → sum_over d (k ∷ ks) os ≡ suc (sum_over d ks os)
  unfolding sum_over named_by is_among
  sum-in k ks [] o e = absurd (let z : ◌≡◌ {A = Bool} false true = e in let y : ◌≡◌ {A = ℕ} 0 1 = cc in omega arith)
  sum-in k ks (o ∷ os) (cons f g) e = by (sum-in k ks os g) (eqb (security_of d k).0 o.0) refl e
    where
      by : (is_among (security_of d k) os ≡ true → sum_over d (k ∷ ks) os ≡ suc (sum_over d ks os)) → (b : Bool) → eqb (security_of d k).0 o.0 ≡ b
          → b || is_among (security_of d k) os ≡ true
          → one_more (eqb (security_of d k).0 o.0) (named_by d ks o) + sum_over d (k ∷ ks) os ≡ suc (named_by d ks o + sum_over d ks os)
      by h true e r =
          let q = same-offset (security_of d k) o (eqb-true (security_of d k).0 o.0 e) in
          rw (e, sum-out k ks os (rw q (not-among o os f))) (omega arith)
      by h false e r = rw (e, h r) (omega arith)

  pub sum_is : (ks os : List Offset) → Once os → sum_over d ks os ≡ within d os ks
  unfolding within
  sum_is [] os o = sum-none os
  sum_is (k ∷ ks) os o = by (sum_is ks os o) (is_among (security_of d k) os) refl
    where
      by : sum_over d ks os ≡ within d os ks → (b : Bool) → is_among (security_of d k) os ≡ b → sum_over d (k ∷ ks) os ≡ one_more b (within d os ks)
      by h true e = sum-in k ks os o e ∙ ap suc h
      by h false e = sum-out k ks os e ∙ h

  pub within-most : (ks os : List Offset) → within d os ks ≤ length ks
  unfolding within
  within-most [] os = omega arith
  within-most (k ∷ ks) os = by (within-most ks os) (is_among (security_of d k) os)
    where
      by : within d os ks ≤ length ks → (b : Bool) → one_more b (within d os ks) ≤ suc (length ks)
      by h true = omega arith
      by h false = omega arith

  -- so the sum is the number of keys exactly where each names one of them
  all_among : (k : Offset) (ks os : List Offset) → within d os (k ∷ ks) ≡ suc (length ks) → (is_among (security_of d k) os ≡ true) × (within d os ks ≡ length ks)
  unfolding within
  all_among k ks os e = by (is_among (security_of d k) os) refl e
    where
      by : (b : Bool) → is_among (security_of d k) os ≡ b → one_more b (within d os ks) ≡ suc (length ks)
          → (is_among (security_of d k) os ≡ true) × (within d os ks ≡ length ks)
      by true g q = (g, let z = q in omega arith)
      by false g q = let m = within-most ks os in absurd (let z = q in omega arith)

  pub first-in : (k : Offset) (ks os : List Offset) → within d os (k ∷ ks) ≡ length (k ∷ ks) → is_among (security_of d k) os ≡ true
  first-in k ks os e = (all_among k ks os e).0

  pub rest_in : (k : Offset) (ks os : List Offset) → within d os (k ∷ ks) ≡ length (k ∷ ks) → within d os ks ≡ length ks
  rest_in k ks os e = (all_among k ks os e).1
