-- What a batch of items comes to: the items that it took, and what is left of the ring.
use Rattle.std.proofs.Common.{◌≡◌, ℕ, zero, suc, ◌+◌, ◌-◌, Bool, true, false, cond, List, [], ◌∷◌, ◌++◌, length, sym, refl, ap, ◌∙◌, subst, ⊎_elim, arith}
use mathlib.Core.List.Memᴰ
use mathlib.Core.List.{Memᴰ}
use Rattle.fields.specs.declared.Fault.TheVariants.{Security}
use Rattle.fields.specs.declared.Offset.{Offset}
use Rattle.fields.specs.Faults.{flaw, ◌next◌, fault_over, Verdict}
use Rattle.records.specs.Listed.{Once, nil, cons}
use Rattle.security.specs.declared.Batch.{Batch}
use Rattle.security.specs.declared.Batch.TheVariants.{Closed, Broken, More}
use Rattle.security.specs.Items.{is_item, item_of, is_joined, link_fault, count_fault, item_fault, closes_at, ring_fault, ring_of}
use Rattle.security.specs.Terms.{along, gathered, taken}
use Rattle.security.proofs.Items.{next-item}
use Rattle.security.proofs.Ring.{Trail, step, trail-once, trail-few}
use Rattle.std.specs.Prelude.{Err, Ok}

next-assoc : (a b c : Verdict) → (a next b) next c ≡ a next b next c
unfolding ◌next◌
next-assoc (Ok tt) b c = refl
next-assoc (Err f) b c = refl

next-sound : (a : Verdict) → a next (Ok tt) ≡ a
unfolding ◌next◌
next-sound (Ok tt) = refl
next-sound (Err f) = refl

-- some items put in front of others, the last of them first
unfoldable pub onto : List Offset → List Offset → List Offset
onto [] os = os
onto (x ∷ xs) os = onto xs (x ∷ os)

pub length-onto : (xs os : List Offset) → length (onto xs os) ≡ length xs + length os
unfolding onto
length-onto [] os = omega arith
length-onto (x ∷ xs) os = let h = length-onto xs (x ∷ os) in omega arith

pub met-twice : {o x : Offset} {os : List Offset} → Once (o ∷ os) → x ≡ o → Memᴰ x os → ⊥
met-twice {o} {x} {os} (cons f r) q k = f (subst (λ (y : Offset). Memᴰ y os) q k)

same_next : {n k : ℕ} {o p : Offset} → More n o ≡ More k p → o ≡ p
same_next e = cc

module _ (d m : List ℕ) (first : Offset) where
  moved : {o p : Offset} {os : List Offset} → o ≡ p → Trail d m first o os → Trail d m first p os
  moved {o} {p} {os} q t = subst (λ (x : Offset). Trail d m first x os) q t

  -- from an item on, with n in the table: the steps to where a batch ends
  pub data Went : Offset → ℕ → Batch → Type 0 where
    full : {o : Offset} {n : ℕ} → Went o n (More n o)
    broken : {o : Offset} {n : ℕ} → is_joined d m o ≡ false → Went o n (Broken n o)
    closed : {o : Offset} {n : ℕ} → is_joined d m o ≡ true → closes_at d first o ≡ true → Went o n (Closed (suc n))
    on : {o : Offset} {n : ℕ} {b : Batch} → is_joined d m o ≡ true → closes_at d first o ≡ false → Went (item_of d o).forward (suc n) b → Went o n b

  pub went : (room n : ℕ) (o : Offset) → Went o n (gathered d m first room n o)
  unfolding gathered
  went zero n o = full
  went (suc room) n o = by (went room (suc n) (item_of d o).forward) (is_joined d m o) refl (closes_at d first o) refl
    where
      by : Went (item_of d o).forward (suc n) (gathered d m first room (suc n) (item_of d o).forward) → (j : Bool) → is_joined d m o ≡ j
          → (c : Bool) → closes_at d first o ≡ c
          → Went o n (cond j (cond c (Closed (suc n)) (gathered d m first room (suc n) (item_of d o).forward)) (Broken n o))
      by h false p c q = broken p
      by h true p true q = closed p q
      by h true p false q = on p q h

  -- the items that it took
  pub items : {o : Offset} {n : ℕ} {b : Batch} → Went o n b → List Offset
  items full = []
  items (broken e) = []
  items (closed {o} j e) = o ∷ []
  items (on {o} j e w) = o ∷ items w

  pub items-count : {o : Offset} {n : ℕ} {b : Batch} (w : Went o n b) → n + length (items w) ≡ taken b
  unfolding items
  items-count full = omega arith
  items-count (broken e) = omega arith
  items-count (closed j e) = omega arith
  items-count (on j e w) = let h = items-count w in omega arith

  items-along : {o : Offset} {n : ℕ} {b : Batch} (w : Went o n b) → items w ≡ along d (length (items w)) o
  unfolding items along
  items-along full = refl
  items-along (broken e) = refl
  items-along (closed j e) = refl
  items-along (on {o} j e w) = ap (λ (l : List Offset). o ∷ l) (items-along w)

  pub taken-along : {o : Offset} {b : Batch} (w : Went o 0 b) → along d (taken b) o ≡ items w
  taken-along {o} {b} w = ap (λ (n : ℕ). along d n o) (let h = items-count w in let z : taken b ≡ length (items w) = omega arith in z) ∙ sym (items-along w)

  -- none of them was passed before, and none is there twice
  apart : {o : Offset} {n : ℕ} {b : Batch} {os : List Offset} (w : Went o n b) → Trail d m first o os → (x : Offset) → Memᴰ x (items w) → Memᴰ x os → ⊥
  unfolding items
  apart full t x i k = Memᴰ.not-nil i
  apart (broken e) t x i k = Memᴰ.not-nil i
  apart (closed j e) t x i k = ⊎_elim (λ q. met-twice (trail-once d m first t) q k) (λ z. Memᴰ.not-nil z) (Memᴰ.cases_cons i)
  apart (on j e w) t x i k =
      ⊎_elim (λ q. met-twice (trail-once d m first t) q k) (λ z. apart w (step t j e) x z (Memᴰ.tail k)) (Memᴰ.cases_cons i)

  pub items-once : {o : Offset} {n : ℕ} {b : Batch} {os : List Offset} (w : Went o n b) → Trail d m first o os → Once (items w)
  unfolding items
  items-once full t = nil
  items-once (broken e) t = nil
  items-once (closed j e) t = cons (λ i. Memᴰ.not-nil i) nil
  items-once (on {o} j e w) t = cons (λ i. apart w (step t j e) o i (Memᴰ.head refl)) (items-once w (step t j e))

  -- each is an item
  pub items-item : {o : Offset} {n : ℕ} {b : Batch} (w : Went o n b) → is_item d m o ≡ true → (x : Offset) → Memᴰ x (items w) → is_item d m x ≡ true
  unfolding items
  items-item full i x k = absurd (Memᴰ.not-nil k)
  items-item (broken e) i x k = absurd (Memᴰ.not-nil k)
  items-item {o} (closed j e) i x k = ⊎_elim (λ (q : x ≡ o). rw q i) (λ z. absurd (Memᴰ.not-nil z)) (Memᴰ.cases_cons k)
  items-item {o} (on j e w) i x k = ⊎_elim (λ (q : x ≡ o). rw q i) (λ z. items-item w (next-item d m o j) x z) (Memᴰ.cases_cons k)

  -- where it goes on
  pub went-trail : {o : Offset} {n : ℕ} {b : Batch} {os : List Offset} {k : ℕ} {p : Offset} (w : Went o n b) → Trail d m first o os → b ≡ More k p
      → Trail d m first p (onto (items w) os)
  unfolding items onto
  went-trail full t e = moved (same_next e) t
  went-trail (broken j) t e = absurd (let z : ◌≡◌ {A = ℕ} 0 1 = cc in omega arith)
  went-trail (closed j c) t e = absurd (let z : ◌≡◌ {A = ℕ} 0 1 = cc in omega arith)
  went-trail (on j c w) t e = went-trail w (step t j c) e

  -- what is left of the ring, with so many steps
  unfoldable pub rest_fault : List Offset → ℕ → Batch → Verdict
  rest_fault ks f (Closed k) = Ok tt
  rest_fault ks f (Broken k o) = Err (flaw Security o)
  rest_fault ks f (More k o) = ring_fault d m ks first f o

  unfoldable pub rest_ring : ℕ → Batch → List Offset
  rest_ring f (Closed k) = []
  rest_ring f (Broken k o) = ring_of d first f o
  rest_ring f (More k o) = ring_of d first f o

  pub went-fault : (ks : List Offset) {o : Offset} {n : ℕ} {b : Batch} {os : List Offset} (w : Went o n b) (f : ℕ) → Trail d m first o os → f + length os ≡ length d
      → ring_fault d m ks first f o ≡ fault_over (count_fault d ks) (items w) next rest_fault ks (f - length (items w)) b
  unfolding items rest_fault ring_fault item_fault link_fault fault_over ◌next◌
  went-fault ks {o} full f t e = ap (λ (k : ℕ). ring_fault d m ks first k o) (let z : f ≡ f - 0 = omega arith in z)
  went-fault ks (broken j) zero t e = absurd (let h = trail-few d m first t in omega arith)
  went-fault ks (broken j) (suc f) t e = rw j
  went-fault ks (closed j c) zero t e = absurd (let h = trail-few d m first t in omega arith)
  went-fault ks {o} (closed j c) (suc f) t e = rw (j, c) (sym (next-sound (count_fault d ks o next (Ok tt))))
  went-fault ks (on j c w) zero t e = absurd (let h = trail-few d m first t in omega arith)
  went-fault ks {o} {n} {b} {os} (on j c w) (suc f) t e =
      let h = went-fault ks w f (step t j c) (omega arith) in
      let z : f - length (items w) ≡ suc f - suc (length (items w)) = omega arith in
      rw (j, c)
      (ap (λ (v : Verdict). count_fault d ks o next v) h
      ∙ sym (next-assoc (count_fault d ks o) (fault_over (count_fault d ks) (items w)) (rest_fault ks (f - length (items w)) b))
      ∙ ap (λ (k : ℕ). (count_fault d ks o next fault_over (count_fault d ks) (items w)) next rest_fault ks k b) z)

  pub went-ring : {o : Offset} {n : ℕ} {b : Batch} {os : List Offset} (w : Went o n b) (f : ℕ) → Trail d m first o os → f + length os ≡ length d
      → ring_of d first f o ≡ items w ++ rest_ring (f - length (items w)) b
  unfolding items rest_ring ring_of
  went-ring {o} full f t e = ap (λ (k : ℕ). ring_of d first k o) (let z : f ≡ f - 0 = omega arith in z)
  went-ring {o} (broken j) f t e = ap (λ (k : ℕ). ring_of d first k o) (let z : f ≡ f - 0 = omega arith in z)
  went-ring (closed j c) zero t e = absurd (let h = trail-few d m first t in omega arith)
  went-ring (closed j c) (suc f) t e = rw c
  went-ring (on j c w) zero t e = absurd (let h = trail-few d m first t in omega arith)
  went-ring {o} {n} {b} (on j c w) (suc f) t e =
      let h = went-ring w f (step t j c) (omega arith) in
      let z : f - length (items w) ≡ suc f - suc (length (items w)) = omega arith in
      rw c (ap (λ (l : List Offset). o ∷ l) (h ∙ ap (λ (k : ℕ). items w ++ rest_ring k b) z))
