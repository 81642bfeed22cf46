-- The ring ends. "Were an item but the first met again, its backward link would name both items it was come from": so no item is met twice, and the
-- steps that are enough for every ring never run out.
use Prim.Native.Nat.{ℕ, zero, suc, ◌+◌, ◌<◌, ◌≤◌}
use native.Mathlib.Omega.{arith}
use mathlib.Core.Path.{◌≡◌, refl, sym, ap, ◌∙◌, subst}
use mathlib.Core.Bool.{Bool, true, false, cond}
use mathlib.Core.Logic.{⊎_elim}
use mathlib.Core.List.Memᴰ
use mathlib.Core.List.{List, [], ◌∷◌, Memᴰ}
use lib.ListN.{length}
use borrow.Author.Tests.{eqb-true, eqb-false}
use Rattle.fields.specs.declared.Flaw.{Flaw}
use Rattle.fields.specs.declared.Offset.{Offset}
use Rattle.fields.specs.Faults.{◌next◌, Verdict}
use Rattle.fields.proofs.Firsts.{both, held}
use Rattle.records.specs.Listed.{Once, nil, cons}
use Rattle.records.proofs.Listed.{same-offset, pigeonhole}
use Rattle.security.specs.Items.{is_item, item_of, is_joined, link_fault, item_fault, closes_at, ring_fault, ring_of, ring_steps}
use Rattle.security.specs.Stands.{Link, Ring, closes, goes_on}
use Rattle.security.proofs.Items.{item-below, next-item, next-back}
use Rattle.std.specs.Prelude.{Err, Ok}

-- the forward link that comes back to the first item
pub closes-is : (d : List ℕ) (first o : Offset) → closes_at d first o ≡ true → (item_of d o).forward ≡ first
unfolding closes_at
closes-is d first o e = same-offset _ _ (eqb-true _ _ e)

pub closes-not : (d : List ℕ) (first o : Offset) → closes_at d first o ≡ false → (item_of d o).forward ≡ first → ⊥
unfolding closes_at
closes-not d first o e q = eqb-false _ _ e (ap (λ (p : Offset). p.0) q)

module _ (d m : List ℕ) (first : Offset) where
  -- at an item, with those that were passed on the way from the first, the last of them in front
  pub data Trail : Offset → List Offset → Type 0 where
    start : is_item d m first ≡ true → Trail first []
    step : {o : Offset} {os : List Offset} → Trail o os → is_joined d m o ≡ true → closes_at d first o ≡ false → Trail (item_of d o).forward (o ∷ os)

  pub trail-item : {o : Offset} {os : List Offset} → Trail o os → is_item d m o ≡ true
  trail-item (start i) = i
  trail-item (step {o} t j e) = next-item d m o j

  -- the backward link of each but the first names the one before it
  trail-back : {o : Offset} {os : List Offset} → Trail o os → (x : Offset) → Memᴰ x (o ∷ os) → (x ≡ first → ⊥)
      → Memᴰ (item_of d x).backward os
  trail-back (start i) x k f = absurd (⊎_elim f (λ n. Memᴰ.not-nil n) (Memᴰ.cases_cons k))
  trail-back (step {o} {os} t j e) x k f =
      ⊎_elim
      (λ q. Memᴰ.head (ap (λ (p : Offset). (item_of d p).backward) q ∙ next-back d m o j))
      (λ n. Memᴰ.tail (trail-back t x n f))
      (Memᴰ.cases_cons k)

  -- so none is met twice
  pub trail-once : {o : Offset} {os : List Offset} → Trail o os → Once (o ∷ os)
  trail-once (start i) = cons (λ k. Memᴰ.not-nil k) nil
  trail-once (step {o} {os} t j e) = by (trail-once t)
    where
      alone : Once (o ∷ os) → Memᴰ o os → ⊥
      alone (cons f r) k = f k

      twice : Memᴰ (item_of d o).forward (o ∷ os) → Memᴰ o os
      twice k = subst (λ (p : Offset). Memᴰ p os) (next-back d m o j) (trail-back t (item_of d o).forward k (closes-not d first o e))

      by : Once (o ∷ os) → Once ((item_of d o).forward ∷ o ∷ os)
      by r = cons (λ k. alone r (twice k)) r

  trail-below : {o : Offset} {os : List Offset} → Trail o os → (x : Offset) → Memᴰ x (o ∷ os) → x.0 < length d
  trail-below {o} (start i) x k =
      ⊎_elim (λ (q : x ≡ o). rw q (item-below d m o i)) (λ n. absurd (Memᴰ.not-nil n)) (Memᴰ.cases_cons k)
  trail-below (step {o} t j e) x k =
      ⊎_elim (λ (q : x ≡ (item_of d o).forward). rw q (item-below d m (item_of d o).forward (next-item d m o j))) (λ n. trail-below t x n) (Memᴰ.cases_cons k)

  -- fewer were passed than the bins data have bytes
  pub trail-few : {o : Offset} {os : List Offset} → Trail o os → length os < length d
  trail-few {o} {os} t = let p = pigeonhole (length d) (o ∷ os) (trail-once t) (trail-below t) in omega arith

  module _ (ks : List Offset) where
    -- an item that passes its tests
    pub sound-joined : (o : Offset) → item_fault d m ks o ≡ Ok tt → is_joined d m o ≡ true
    unfolding item_fault link_fault
    sound-joined o e = held (is_joined d m o) _ (both (link_fault d m o) _ e).0

    -- one step of the walk
    stepped : (n : ℕ) (o : Offset) → item_fault d m ks o ≡ Ok tt → closes_at d first o ≡ false
        → ring_fault d m ks first (suc n) o ≡ ring_fault d m ks first n (item_of d o).forward
    unfolding ring_fault ◌next◌
    stepped n o s e = rw (s, e)

    ended : (n : ℕ) (o : Offset) → item_fault d m ks o ≡ Ok tt → closes_at d first o ≡ true → ring_fault d m ks first (suc n) o ≡ Ok tt
    unfolding ring_fault ◌next◌
    ended n o s e = rw (s, e)

    stopped : (n : ℕ) (o : Offset) {f : Flaw} → item_fault d m ks o ≡ Err f → ring_fault d m ks first (suc n) o ≡ Err f
    unfolding ring_fault ◌next◌
    stopped n o e = rw e

    -- more steps than are enough make no difference: they never run out
    pub steps-enough : (n k : ℕ) {o : Offset} {os : List Offset} → Trail o os → length d ≤ n + length os
        → ring_fault d m ks first (n + k) o ≡ ring_fault d m ks first n o
    steps-enough zero k t h = let f = trail-few t in absurd (omega arith)
    steps-enough (suc n) k {o} {os} t h =
        let z : suc n + k ≡ suc (n + k) = omega arith in
        rw z (by (item_fault d m ks o) refl (closes_at d first o) refl (λ t'. steps-enough n k t' (omega arith)))
      where
        by : (v : Verdict) → item_fault d m ks o ≡ v → (b : Bool) → closes_at d first o ≡ b
            → (Trail (item_of d o).forward (o ∷ os)
            → ring_fault d m ks first (n + k) (item_of d o).forward ≡ ring_fault d m ks first n (item_of d o).forward)
            → ring_fault d m ks first (suc (n + k)) o ≡ ring_fault d m ks first (suc n) o
        by (Err f) e b q r = stopped (n + k) o e ∙ sym (stopped n o e)
        by (Ok tt) e true q r = ended (n + k) o e q ∙ sym (ended n o e q)
        by (Ok tt) e false q r = stepped (n + k) o e q ∙ r (step t (sound-joined o e) q) ∙ sym (stepped n o e q)

    -- a walk with no fault: the ring closes, no item is met twice, and each passes its tests
    pub record Closes (os xs : List Offset) : Type 0 where
      pub ring : Ring d first xs
      pub once : Once xs
      pub apart : (x : Offset) → Memᴰ x xs → Memᴰ x os → ⊥
      pub each : (x : Offset) → Memᴰ x xs → (is_item d m x ≡ true) × (item_fault d m ks x ≡ Ok tt)

    link : (o : Offset) → is_joined d m o ≡ true → Link d o (item_of d o).forward
    link o j = record { forward = refl; backward = next-back d m o j }

    head-once : {o : Offset} {os : List Offset} → Once (o ∷ os) → Memᴰ o os → ⊥
    head-once (cons f r) k = f k

    ring-last : (n : ℕ) (o : Offset) → closes_at d first o ≡ true → ring_of d first (suc n) o ≡ o ∷ []
    unfolding ring_of
    ring-last n o e = rw e

    ring-next : (n : ℕ) (o : Offset) → closes_at d first o ≡ false → ring_of d first (suc n) o ≡ o ∷ ring_of d first n (item_of d o).forward
    unfolding ring_of
    ring-next n o e = rw e

    last-closes : {o : Offset} {os : List Offset} → Trail o os → item_fault d m ks o ≡ Ok tt → closes_at d first o ≡ true → Closes os (o ∷ [])
    last-closes {o} {os} t s e =
        let j = sound-joined o s in
        record {
          ring = closes (subst (Link d o) (closes-is d first o e) (link o j));
          once = cons (λ k. Memᴰ.not-nil k) nil;
          apart =
              λ x k l.
              ⊎_elim (λ q. head-once (trail-once t) (Memᴰ.cast (sym q) l)) (λ i. Memᴰ.not-nil i) (Memᴰ.cases_cons k);
          each = λ x k. ⊎_elim (λ (q : x ≡ o). rw q (trail-item t, s)) (λ i. absurd (Memᴰ.not-nil i)) (Memᴰ.cases_cons k);
        }

    no-ring : {xs : List Offset} → Ring d first xs → xs ≡ [] → ⊥
    no-ring (closes l) e = let z : ◌≡◌ {A = ℕ} 0 1 = cc in omega arith
    no-ring (goes_on l r) e = let z : ◌≡◌ {A = ℕ} 0 1 = cc in omega arith

    ring-on : (n : ℕ) {o p : Offset} → Link d o p → Ring d first (ring_of d first n p) → Ring d first (o ∷ ring_of d first n p)
    unfolding ring_of
    ring-on zero l r = absurd (no-ring r refl)
    ring-on (suc n) l r = goes_on l r

    more-closes : (n : ℕ) {o : Offset} {os : List Offset} → Trail o os → item_fault d m ks o ≡ Ok tt
        → Closes (o ∷ os) (ring_of d first n (item_of d o).forward) → Closes os (o ∷ ring_of d first n (item_of d o).forward)
    more-closes n {o} {os} t s c =
        record {
          ring = ring-on n (link o (sound-joined o s)) c.ring;
          once = cons (λ k. c.apart o k (Memᴰ.head refl)) c.once;
          apart =
              λ x k l.
              ⊎_elim (λ q. head-once (trail-once t) (Memᴰ.cast (sym q) l)) (λ i. c.apart x i (Memᴰ.tail l)) (Memᴰ.cases_cons k);
          each = λ x k. ⊎_elim (λ (q : x ≡ o). rw q (trail-item t, s)) (λ i. c.each x i) (Memᴰ.cases_cons k);
        }

    pub ring-closes : (n : ℕ) {o : Offset} {os : List Offset} → Trail o os → length d ≤ n + length os → ring_fault d m ks first n o ≡ Ok tt
        → Closes os (ring_of d first n o)
    unfolding ring_fault
    ring-closes zero t h e = let f = trail-few t in absurd (omega arith)
    ring-closes (suc n) {o} {os} t h e =
        let b = both (item_fault d m ks o) _ e in
        by b.0 (closes_at d first o) refl b.1 (λ t' r. ring-closes n t' (omega arith) r)
      where
        by : item_fault d m ks o ≡ Ok tt → (b : Bool) → closes_at d first o ≡ b
            → cond b (Ok tt) (ring_fault d m ks first n (item_of d o).forward) ≡ Ok tt
            → (Trail (item_of d o).forward (o ∷ os) → ring_fault d m ks first n (item_of d o).forward ≡ Ok tt
            → Closes (o ∷ os) (ring_of d first n (item_of d o).forward))
            → Closes os (ring_of d first (suc n) o)
        by s true q r rest = rw (ring-last n o q) (last-closes t s q)
        by s false q r rest = rw (ring-next n o q) (more-closes n t s (rest (step t (sound-joined o s) q) r))

    -- from the first item on
    pub whole-ring : is_item d m first ≡ true → ring_fault d m ks first (ring_steps d) first ≡ Ok tt → Closes [] (ring_of d first (ring_steps d) first)
    whole-ring i e = ring-closes (ring_steps d) (start i) (omega arith) e
