-- The loop over the batches: what is left of the ring answers as the whole.
use Rattle.std.proofs.Common.{◌≡◌, ℕ, zero, suc, ◌+◌, ◌-◌, ◌%◌, ◌^◌, ◌<◌, ◌≤◌, Bool, true, false, cond, List, [], ◌∷◌, ◌++◌, length, sym, refl, ap, ◌∙◌, subst, arith}
use Rattle.fields.specs.declared.Fault.TheVariants.{Security}
use Rattle.fields.specs.declared.Flaw.{Flaw}
use Rattle.fields.specs.declared.Offset.{Offset}
use Rattle.fields.specs.Faults.{flaw, ◌next◌, fault_over, Verdict}
use Rattle.fields.proofs.Firsts.{both, held}
use Rattle.records.specs.Listed.{Once}
use Rattle.security.specs.declared.Batch.{Batch}
use Rattle.security.specs.declared.Batch.TheVariants.{Closed, Broken, More}
use Rattle.security.specs.Items.{is_item, item_of, is_joined, link_fault, count_fault, item_fault, closes_at, ring_fault, ring_of, ring_steps}
use Rattle.security.specs.Terms.{along, gathered, taken}
use Rattle.security.proofs.Ring.{Trail, start, trail-few}
use Rattle.security_check.specs.declared.Turn.TheVariants as turn
use Rattle.security_check.specs.Terms.{summed, sum_over, turn_by, turned}
use Rattle.security_check.proofs.Turns.{onto, length-onto, Went, went, items, items-count, taken-along, items-once, went-trail, rest_fault, rest_ring, went-fault, went-ring}
use Rattle.std.specs.Prelude.{Err, Ok}

sum-onto : (d : List ℕ) (ks xs os : List Offset) → sum_over d ks (onto xs os) ≡ sum_over d ks xs + sum_over d ks os
unfolding onto sum_over
sum-onto d ks [] os = omega arith
sum-onto d ks (x ∷ xs) os = let h = sum-onto d ks xs (x ∷ os) in omega arith

sum-append : (d : List ℕ) (ks xs os : List Offset) → sum_over d ks (xs ++ os) ≡ sum_over d ks xs + sum_over d ks os
unfolding sum_over
sum-append d ks [] os = omega arith
sum-append d ks (x ∷ xs) os = let h = sum-append d ks xs os in omega arith

-- a batch that is full took as many as there was room for
more-all : (d m : List ℕ) (first : Offset) (room n : ℕ) (o : Offset) {k : ℕ} {p : Offset} → gathered d m first room n o ≡ More k p → k ≡ n + room
unfolding gathered
more-all d m first zero n o {k} {p} e = let z : n ≡ k = cc in omega arith
more-all d m first (suc room) n o {k} {p} e = by (more-all d m first room (suc n) (item_of d o).forward) (is_joined d m o) (closes_at d first o) e
  where
    by : (gathered d m first room (suc n) (item_of d o).forward ≡ More k p → k ≡ suc n + room) → (j c : Bool)
        → cond j (cond c (Closed (suc n)) (gathered d m first room (suc n) (item_of d o).forward)) (Broken n o) ≡ More k p → k ≡ n + suc room
    by h false c q = absurd (let z : ◌≡◌ {A = ℕ} 0 1 = cc in omega arith)
    by h true true q = absurd (let z : ◌≡◌ {A = ℕ} 0 1 = cc in omega arith)
    by h true false q = let z = h q in omega arith

module _ (d m : List ℕ) (ks : List Offset) (first : Offset) where
  -- at an item, with so many met before it and their counts added
  pub record Round (from : Offset) (sum met : ℕ) : Type 0 where
    pub passed : List Offset
    pub count : met ≡ length passed
    pub trail : Trail d m first from passed
    pub fault : ring_fault d m ks first (ring_steps d) first ≡ ring_fault d m ks first (length d - met) from
    pub ring : sum_over d ks (ring_of d first (ring_steps d) first) ≡ sum_over d ks passed + sum_over d ks (ring_of d first (length d - met) from)
    pub sum_is : sum ≡ sum_over d ks passed % 2 ^ 64

  pub round-start : is_item d m first ≡ true → Round first 0 0
  unfolding sum_over
  round-start i =
      let z : length d ≡ length d - 0 = omega arith in
      let s = ap (λ (k : ℕ). sum_over d ks (ring_of d first k first)) z in
      record { passed = []; count = refl; trail = start i; fault = ap (λ (k : ℕ). ring_fault d m ks first k first) z; ring = omega arith; sum_is = refl }

  module _ {from : Offset} {sum met : ℕ} (r : Round from sum met) where
    pub round-few : met < length d
    round-few = let h = trail-few d m first r.trail in omega (arith, r.count)

    pub round-over : length d ≤ met → Ok sum ≡ summed (ring_fault d m ks first (ring_steps d) first) (sum_over d ks (ring_of d first (ring_steps d) first))
    round-over h = absurd (let z = round-few in omega arith)

    module _ (room : ℕ) where
      b : Batch
      b = gathered d m first room 0 from

      w : Went d m first from 0 b
      unfolding b
      w = went d m first room 0 from

      took : List Offset
      took = items d m first w

      left : ℕ
      left = length d - met

      enough : left + length r.passed ≡ length d
      unfolding left
      enough = let h = round-few in omega (arith, r.count)

      b-is : b ≡ gathered d m first room 0 from
      unfolding b
      b-is = refl

      took-count : length took ≡ taken b
      unfolding took
      took-count = let h = items-count d m first w in omega arith

      took-is : along d (taken (gathered d m first room 0 from)) from ≡ took
      unfolding took b
      took-is = taken-along d m first w

      pub round-once : Once (along d (taken (gathered d m first room 0 from)) from)
      unfolding took
      round-once = subst (λ (l : List Offset). Once l) (sym took-is) (items-once d m first w r.trail)

      trail-next : {k : ℕ} {x : Offset} → b ≡ More k x → Trail d m first x (onto took r.passed)
      unfolding took
      trail-next q = went-trail d m first w r.trail q

      left-next : length took ≡ room → left - length took ≡ length d - (met + room)
      unfolding left
      left-next c = omega arith

      split-fault : ring_fault d m ks first (ring_steps d) first ≡ fault_over (count_fault d ks) took next rest_fault d m first ks (left - length took) b
      unfolding left took
      split-fault = r.fault ∙ went-fault d m first ks w (length d - met) r.trail enough

      split-sum : sum_over d ks (ring_of d first (ring_steps d) first)
          ≡ sum_over d ks r.passed + (sum_over d ks took + sum_over d ks (rest_ring d m first (left - length took) b))
      unfolding left took
      split-sum =
          r.ring
          ∙ ap (λ (l : List Offset). sum_over d ks r.passed + sum_over d ks l) (went-ring d m first w (length d - met) r.trail enough)
          ∙ ap (λ (n : ℕ). sum_over d ks r.passed + n) (sum-append d ks (items d m first w) _)

      turn_is : turned d m ks first room from ≡ turn_by (summed (fault_over (count_fault d ks) took) (sum_over d ks took)) b
      unfolding turned b
      turn_is = rw took-is

      pub round-flawed : {f : Flaw} → turned d m ks first room from ≡ Err f
          → Err f ≡ summed (ring_fault d m ks first (ring_steps d) first) (sum_over d ks (ring_of d first (ring_steps d) first))
      unfolding rest_fault ◌next◌
      round-flawed {f} e = by (fault_over (count_fault d ks) took) refl b refl (sym turn_is ∙ e)
        where
          by : (v : Verdict) → fault_over (count_fault d ks) took ≡ v → (a : Batch) → b ≡ a → turn_by (summed v (sum_over d ks took)) a ≡ Err f
              → Err f ≡ summed (ring_fault d m ks first (ring_steps d) first) (sum_over d ks (ring_of d first (ring_steps d) first))
          by (Err g) p a q t = let z : f ≡ g = cc in ap (λ (x : Flaw). Err x) z ∙ sym (rw (split-fault, p))
          by (Ok tt) p (Closed k) q t = absurd (let z : ◌≡◌ {A = ℕ} 0 1 = cc in omega arith)
          by (Ok tt) p (Broken k o) q t =
              let z : f ≡ flaw Security o = cc in
              let g : summed (ring_fault d m ks first (ring_steps d) first) (sum_over d ks (ring_of d first (ring_steps d) first)) ≡ Err (flaw Security o)
              = rw (split-fault, p, q) in
              ap (λ (x : Flaw). Err x) z ∙ sym g
          by (Ok tt) p (More k o) q t = absurd (let z : ◌≡◌ {A = ℕ} 0 1 = cc in omega arith)

      add : (a s t : ℕ) → a ≡ s % 2 ^ 64 → (a + t % 2 ^ 64) % 2 ^ 64 ≡ (s + t) % 2 ^ 64
      add a s t e = rw e (omega arith)

      pub round-ended : {n : ℕ} → turned d m ks first room from ≡ Ok (turn.Ended n)
          → Ok ((sum + n) % 2 ^ 64) ≡ summed (ring_fault d m ks first (ring_steps d) first) (sum_over d ks (ring_of d first (ring_steps d) first))
      unfolding rest_fault rest_ring ◌next◌ sum_over
      round-ended {n} e = by (fault_over (count_fault d ks) took) refl b refl (sym turn_is ∙ e)
        where
          by : (v : Verdict) → fault_over (count_fault d ks) took ≡ v → (a : Batch) → b ≡ a → turn_by (summed v (sum_over d ks took)) a ≡ Ok (turn.Ended n)
              → Ok ((sum + n) % 2 ^ 64) ≡ summed (ring_fault d m ks first (ring_steps d) first) (sum_over d ks (ring_of d first (ring_steps d) first))
          by (Err g) p a q t = absurd (let z : ◌≡◌ {A = ℕ} 0 1 = cc in omega arith)
          by (Ok tt) p (Closed k) q t =
              let z : sum_over d ks took % 2 ^ 64 ≡ n = cc in
              let s : sum_over d ks (ring_of d first (ring_steps d) first) ≡ sum_over d ks r.passed + sum_over d ks took = split-sum ∙ rw q (omega arith) in
              let g : summed (ring_fault d m ks first (ring_steps d) first) (sum_over d ks (ring_of d first (ring_steps d) first))
              ≡ Ok ((sum_over d ks r.passed + sum_over d ks took) % 2 ^ 64) = rw (split-fault, p, q, s) in
              ap (λ (i : ℕ). Ok ((sum + i) % 2 ^ 64)) (sym z)
              ∙ ap (λ (i : ℕ). Ok i) (add sum (sum_over d ks r.passed) (sum_over d ks took) r.sum_is)
              ∙ sym g
          by (Ok tt) p (Broken k o) q t = absurd (let z : ◌≡◌ {A = ℕ} 0 1 = cc in omega arith)
          by (Ok tt) p (More k o) q t = absurd (let z : ◌≡◌ {A = ℕ} 0 1 = cc in omega arith)

      pub round-next : {n : ℕ} {o : Offset} → turned d m ks first room from ≡ Ok (turn.Next n o) → Round o ((sum + n) % 2 ^ 64) (met + room)
      unfolding rest_fault rest_ring ◌next◌
      round-next {n} {o} e = by (fault_over (count_fault d ks) took) refl b refl (sym turn_is ∙ e)
        where
          swap : (s t : ℕ) → (s + t) % 2 ^ 64 ≡ (t + s) % 2 ^ 64
          swap s t = ap (λ (n : ℕ). n % 2 ^ 64) (let u : s + t ≡ t + s = omega arith in u)

          by : (v : Verdict) → fault_over (count_fault d ks) took ≡ v → (a : Batch) → b ≡ a → turn_by (summed v (sum_over d ks took)) a ≡ Ok (turn.Next n o)
              → Round o ((sum + n) % 2 ^ 64) (met + room)
          by (Err g) p a q t = absurd (let z : ◌≡◌ {A = ℕ} 0 1 = cc in omega arith)
          by (Ok tt) p (Closed k) q t = absurd (let z : ◌≡◌ {A = ℕ} 0 1 = cc in omega arith)
          by (Ok tt) p (Broken k x) q t = absurd (let z : ◌≡◌ {A = ℕ} 0 1 = cc in omega arith)
          by (Ok tt) p (More k x) q t =
              let z : sum_over d ks took % 2 ^ 64 ≡ n = cc in
              let y : x ≡ o = cc in
              let k-is = more-all d m first room 0 from (sym b-is ∙ q) in
              let c : length took ≡ room = took-count ∙ ap taken q ∙ (let u : k ≡ room = omega arith in u) in
              let l = left-next c in
              record {
                passed = onto took r.passed;
                count = (let u = length-onto took r.passed in omega (arith, r.count));
                trail = subst (λ (i : Offset). Trail d m first i (onto took r.passed)) y (trail-next q);
                fault = split-fault ∙ rw (p, q, l, y);
                ring = split-sum ∙ rw (q, l, y) (let u = sum-onto d ks took r.passed in omega arith);
                sum_is =
                    ap (λ (i : ℕ). (sum + i) % 2 ^ 64) (sym z)
                    ∙ add sum (sum_over d ks r.passed) (sum_over d ks took) r.sum_is
                    ∙ swap (sum_over d ks r.passed) (sum_over d ks took)
                    ∙ ap (λ (i : ℕ). i % 2 ^ 64) (sym (sum-onto d ks took r.passed));
              }

-- ---- a ring whose items are all sound

module _ (d m : List ℕ) (ks : List Offset) (first : Offset) where
  -- at one item of it
  pub record Sounds (f : ℕ) (o : Offset) : Type 0 where
    pub goes : is_joined d m o ≡ true
    pub rest : closes_at d first o ≡ false → ring_fault d m ks first f (item_of d o).forward ≡ Ok tt

  pub ring-on : (f : ℕ) (o : Offset) → ring_fault d m ks first (suc f) o ≡ Ok tt → Sounds f o
  unfolding ring_fault item_fault link_fault
  ring-on f o e =
      let p = both (item_fault d m ks o) _ e in
      let q = both (link_fault d m o) _ p.0 in
      record { goes = held (is_joined d m o) (flaw Security o) q.0; rest = λ c. rw c at p.1 }
