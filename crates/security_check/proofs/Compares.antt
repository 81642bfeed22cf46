-- The loop that compares the counts of a batch: what is left answers as the whole.
use Rattle.std.proofs.Common.{◌≡◌, ℕ, suc, ◌+◌, ◌-◌, ◌%◌, ◌^◌, ◌<◌, ◌≤◌, true, false, eqb, List, get_or, sym, ap, ◌∙◌, arith, eq-eqb, ne_eqb}
use Rattle.fields.specs.declared.Fault.TheVariants.{Security}
use Rattle.fields.specs.declared.Offset.{Offset}
use Rattle.fields.specs.Faults.{flaw, unless, ◌next◌, Verdict}
use Rattle.security.specs.declared.Item.{Item}
use Rattle.security.specs.Items.{item_of}
use Rattle.security_check.specs.Terms.{row_of, unequal, added_from, summed}
use Rattle.std.specs.Prelude.{Err, Ok}

module _ (d table counts : List ℕ) (n : ℕ) where
  pub record Comparing (sum i : ℕ) : Type 0 where
    pub inside : i ≤ n
    pub fault : unequal d table counts 0 n ≡ unequal d table counts i (n - i)
    pub sums : (sum + added_from counts i (n - i)) % 2 ^ 64 ≡ added_from counts 0 n % 2 ^ 64
    pub small : sum < 2 ^ 64

  step-fault : (i k : ℕ) → n - i ≡ suc k
      → unequal d table counts i (n - i)
      ≡ unless (eqb (item_of d (row_of table i)).count (get_or counts i 0)) (flaw Security (row_of table i)) next unequal d table counts (suc i) k
  unfolding unequal
  step-fault i k e = rw e

  step_sum : (i k : ℕ) → n - i ≡ suc k → added_from counts i (n - i) ≡ get_or counts i 0 + added_from counts (suc i) k
  unfolding added_from
  step_sum i k e = rw e

  module _ {sum i : ℕ} (c : Comparing sum i) where
    pub compare-end : n ≤ i → Ok sum ≡ summed (unequal d table counts 0 n) (added_from counts 0 n)
    unfolding unequal added_from
    compare-end h =
        let z : n - i ≡ 0 = omega arith in
        let s : (sum + added_from counts i (n - i)) % 2 ^ 64 ≡ added_from counts 0 n % 2 ^ 64 = c.sums in
        let y : added_from counts i (n - i) ≡ 0 = ap (added_from counts i) z in
        let t : sum ≡ added_from counts 0 n % 2 ^ 64 = omega (arith, c.small) in
        let f : unequal d table counts 0 n ≡ (Ok tt) = c.fault ∙ ap (unequal d table counts i) z in
        ap (λ (x : ℕ). Ok x) t ∙ sym (ap (λ (v : Verdict). summed v (added_from counts 0 n)) f)

    module _ (l : i < n) {o : Offset} {it : Item} {k : ℕ} (p : o ≡ row_of table i) (q : it ≡ item_of d o) (r : k ≡ get_or counts i 0) where
      says : it.count ≡ (item_of d (row_of table i)).count
      says = ap (λ (x : Item). x.count) q ∙ ap (λ (x : Offset). (item_of d x).count) p

      pub compare-stop : (it.count ≡ k → ⊥) → Err (flaw Security o) ≡ summed (unequal d table counts 0 n) (added_from counts 0 n)
      unfolding ◌next◌
      compare-stop ne =
          let e = c.fault ∙ step-fault i (n - suc i) (omega arith) in
          let f : eqb (item_of d (row_of table i)).count (get_or counts i 0) ≡ false = ne_eqb _ _ (λ z. ne (says ∙ z ∙ sym r)) in
          let g : summed (unequal d table counts 0 n) (added_from counts 0 n) ≡ Err (flaw Security (row_of table i)) = rw (e, f) in
          ap (λ (x : Offset). Err (flaw Security x)) p ∙ sym g

      pub compare-on : it.count ≡ k → Comparing ((sum + k) % 2 ^ 64) (i + 1)
      unfolding ◌next◌
      compare-on eq =
          let y : suc i ≡ i + 1 = omega arith in
          let f : eqb (item_of d (row_of table i)).count (get_or counts i 0) ≡ true = eq-eqb _ _ (sym says ∙ eq ∙ r) in
          let a = step_sum i (n - suc i) (omega arith) in
          let b : added_from counts (suc i) (n - suc i) ≡ added_from counts (i + 1) (n - (i + 1)) = ap (λ (j : ℕ). added_from counts j (n - j)) y in
          let s : (sum + added_from counts i (n - i)) % 2 ^ 64 ≡ added_from counts 0 n % 2 ^ 64 = c.sums in
          record {
            inside = omega arith;
            fault = c.fault ∙ step-fault i (n - suc i) (omega arith) ∙ rw f (ap (λ (j : ℕ). unequal d table counts j (n - j)) y);
            sums = omega arith;
            small = omega arith;
          }
