-- The parts of a key's charge, and what an answer says of a charge.
use Rattle.std.proofs.Common.{◌≡◌, ℕ, zero, suc, List, refl, arith}
use Rattle.fields.specs.declared.Refusal.{Refusal}
use Rattle.fields.specs.Charges.{Charge, Free, Of, charge_of}
use Rattle.fields.proofs.Firsts.{both}
use Rattle.fields.proofs.Charges.{both-free, free, clear_of}
use Rattle.cells.specs.Rule.{Map}
use Rattle.records.specs.declared.Child.{Child}
use Rattle.records.specs.declared.Key.{Key}
use Rattle.records.specs.Keys.{key_fault, key_of}
use Rattle.records.specs.Lists.{children, lists_fault}
use Rattle.values.specs.Lists.{values_fault}
use Rattle.namesakes.specs.Namesakes.{namesake_fault}
use Rattle.tree.specs.declared.Hive.{Hive}
use Rattle.tree.specs.declared.Report.{Report}
use Rattle.tree.specs.declared.Arrival.{Arrival}
use Rattle.tree.specs.declared.Arrival.TheVariants.{First}
use Rattle.tree.specs.Tree.{holder, place_fault, hash_fault, hint_fault, beside_fault, level_fault, total_fault, rest_fault, own_fault, key_charge, list_charge, tree_charge, answer}
use Rattle.std.specs.Prelude.{Err, Ok}

-- an answer is a refusal exactly when there is a charge
pub accepted-free : (c : Charge) (r : Report) {s : Report} → answer c r ≡ Ok s → (c ≡ Free) × (r ≡ s)
accepted-free Free r e = (refl, cc)
accepted-free (Of f) r e = absurd (let z : ◌≡◌ {A = ℕ} 0 1 = cc in omega arith)

pub refused-charge : (a : Charge) (r : Report) {f : Refusal} → answer a r ≡ Err f → a ≡ Of f
refused-charge Free r e = absurd (let z : ◌≡◌ {A = ℕ} 0 1 = cc in omega arith)
refused-charge (Of g) r e = cc

-- what a key's own tests say, part by part
pub record Own (d m : List ℕ) (hive : Hive) (n : ℕ) (k : Key) (c : Child) (l : Arrival) : Type 0 where
  pub place : place_fault d hive.root k c.at l ≡ Ok tt
  pub hash : hash_fault d k c ≡ Ok tt
  pub hint : hint_fault d k c ≡ Ok tt
  pub level : level_fault n c.at ≡ Ok tt
  pub values : values_fault Map d m hive.minor k ≡ Ok tt
  pub names : namesake_fault d k ≡ Ok tt
  pub lists : lists_fault Map d m k ≡ Ok tt
  pub total : total_fault d k c.at ≡ Ok tt

module _ (d m : List ℕ) (hive : Hive) where
  pub own-parts : (n : ℕ) (k : Key) (c : Child) (l : Arrival) → own_fault d m hive n k c l ≡ Ok tt → Own d m hive n k c l
  unfolding own_fault beside_fault rest_fault
  own-parts n k c l e =
      let p = both (place_fault d hive.root k c.at l) _ e in
      let b = both (beside_fault d k c) _ p.1 in
      let h = both (hash_fault d k c) _ b.0 in
      let v = both (level_fault n c.at) _ b.1 in
      let x = both (values_fault Map d m hive.minor k) _ v.1 in
      let s = both (namesake_fault d k) _ x.1 in
      let y = both (lists_fault Map d m k) _ s.1 in
      record { place = p.0; hash = h.0; hint = h.1; level = v.0; values = x.0; names = s.0; lists = y.0; total = y.1 }

  -- with no level left some charge stands
  pub level-zero : (c : Child) → level_fault 0 c.at ≡ Ok tt → ⊥
  unfolding level_fault
  level-zero c e = let z : ◌≡◌ {A = ℕ} 0 1 = cc in omega arith

  pub key-parts : (n : ℕ) (c : Child) (l : Arrival) → key_charge d m hive n c l ≡ Free
      → (key_fault Map d m c.at ≡ Ok tt) × Own d m hive n (key_of d c.at) c l
  unfolding key_charge
  key-parts n c l e =
      let x = both-free (charge_of (holder l) (key_fault Map d m c.at)) _ e in
      (clear_of (holder l) _ x.0, own-parts n (key_of d c.at) c l (clear_of c.at _ x.1))

  pub key-zero : (c : Child) (l : Arrival) → key_charge d m hive 0 c l ≡ Free → ⊥
  key-zero c l e = level-zero c (key-parts 0 c l e).1.level

  pub key-free : (n : ℕ) (c : Child) (l : Arrival) → tree_charge d m hive n c l ≡ Free → key_charge d m hive n c l ≡ Free
  unfolding tree_charge
  key-free zero c l e = e
  key-free (suc n) c l e = (both-free _ _ e).0

  pub lists-free : (n : ℕ) (c : Child) (l : Arrival) → tree_charge d m hive (suc n) c l ≡ Free
      → list_charge (tree_charge d m hive n) c.at (First c.at) (children d c.at) ≡ Free
  unfolding tree_charge
  lists-free n c l e = (both-free (key_charge d m hive (suc n) c l) _ e).1

  pub tree_free : (n : ℕ) (c : Child) (l : Arrival) → key_charge d m hive (suc n) c l ≡ Free
      → list_charge (tree_charge d m hive n) c.at (First c.at) (children d c.at) ≡ Free → tree_charge d m hive (suc n) c l ≡ Free
  unfolding tree_charge
  tree_free n c l p q = free _ _ p q
