-- The algebra of charges, and what holds of every refusal that some tests can answer.
use Prim.Native.Nat.{ℕ}
use native.Mathlib.Omega.{arith}
use mathlib.Core.Path.{◌≡◌, refl, sym}
use Rattle.fields.specs.declared.Flaw.{Flaw}
use Rattle.fields.specs.declared.Offset.{Offset}
use Rattle.fields.specs.declared.Refusal.{Refusal}
use Rattle.fields.specs.Faults.{refusal_of, Because, Verdict}
use Rattle.fields.specs.Charges.{Charge, Free, Of, charge_of, ◌after◌}
use Rattle.fields.proofs.Every.{Every}
use Rattle.std.specs.Prelude.{Err, Ok}

pub both-free : (a b : Charge) → a after b ≡ Free → (a ≡ Free) × (b ≡ Free)
unfolding ◌after◌
both-free Free b e = (refl, e)
both-free (Of f) b e = absurd (let z : ◌≡◌ {A = ℕ} 0 1 = cc in omega arith)

pub free : (a b : Charge) → a ≡ Free → b ≡ Free → a after b ≡ Free
unfolding ◌after◌
free a b p q = rw (p, q)

pub after-assoc : (a b c : Charge) → (a after b) after c ≡ a after b after c
unfolding ◌after◌
after-assoc Free b c = refl
after-assoc (Of f) b c = refl

pub clear_of : (key : Offset) (v : Verdict) → charge_of key v ≡ Free → v ≡ Ok tt
clear_of key (Ok tt) e = refl
clear_of key (Err f) e = absurd (let z : ◌≡◌ {A = ℕ} 0 1 = cc in omega arith)

-- a charge is said for a reason, and for every weaker one
module _ (P Q : Offset → Flaw → Type 0) (weaker : (k : Offset) (f : Flaw) → P k f → Q k f) where
  pub because : {r : Refusal} → Because P r → Because Q r
  because w = (w.0, w.1, w.2, weaker w.0 w.1 w.3)

module _ (P : Offset → Flaw → Type 0) where
  -- a charge, as a flaw
  abbrev pub Charges : Charge → Type 0
  Charges a = (r : Refusal) → a ≡ Of r → Because P r

  pub after-charges : (a b : Charge) → Charges a → (a ≡ Free → Charges b) → Charges (a after b)
  unfolding ◌after◌
  after-charges Free b p q r e = q refl r e
  after-charges (Of g) b p q r e = p r e

  pub flaw-charges : (key : Offset) (v : Verdict) → Every (P key) v → Charges (charge_of key v)
  flaw-charges key (Ok tt) p r e = absurd (let z : ◌≡◌ {A = ℕ} 0 1 = cc in omega arith)
  flaw-charges key (Err f) p r e = (key, f, let z : refusal_of key f ≡ r = cc in sym z, p f refl)
