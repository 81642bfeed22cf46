-- "The first fault in this order answers": the laws of `next`.
use Prim.Native.Nat.{ℕ}
use native.Mathlib.Omega.{arith}
use mathlib.Core.Path.{◌≡◌, refl, ◌∙◌}
use mathlib.Core.Bool.{Bool, true, false, cond}
use Rattle.fields.specs.declared.Flaw.{Flaw}
use Rattle.fields.specs.Faults.{◌next◌, unless, is_sound, Verdict}
use Rattle.std.specs.Prelude.{Err, Ok}

-- a sound test hands on to the next
pub on : (a b : Verdict) → a ≡ Ok tt → a next b ≡ b
unfolding ◌next◌
on a b e = rw e

-- a flaw answers for all that follows
pub stop : (a b : Verdict) {f : Flaw} → a ≡ Err f → a next b ≡ Err f
unfolding ◌next◌
stop a b e = rw e

pub both : (a b : Verdict) → a next b ≡ Ok tt → (a ≡ Ok tt) × (b ≡ Ok tt)
unfolding ◌next◌
both (Ok tt) b e = (refl, e)
both (Err f) b e = absurd (let z : ◌≡◌ {A = ℕ} 0 1 = cc in omega arith)

pub sound : (a b : Verdict) → a ≡ Ok tt → b ≡ Ok tt → a next b ≡ Ok tt
sound a b p q = on a b p ∙ q

-- a test is sound exactly when it holds
pub held : (t : Bool) (f : Flaw) → unless t f ≡ Ok tt → t ≡ true
held true f e = refl
held false f e = absurd (let z : ◌≡◌ {A = ℕ} 0 1 = cc in omega arith)

pub holds : {t : Bool} (f : Flaw) → t ≡ true → unless t f ≡ Ok tt
holds f e = rw e

pub fails : {t : Bool} (f : Flaw) → t ≡ false → unless t f ≡ Err f
fails f e = rw e

-- a test that stands first, as code asks it
pub unless_next : (t : Bool) (f : Flaw) (b : Verdict) → unless t f next b ≡ cond t b (Err f)
unfolding ◌next◌
unless_next true f b = refl
unless_next false f b = refl

-- what was found is nothing
pub is-sound : (v : Verdict) → is_sound v ≡ true → v ≡ Ok tt
is-sound (Ok tt) e = refl
is-sound (Err f) e = absurd (let z : ◌≡◌ {A = ℕ} 0 1 = cc in omega arith)
