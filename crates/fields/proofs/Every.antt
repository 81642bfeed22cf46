-- What holds of every flaw that some tests can answer: each test of a row is asked only where those before it are sound.
use Prim.Native.Nat.{ℕ}
use native.Mathlib.Omega.{arith}
use mathlib.Core.Path.{◌≡◌, refl, subst}
use mathlib.Core.Bool.{Bool, true, false, cond}
use mathlib.Core.List.{List, [], ◌∷◌, Memᴰ}
use Rattle.fields.specs.declared.Flaw.{Flaw}
use Rattle.fields.specs.Faults.{◌next◌, unless, fault_over, Verdict}
use Rattle.std.specs.Prelude.{Err, Ok}

module _ (P : Flaw → Type 0) where
  abbrev pub Every : Verdict → Type 0
  Every v = (f : Flaw) → v ≡ Err f → P f

  pub every-sound : Every (Ok tt)
  every-sound f e = absurd (let z : ◌≡◌ {A = ℕ} 0 1 = cc in omega arith)

  pub every-flaw : {g : Flaw} → P g → Every (Err g)
  every-flaw {g} p f e = let q : g ≡ f = cc in subst P q p

  pub every-unless : (t : Bool) (g : Flaw) → (t ≡ false → P g) → Every (unless t g)
  every-unless true g p = every-sound
  every-unless false g p = every-flaw (p refl)

  pub every-next : (a b : Verdict) → Every a → (a ≡ Ok tt → Every b) → Every (a next b)
  unfolding ◌next◌
  every-next (Ok tt) b p q = q refl
  every-next (Err g) b p q = p

  pub every-cond : (t : Bool) (a b : Verdict) → (t ≡ true → Every a) → (t ≡ false → Every b) → Every (cond t a b)
  every-cond true a b p q = p refl
  every-cond false a b p q = q refl

  pub every-over : {A : Type 0} (each : A → Verdict) (xs : List A) → ((x : A) → Memᴰ x xs → Every (each x)) → Every (fault_over each xs)
  unfolding fault_over
  every-over each [] p = every-sound
  every-over each (x ∷ xs) p =
      every-next (each x) (fault_over each xs) (p x (Memᴰ.head refl)) (λ s. every-over each xs (λ y i. p y (Memᴰ.tail i)))
