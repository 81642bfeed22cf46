-- Of one frame the lowest number answers.
use Prim.Native.Nat.{ℕ, ◌≤◌}
use native.Mathlib.Omega.{arith}
use mathlib.Core.Path.{◌≡◌, refl, ap, ◌∙◌}
use mathlib.Core.Logic.{⊎_elim}
use mathlib.Core.Bool.{Bool, true, false}
use mathlib.Core.List.Memᴰ
use mathlib.Core.List.{List, [], ◌∷◌, Memᴰ}
use Rattle.fields.specs.declared.Fault.{Fault}
use Rattle.fields.specs.declared.Flaw.{Flaw}
use Rattle.fields.specs.Faults.{number_of, flaw, nowhere, unless, ◌next◌, Verdict}
use Rattle.forest.specs.Faults.{Shape, State, frame_fault}
use Rattle.forest.specs.First.{Test, tests, Lowest}
use Rattle.std.specs.Prelude.{Err, Ok}

-- the first of some tests to fail
first_of : List Test → Verdict
first_of [] = Ok tt
first_of (t ∷ ts) = unless t.passes (flaw t.cause nowhere) next first_of ts

next-sound : (a : Verdict) → a next (Ok tt) ≡ a
unfolding ◌next◌
next-sound (Ok tt) = refl
next-sound (Err f) = refl

as-tests : (f : Shape) (st : State) → first_of (tests f st) ≡ frame_fault f st
unfolding frame_fault tests first_of
as-tests f st = simp next-sound

-- numbers that do not fall
abbrev Rising : ℕ → List Test → Type 0
Rising n [] = Unit {0}
Rising n (t ∷ ts) = (n ≤ number_of t.cause) × Rising (number_of t.cause) ts

rising-all : (n : ℕ) (ts : List Test) → Rising n ts → (t : Test) → Memᴰ t ts → n ≤ number_of t.cause
rising-all n [] r t m = absurd (Memᴰ.not-nil m)
rising-all n (u ∷ ts) r t m =
    let p = r.0 in
    ⊎_elim (λ (e : t ≡ u). let z = ap (λ (w : Test). number_of w.cause) e in omega arith)
    (λ i. let z = rising-all (number_of u.cause) ts r.1 t i in omega arith) (Memᴰ.cases_cons m)

tests-rising : (f : Shape) (st : State) → Rising 30 (tests f st)
unfolding tests
tests-rising f st = omega arith

lowest : (n : ℕ) (ts : List Test) → Rising n ts → (f : Flaw) → first_of ts ≡ Err f → Lowest ts f.fault
unfolding first_of ◌next◌
lowest n [] r f e = absurd (let z : ◌≡◌ {A = ℕ} 0 1 = cc in omega arith)
lowest n (t ∷ ts) r f e = by (lowest (number_of t.cause) ts r.1 f) t.passes refl e
  where
    by : (first_of ts ≡ Err f → Lowest ts f.fault) → (b : Bool) → t.passes ≡ b → unless b (flaw t.cause nowhere) next first_of ts ≡ Err f
        → Lowest (t ∷ ts) f.fault
    by rest true g e =
        let l = rest e in
        let w = l.fails in
        record {
          fails = (w.0, Memᴰ.tail w.1, w.2, w.3);
          lower = λ u m h. ⊎_elim (λ (i : u ≡ t). ap (λ (x : Test). x.passes) i ∙ g) (λ i. l.lower u i h) (Memᴰ.cases_cons m);
        }
    by rest false g e =
        let same : flaw t.cause nowhere ≡ f = cc in
        let number = ap (λ (x : Flaw). number_of x.fault) same in
        record {
          fails = (t, Memᴰ.head refl, ap (λ (x : Flaw). x.fault) same, g);
          lower = λ u m h. absurd (let z : number_of t.cause ≤ number_of u.cause = rising-all (number_of t.cause) (t ∷ ts) (omega arith, r.1) u m in omega arith);
        }

pub flawed-lowest : (f : Shape) (st : State) (g : Flaw) → frame_fault f st ≡ Err g → Lowest (tests f st) g.fault
flawed-lowest f st g e = lowest 30 (tests f st) (tests-rising f st) g (as-tests f st ∙ e)

-- the numbers of a stream's faults: 30 to 38
abbrev Highest : List Test → Type 0
Highest [] = Unit {0}
Highest (t ∷ ts) = (number_of t.cause ≤ 38) × Highest ts

highest-all : (ts : List Test) → Highest ts → (t : Test) → Memᴰ t ts → number_of t.cause ≤ 38
highest-all [] r t m = absurd (Memᴰ.not-nil m)
highest-all (u ∷ ts) r t m =
    let p = r.0 in
    ⊎_elim (λ (e : t ≡ u). let z = ap (λ (w : Test). number_of w.cause) e in omega arith) (highest-all ts r.1 t) (Memᴰ.cases_cons m)

tests-highest : (f : Shape) (st : State) → Highest (tests f st)
unfolding tests
tests-highest f st = omega arith

pub lowest-number : (f : Shape) (st : State) {c : Fault} → Lowest (tests f st) c → (30 ≤ number_of c) × (number_of c ≤ 38)
lowest-number f st l =
    let w = l.fails in
    let a = rising-all 30 (tests f st) (tests-rising f st) w.0 w.1 in
    let b = highest-all (tests f st) (tests-highest f st) w.0 w.1 in
    let e = ap number_of w.2 in
    (omega arith, omega arith)
