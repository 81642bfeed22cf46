-- `judge` frame by frame: how many turns it is given does not matter, and one step of it.
use Prim.Native.Nat.{ℕ, zero, suc, ◌+◌, ◌<◌, ◌≤◌}
use native.Mathlib.Omega.{arith}
use mathlib.Core.Path.{◌≡◌, refl, sym, ap, ◌∙◌}
use mathlib.Core.Bool.{Bool, true, false}
use mathlib.Core.List.{List, [], ◌∷◌}
use lib.Dec.{eqb}
use lib.ListN.{length, drop, length-drop}
use borrow.Author.Tests.{eq-eqb, ne_eqb, eqb-true, eqb-false}
use Rattle.fields.specs.declared.Flaw.{Flaw}
use Rattle.forest.specs.Faults.{State, frame_len, shape_of, behind, frame_fault, ended, judged, Wrong, judge_n, judge}
use Rattle.std.specs.Prelude.{Err, Ok}

-- a frame has at least its header
pub frame-some : (r : List ℕ) → 6 ≤ frame_len r
unfolding frame_len
frame-some r = omega arith

-- what is left behind a frame is shorter
pub left-shorter : (r : List ℕ) → 0 < length r → length (drop (frame_len r) r) < length r
left-shorter r p = let a = length-drop (frame_len r) r in let b = frame-some r in omega arith

turn-ends : (n : ℕ) (r : List ℕ) (at : ℕ) (st : State) → length r ≡ 0 → judge_n n r at st ≡ ended st at
unfolding judge_n
turn-ends zero r at st e = refl
turn-ends (suc n) r at st e = rw (eq-eqb (length r) 0 e)

turn : (n : ℕ) (r : List ℕ) (at : ℕ) (st : State) → 0 < length r
    → judge_n (suc n) r at st ≡ judged (frame_fault (shape_of r) st) at (judge_n n (drop (frame_len r) r) (at + frame_len r) (behind (shape_of r) st))
unfolding judge_n
turn n r at st p = rw (ne_eqb (length r) 0 (λ e. omega arith))

-- enough turns are enough
pub judge-fuel : (n m : ℕ) (r : List ℕ) (at : ℕ) (st : State) → length r ≤ n → length r ≤ m → judge_n n r at st ≡ judge_n m r at st
judge-fuel zero m r at st p q = turn-ends zero r at st (omega arith) ∙ sym (turn-ends m r at st (omega arith))
judge-fuel (suc n) zero r at st p q = turn-ends (suc n) r at st (omega arith) ∙ sym (turn-ends zero r at st (omega arith))
judge-fuel (suc n) (suc m) r at st p q = by (judge-fuel n m) (eqb (length r) 0) refl
  where
    by : ((u : List ℕ) (a : ℕ) (w : State) → length u ≤ n → length u ≤ m → judge_n n u a w ≡ judge_n m u a w)
        → (t : Bool) → eqb (length r) 0 ≡ t → judge_n (suc n) r at st ≡ judge_n (suc m) r at st
    by rest true e = let z = eqb-true (length r) 0 e in turn-ends (suc n) r at st z ∙ sym (turn-ends (suc m) r at st z)
    by rest false e =
        let some : 0 < length r = omega (arith, eqb-false (length r) 0 e) in
        let s = left-shorter r some in
        turn n r at st some
        ∙ ap (judged (frame_fault (shape_of r) st) at) (rest (drop (frame_len r) r) (at + frame_len r) (behind (shape_of r) st) (omega arith) (omega arith))
        ∙ sym (turn m r at st some)

pub judge-turns : (n : ℕ) (r : List ℕ) (at : ℕ) (st : State) → length r ≤ n → judge_n n r at st ≡ judge r at st
unfolding judge
judge-turns n r at st p = judge-fuel n (length r) r at st p (omega arith)

-- nothing is left
pub judge-end : (r : List ℕ) (at : ℕ) (st : State) → length r ≡ 0 → judge r at st ≡ ended st at
unfolding judge
judge-end r at st e = turn-ends (length r) r at st e

-- a frame is left
pub judge-step : (r : List ℕ) (at : ℕ) (st : State) → 0 < length r
    → judge r at st ≡ judged (frame_fault (shape_of r) st) at (judge (drop (frame_len r) r) (at + frame_len r) (behind (shape_of r) st))
unfolding judge
judge-step [] at st p = absurd (omega arith)
judge-step (x ∷ xs) at st p =
    let r = x ∷ xs in
    let s = left-shorter r p in
    turn (length xs) r at st p
    ∙ ap (judged (frame_fault (shape_of r) st) at) (judge-turns (length xs) (drop (frame_len r) r) (at + frame_len r) (behind (shape_of r) st) (omega arith))

-- it is at fault, or the next one is asked
module _ (r : List ℕ) (at : ℕ) (st : State) (p : 0 < length r) where
  pub judge-stop : {f : Flaw} → frame_fault (shape_of r) st ≡ Err f → judge r at st ≡ Wrong f at
  judge-stop e = judge-step r at st p ∙ rw e

  pub judge-on : frame_fault (shape_of r) st ≡ Ok tt → judge r at st ≡ judge (drop (frame_len r) r) (at + frame_len r) (behind (shape_of r) st)
  judge-on e = judge-step r at st p ∙ rw e
