-- What is held: the first bytes of the hive's room, lent as a part and given back.
use Prim.Native.Nat.{ℕ, ◌-◌, ◌≤◌, min}
use native.Mathlib.Decide.{dec_le}
use native.Mathlib.Nat.{min-eq_left, min-eq_right}
use native.Mathlib.Omega.{arith}
use mathlib.Core.Path.{◌≡◌, refl, sym, ap, ◌∙◌}
use mathlib.Core.Bool.{true}
use mathlib.Core.List.{List, [], ◌++◌, append-nil}
use lib.Dec.{eqb}
use lib.ListN.{length, take, drop, length-append, drop_of_length-le}
use lib.Seq.{length-take-le, take_all, take_at}
use borrow.Author.Tests.{eqb-true}
use Rattle.recovery.specs.declared.Started.TheVariants.{Clean, Pages}
use Rattle.recovery.specs.Calls.{start_answer}
use Rattle.recovery.proofs.Ended.{end-length}
use Rattle.recovery.specs.Finished.{finished}
use Rattle.test_frames.specs.Frames.{repaired_as, repaired_hive}
use Rattle.fields.specs.declared.Refusal.{Refusal}
use Rattle.recovery.specs.declared.Started.{Started}
use Rattle.std.specs.Prelude.{Err, Ok, Result}

-- the part that is lent is what is held
pub lent : (n e : ℕ) (b : List ℕ) → e ≡ min n (length b) → take (e - 0) b ≡ take n b
lent n e b q = go (dec_le n (length b))
  where
    go : Dec (n ≤ length b) → take (e - 0) b ≡ take n b
    go (yes h) = let m : e ≡ n = q ∙ min-eq_left h in let k : e - 0 ≡ n = omega arith in ap (λ (i : ℕ). take i b) k
    go (no h) =
        let g : length b ≤ n = omega arith in
        let m : e ≡ length b = q ∙ min-eq_right g in
        take_all (e - 0) b (omega arith) ∙ sym (take_all n b g)

-- and what comes back is held
pub back : (n e : ℕ) (b x : List ℕ) → e ≡ min n (length b) → length x ≡ length (take (e - 0) b) → take n (x ++ drop (e - 0) b) ≡ x
back n e b x q s = go (dec_le n (length b))
  where
    go : Dec (n ≤ length b) → take n (x ++ drop (e - 0) b) ≡ x
    go (yes h) =
        let m : e ≡ n = q ∙ min-eq_left h in
        let l = length-take-le (e - 0) b (omega arith) in
        take_at x (drop (e - 0) b) n (omega arith)
    go (no h) =
        let g : length b ≤ n = omega arith in
        let m : e ≡ length b = q ∙ min-eq_right g in
        let l = length-take-le (e - 0) b (omega arith) in
        let z : drop (e - 0) b ≡ [] = drop_of_length-le b {i = e - 0} (omega arith) in
        ap (λ (y : List ℕ). take n (x ++ y)) z ∙ ap (take n) (append-nil x) ∙ take_all n x (omega arith)

-- a whole repair, by the start's answer
pub repaired-by : (h l : List ℕ) (a : Result Started Refusal) → start_answer h l ≡ a → repaired_hive h l ≡ repaired_as a (finished h l) h
unfolding repaired_hive
repaired-by h l a e = ap (λ (x : Result Started Refusal). repaired_as x (finished h l) h) e

-- a repair keeps the length, so a repaired part is held whole
repaired-length : (h l : List ℕ) → length (repaired_hive h l) ≡ length h
repaired-length h l = go (start_answer h l) refl
  where
    go : (a : Result Started Refusal) → start_answer h l ≡ a → length (repaired_hive h l) ≡ length h
    go (Ok Clean) e = ap length (repaired-by h l (Ok Clean) e)
    go (Ok (Pages n)) e = ap length (repaired-by h l (Ok (Pages n)) e) ∙ end-length h l n e
    go (Err r) e = ap length (repaired-by h l (Err r) e)

pub repaired-back : (n e : ℕ) (h l x : List ℕ) → e ≡ min n (length h) → x ≡ repaired_hive (take (e - 0) h) l
    → take n (x ++ drop (e - 0) h) ≡ repaired_hive (take n h) l
repaired-back n e h l x q p =
    back n e h x q (ap length p ∙ repaired-length (take (e - 0) h) l) ∙ p ∙ ap (λ (y : List ℕ). repaired_hive y l) (lent n e h q)

-- a payload that is copied to the start of the hive's room is held
pub copied-in : (s x y : List ℕ) → x ≡ s → take (length s) (x ++ y) ≡ s
copied-in s x y e = ap (λ (z : List ℕ). take (length s) (z ++ y)) e ∙ take_at s y (length s) refl

-- a payload that was read to its end fits
pub read_fits : (got n : ℕ) (x y : List ℕ) → got ≤ length x → eqb got n ≡ true → n ≤ length (x ++ y)
read_fits got n x y g t = let e = eqb-true got n t in let m = length-append x y in omega arith
