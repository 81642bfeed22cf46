-- Lists of codes in order: one turn of a comparison, and what follows from it.
use Prim.Native.Nat.{ℕ, ◌<◌}
use native.Mathlib.Omega.{arith}
use mathlib.Core.Path.{◌≡◌, refl, sym, ap, ◌∙◌}
use mathlib.Core.Bool.{Bool, true, false}
use mathlib.Core.List.{List, [], ◌∷◌}
use lib.Dec.{ltb}
use borrow.Author.Tests.{lt-ltb, le-ltb, ltb-true, ltb-false}
use Rattle.names.specs.Comparison.{by_code}
use Rattle.std.specs.declared.cmp.Ordering.{Ordering}
use Rattle.std.specs.declared.cmp.Ordering.TheVariants.{Equal, Greater, Less}

-- two numbers are below, above or equal
pub by_order : {P : Type 0} (x y : ℕ) → (x < y → P) → (y < x → P) → (x ≡ y → P) → P
by_order {P} x y lt gt eq = pick (ltb x y) (ltb y x) refl refl
  where
    pick : (t u : Bool) → ltb x y ≡ t → ltb y x ≡ u → P
    pick true u e f = lt (ltb-true x y e)
    pick false true e f = gt (ltb-true y x f)
    pick false false e f = let a = ltb-false x y e in let b = ltb-false y x f in eq (omega arith)

-- the three answers are apart
pub same-before : {P : Type 0} → Equal ≡ Less → P
same-before e = let z : ◌≡◌ {A = ℕ} 0 1 = cc in absurd (omega arith)

after-before : {P : Type 0} → Greater ≡ Less → P
after-before e = let z : ◌≡◌ {A = ℕ} 0 1 = cc in absurd (omega arith)

before_same : {P : Type 0} → Less ≡ Equal → P
before_same e = same-before (sym e)

after_same : {P : Type 0} → Greater ≡ Equal → P
after_same e = let z : ◌≡◌ {A = ℕ} 0 1 = cc in absurd (omega arith)

-- one turn, at the first two codes
module _ (x y : ℕ) (xs ys : List ℕ) where
  pub below : x < y → by_code (x ∷ xs) (y ∷ ys) ≡ Less
  unfolding by_code
  below h = rw (lt-ltb x y h)

  pub above : y < x → by_code (x ∷ xs) (y ∷ ys) ≡ Greater
  unfolding by_code
  above h = rw (le-ltb x y (omega arith), lt-ltb y x h)

  pub level : x ≡ y → by_code (x ∷ xs) (y ∷ ys) ≡ by_code xs ys
  unfolding by_code
  level e = rw (le-ltb x y (omega arith), le-ltb y x (omega arith))

-- the order seen from the other side
abbrev pub turned : Ordering → Ordering
turned Less = Greater
turned Equal = Equal
turned Greater = Less

pub code_same : (xs : List ℕ) → by_code xs xs ≡ Equal
unfolding by_code
code_same [] = refl
code_same (x ∷ xs) = level x x xs xs refl ∙ code_same xs

pub code-turned : (xs ys : List ℕ) → by_code ys xs ≡ turned (by_code xs ys)
unfolding by_code
code-turned [] [] = refl
code-turned [] (y ∷ ys) = refl
code-turned (x ∷ xs) [] = refl
code-turned (x ∷ xs) (y ∷ ys) =
    by_order x y
    (λ h. above y x ys xs h ∙ ap turned (sym (below x y xs ys h)))
    (λ h. below y x ys xs h ∙ ap turned (sym (above x y xs ys h)))
    (λ e. level y x ys xs (sym e) ∙ code-turned xs ys ∙ ap turned (sym (level x y xs ys e)))

pub code-equal : (xs ys : List ℕ) → by_code xs ys ≡ Equal → xs ≡ ys
unfolding by_code
code-equal [] [] s = refl
code-equal [] (y ∷ ys) s = before_same s
code-equal (x ∷ xs) [] s = after_same s
code-equal (x ∷ xs) (y ∷ ys) s =
    by_order x y
    (λ h. before_same (sym (below x y xs ys h) ∙ s))
    (λ h. after_same (sym (above x y xs ys h) ∙ s))
    (λ e. let t = code-equal xs ys (sym (level x y xs ys e) ∙ s) in cc)

pub code-transitive : (xs ys zs : List ℕ) → by_code xs ys ≡ Less → by_code ys zs ≡ Less → by_code xs zs ≡ Less
unfolding by_code
code-transitive [] [] zs p q = same-before p
code-transitive [] (y ∷ ys) [] p q = after-before q
code-transitive [] (y ∷ ys) (z ∷ zs) p q = refl
code-transitive (x ∷ xs) [] zs p q = after-before p
code-transitive (x ∷ xs) (y ∷ ys) [] p q = after-before q
code-transitive (x ∷ xs) (y ∷ ys) (z ∷ zs) p q =
    by_order y z
    (λ k. by_order x y
    (λ h. below x z xs zs (omega arith))
    (λ h. after-before (sym (above x y xs ys h) ∙ p))
    (λ e. below x z xs zs (omega arith)))
    (λ k. after-before (sym (above y z ys zs k) ∙ q))
    (λ k. by_order x y
    (λ h. below x z xs zs (omega arith))
    (λ h. after-before (sym (above x y xs ys h) ∙ p))
    (λ e. level x z xs zs (e ∙ k) ∙ code-transitive xs ys zs (sym (level x y xs ys e) ∙ p) (sym (level y z ys zs k) ∙ q)))
