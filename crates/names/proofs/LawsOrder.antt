-- The order of names: irreflexive, transitive, total; two names are the same when their upper-cased lists are equal.
use Prim.Native.Nat.{ℕ}
use native.Mathlib.Omega.{arith}
use mathlib.Core.Path.{◌≡◌, refl, sym, ap, ◌∙◌}
use mathlib.Core.Bool.{Bool, true, false}
use mathlib.Core.List.{List}
use lib.ListN.{length}
use Rattle.names.specs.Upper_case.{uppers}
use Rattle.names.specs.Comparison.{compare, is_same, same_name}
use Rattle.names.proofs.LawsUpper.{uppers-length}
use Rattle.names.proofs.By_code.{same-before, turned, code_same, code-turned, code-equal, code-transitive}
use Rattle.std.specs.Ordering.{is_eq}
use Rattle.std.specs.declared.cmp.Ordering.{Ordering}
use Rattle.std.specs.declared.cmp.Ordering.TheVariants.{Equal, Greater, Less}

-- two names are the same exactly when their upper-cased lists are equal
pub same-uppers : (xs ys : List ℕ) → compare xs ys ≡ Equal → uppers xs ≡ uppers ys
unfolding compare
same-uppers xs ys s = code-equal (uppers xs) (uppers ys) s

uppers-same : (xs ys : List ℕ) → uppers xs ≡ uppers ys → compare xs ys ≡ Equal
unfolding compare
uppers-same xs ys e = rw e (code_same (uppers ys))

-- so to be the same name is an equivalence
pub same-reflexive : (xs : List ℕ) → compare xs xs ≡ Equal
same-reflexive xs = uppers-same xs xs refl

pub same-symmetric : (xs ys : List ℕ) → compare xs ys ≡ Equal → compare ys xs ≡ Equal
same-symmetric xs ys s = uppers-same ys xs (sym (same-uppers xs ys s))

pub same-transitive : (xs ys zs : List ℕ) → compare xs ys ≡ Equal → compare ys zs ≡ Equal → compare xs zs ≡ Equal
same-transitive xs ys zs s t = uppers-same xs zs (same-uppers xs ys s ∙ same-uppers ys zs t)

-- which the order respects on either side
pub same_left : (xs ys zs : List ℕ) → compare xs ys ≡ Equal → compare xs zs ≡ compare ys zs
unfolding compare
same_left xs ys zs s = rw (code-equal (uppers xs) (uppers ys) s)

pub same-right : (xs ys zs : List ℕ) → compare xs ys ≡ Equal → compare zs xs ≡ compare zs ys
unfolding compare
same-right xs ys zs s = rw (code-equal (uppers xs) (uppers ys) s)

pub irreflexive : (xs : List ℕ) → compare xs xs ≡ Less → ⊥
irreflexive xs b = same-before (sym (same-reflexive xs) ∙ b)

pub transitive : (xs ys zs : List ℕ) → compare xs ys ≡ Less → compare ys zs ≡ Less → compare xs zs ≡ Less
unfolding compare
transitive xs ys zs = code-transitive (uppers xs) (uppers ys) (uppers zs)

-- the other way round `Before` and `After` change places
compare-turned : (xs ys : List ℕ) → compare ys xs ≡ turned (compare xs ys)
unfolding compare
compare-turned xs ys = code-turned (uppers xs) (uppers ys)

pub after-turned : (xs ys : List ℕ) → compare xs ys ≡ Greater → compare ys xs ≡ Less
after-turned xs ys a = compare-turned xs ys ∙ ap turned a

pub before-turned : (xs ys : List ℕ) → compare xs ys ≡ Less → compare ys xs ≡ Greater
before-turned xs ys b = compare-turned xs ys ∙ ap turned b

-- total: of two names one is below the other, or they are the same
pub data Ordered (xs ys : List ℕ) : Type 0 where
  below-it : compare xs ys ≡ Less → Ordered xs ys
  same-as-it : compare xs ys ≡ Equal → Ordered xs ys
  above-it : compare ys xs ≡ Less → Ordered xs ys

pub total : (xs ys : List ℕ) → Ordered xs ys
total xs ys = pick (compare xs ys) refl
  where
    pick : (o : Ordering) → compare xs ys ≡ o → Ordered xs ys
    pick Less e = below-it e
    pick Equal e = same-as-it e
    pick Greater e = above-it (after-turned xs ys e)

-- `same_name` says it as a Bool
pub name-same : (xs ys : List ℕ) → compare xs ys ≡ Equal → same_name xs ys ≡ true
unfolding same_name
name-same xs ys s = rw s

pub same-name : (xs ys : List ℕ) → same_name xs ys ≡ true → compare xs ys ≡ Equal
unfolding same_name
same-name xs ys = pick (compare xs ys)
  where
    pick : (o : Ordering) → is_same o ≡ true → o ≡ Equal
    pick Less e = let z : ◌≡◌ {A = ℕ} 0 1 = cc in absurd (omega arith)
    pick Equal e = refl
    pick Greater e = let z : ◌≡◌ {A = ℕ} 0 1 = cc in absurd (omega arith)

-- names that are the same have as many characters
pub same_length : (xs ys : List ℕ) → compare xs ys ≡ Equal → length xs ≡ length ys
same_length xs ys s = sym (uppers-length xs) ∙ ap length (same-uppers xs ys s) ∙ uppers-length ys

pub unequal-length : (xs ys : List ℕ) → (length xs ≡ length ys → ⊥) → same_name xs ys ≡ false
unequal-length xs ys n = pick (same_name xs ys) refl
  where
    pick : (t : Bool) → same_name xs ys ≡ t → same_name xs ys ≡ false
    pick true e = absurd (n (same_length xs ys (same-name xs ys e)))
    pick false e = e

-- std's word for the same answer
pub is_eq-same : (o : Ordering) → is_eq o ≡ is_same o
is_eq-same Less = refl
is_eq-same Equal = refl
is_eq-same Greater = refl

-- what `is_named` and `is_same` need
pub ruleset sameness = (is_eq-same, unequal-length)
