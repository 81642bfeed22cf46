-- The tests of an entry's references: one more, and a law for each way out of the loops.
use Prim.Native.Nat.{ℕ, zero, suc, ◌+◌, ◌≤◌, ◌<◌}
use native.Mathlib.Omega.{arith}
use native.Mathlib.Numerals.{add-one}
use mathlib.Core.Path.{◌≡◌, refl}
use mathlib.Core.Bool.{Bool, true, false, ◌&&◌, ◌||◌}
use mathlib.Core.List.{List}
use borrow.Author.Tests.{le-leb, eq-eqb}
use Rattle.fields.proofs.Bools.{and_both, never}
use Rattle.log_entries.specs.Entries.{ref_offset, ref_size, ref_bytes, is_placed, are_apart, apart_from, are_refs}
use Rattle.log_entries.specs.Terms.{EndBy}
use Rattle.log_entries.proofs.Entered.{refused, refs-each, apart-each}

-- ---- one more

module _ (l : List ℕ) (a i : ℕ) where
  pub bytes_more : ref_bytes l a (i + 1) ≡ ref_bytes l a i + ref_size l a i
  unfolding ref_bytes
  bytes_more = rw add-one refl

  pub refs_more : are_refs l a (i + 1) ≡ (are_refs l a i && (is_placed l a i && apart_from l a i i))
  unfolding are_refs
  refs_more = rw add-one refl

  pub apart_more : (j : ℕ) → apart_from l a i (j + 1) ≡ (apart_from l a i j && are_apart l a i j)
  unfolding apart_from
  apart_more j = rw add-one refl

pub ruleset steps = (bytes_more, refs_more, apart_more)

-- ---- the ways out

or-true : (b : Bool) → b || true ≡ true
or-true true = refl
or-true false = refl

-- a reference and the first n
module _ (l : List ℕ) (a i : ℕ) where
  past_end : (j : ℕ) → ref_offset l a j + ref_size l a j ≤ ref_offset l a i → are_apart l a i j ≡ true
  past_end j p = simp (le-leb _ _ p, or-true)

  pub past_all : (n : ℕ) → EndBy l a n (ref_offset l a i) → apart_from l a i n ≡ true
  unfolding apart_from
  past_all zero p = refl
  past_all (suc n) p = and_both (past_all n (λ j q. p j (omega arith))) (past_end n (p n (omega arith)))

  -- one of no bytes
  pub empty-all : (n : ℕ) → ref_size l a i ≡ 0 → apart_from l a i n ≡ true
  unfolding apart_from
  empty-all zero p = refl
  empty-all (suc n) p = and_both (empty-all n p) (simp (eq-eqb _ _ p))

  pub not-apart : (n j : ℕ) → j < n → are_apart l a i j ≡ false → apart_from l a i n ≡ false
  not-apart n j p e = refused _ (λ t. never _ (apart-each l a i n t j p) e)

-- the first n references
module _ (l : List ℕ) (a n i : ℕ) (p : i < n) where
  pub not-placed : is_placed l a i ≡ false → are_refs l a n ≡ false
  not-placed e = refused _ (λ t. never _ (refs-each l a n t i p).0 e)

  pub overlaps : apart_from l a i i ≡ false → are_refs l a n ≡ false
  overlaps e = refused _ (λ t. never _ (refs-each l a n t i p).1 e)
