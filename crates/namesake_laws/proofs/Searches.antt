-- A name is looked for in a table of hashes: each step along a chain is one of a plain search.
use Prim.Native.Nat.{ℕ, zero, suc, ◌+◌, ◌-◌, ◌<◌}
use native.Mathlib.Omega.{arith}
use native.Mathlib.Numerals.{add-one}
use mathlib.Core.Path.{◌≡◌, refl, ap, ap₂, ◌∙◌}
use mathlib.Core.Bool.{Bool, true, false, cond, ◌||◌}
use mathlib.Core.List.{List}
use lib.Dec.{eqb}
use lib.ListN.{get_or}
use borrow.Author.Tests.{eqb-true, eqb-false}
use Rattle.fields.proofs.Bools.{never}
use Rattle.names.specs.Comparison.{same_name}
use Rattle.chains.specs.Chains.{find_in, Linked, OnChain}
use Rattle.chains.proofs.Laws.{find-most, find-behind, found-chain, chain-on, chain-falls}
use Rattle.namesake_laws.specs.Repeats.{met_in}
use Rattle.namesake_laws.specs.Tables.{Telling}

module _ (names : ℕ → List ℕ) (cs : List ℕ) where
  -- a plain search, by positions
  pub met_at : (n : ℕ) → met_in names n cs ≡ false → (i : ℕ) → i < n → same_name (names i) cs ≡ false
  unfolding met_in
  met_at zero e i l = absurd (omega arith)
  met_at (suc n) e i l = by (met_at n) (same_name (names n) cs) refl (eqb i n) refl
    where
      by : (met_in names n cs ≡ false → (i : ℕ) → i < n → same_name (names i) cs ≡ false) → (t : Bool) → same_name (names n) cs ≡ t → (u : Bool) → eqb i n ≡ u
          → same_name (names i) cs ≡ false
      by h true q u r = absurd (never _ (rw q) e)
      by h false q true r = rw (eqb-true i n r) q
      by h false q false r = let z = eqb-false i n r in h (rw q at e) i (omega arith)

  pub one-met : (n : ℕ) → met_in names n cs ≡ true → (i : ℕ) × (i < n) × (same_name (names i) cs ≡ true)
  unfolding met_in
  one-met zero e = absurd (let z : ◌≡◌ {A = ℕ} 0 1 = cc in omega arith)
  one-met (suc n) e = by (one-met n) (same_name (names n) cs) refl
    where
      by : (met_in names n cs ≡ true → (i : ℕ) × (i < n) × (same_name (names i) cs ≡ true)) → (t : Bool) → same_name (names n) cs ≡ t
          → (i : ℕ) × (i < suc n) × (same_name (names i) cs ≡ true)
      by h true q = (n, omega arith, q)
      by h false q = let r = h (rw q at e) in (r.0, let z = r.1 in omega arith, r.2)

  -- one place
  pub hit : (p : ℕ) → (p ≡ 0 → ⊥) → same_name (names (p - 1)) cs ≡ true → met_in names p cs ≡ true
  unfolding met_in
  hit zero f e = absurd (f refl)
  hit (suc q) f e = let z : suc q - 1 ≡ q = omega arith in let y = rw z at e in rw y

  -- a search from the front: one value more, and one that is met
  pub met-on : (i : ℕ) → met_in names i cs ≡ false → same_name (names i) cs ≡ false → met_in names (i + 1) cs ≡ false
  unfolding met_in
  met-on i e q = rw (add-one, q, e)

  pub met-here : (n i : ℕ) → i < n → same_name (names i) cs ≡ true → met_in names n cs ≡ true
  met-here n i l e = by (met_in names n cs) refl
    where
      by : (t : Bool) → met_in names n cs ≡ t → met_in names n cs ≡ true
      by true q = q
      by false q = absurd (never _ e (met_at n q i l))

  miss : (p : ℕ) → (p ≡ 0 → ⊥) → same_name (names (p - 1)) cs ≡ false → met_in names p cs ≡ met_in names (p - 1) cs
  unfolding met_in
  miss zero f e = absurd (f refl)
  miss (suc q) f e = let z : suc q - 1 ≡ q = omega arith in let y = rw z at e in rw (z, y)

  pub none-met : {p : ℕ} → p ≡ 0 → met_in names p cs ≡ false
  unfolding met_in
  none-met e = rw e

  -- the same names elsewhere
  pub met-same : (others : ℕ → List ℕ) (n : ℕ) → ((i : ℕ) → i < n → names i ≡ others i) → met_in names n cs ≡ met_in others n cs
  unfolding met_in
  met-same others zero h = refl
  met-same others (suc n) h = ap₂ (λ (a b : Bool). a || b) (ap (λ (x : List ℕ). same_name x cs) (h n (omega arith))) (met-same others n (λ i l. h i (omega arith)))

  -- only what has the hash counts
  module _ (ks : List ℕ) (g : ℕ) where
    met-found : (n : ℕ) → Telling names n ks g cs → met_in names n cs ≡ met_in names (find_in ks g n) cs
    unfolding met_in find_in
    met-found zero h = refl
    met-found (suc n) h = by (met-found n (λ i l. h i (omega arith))) (eqb (get_or ks n 0) g) refl
      where
        by : met_in names n cs ≡ met_in names (find_in ks g n) cs → (t : Bool) → eqb (get_or ks n 0) g ≡ t
            → same_name (names n) cs || met_in names n cs ≡ met_in names (cond t (suc n) (find_in ks g n)) cs
        by f true e = refl
        by f false e = rw (h n (omega arith) (eqb-false _ _ e)) f

    -- the loop: a place on the chain, up to which the search answers as the whole
    pub record Seeking (buckets n p : ℕ) : Type 0 where
      pub chain : OnChain ks buckets n g p
      pub left : met_in names n cs ≡ met_in names p cs

    module _ (buckets n : ℕ) (h : Telling names n ks g cs) where
      pub seek-start : {p : ℕ} → p ≡ find_in ks g n → Seeking buckets n p
      seek-start e = rw e (record { chain = found-chain ks buckets n g n (omega arith); left = met-found n h })

      pub seek-on : (older : List ℕ) → Linked ks older buckets n → {p q r : ℕ} → Seeking buckets n p → (p ≡ 0 → ⊥) → same_name (names (p - 1)) cs ≡ false
          → q ≡ get_or older (p - 1) 0 → r ≡ find_in ks g q → Seeking buckets n r
      seek-on older l {p} {q} {r} k f e is at =
          let b = find-behind ks older buckets n g l p k.chain f in
          let w = k.chain.within in
          let y : r ≡ find_in ks g (p - 1) = at ∙ ap (find_in ks g) is ∙ b in
          rw y (record {
            chain = found-chain ks buckets n g (p - 1) (omega arith);
            left = k.left ∙ miss p f e ∙ met-found (p - 1) (λ i t. h i (omega arith));
          })

      pub seek-chain : (older : List ℕ) → Linked ks older buckets n → {p q : ℕ} → Seeking buckets n p → (p ≡ 0 → ⊥) → q ≡ get_or older (p - 1) 0
          → OnChain ks buckets n g q
      seek-chain older l {p} k f is = rw is (chain-on ks older buckets n g l p k.chain f)

      -- the next place lies before
      pub seek-falls : (older : List ℕ) → Linked ks older buckets n → {p q r : ℕ} → Seeking buckets n p → (p ≡ 0 → ⊥) → q ≡ get_or older (p - 1) 0
          → r ≡ find_in ks g q → r < p
      seek-falls older l {p} {q} {r} k f is at =
          let a = chain-falls ks older buckets n g l p k.chain f in
          let b = find-most ks g q in
          omega arith
