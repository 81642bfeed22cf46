-- The test of a path in one pass over its units: what stands before a turn of the loop, and a law for each way out.
use Prim.Native.Nat.{ℕ, suc, ◌+◌, ◌<◌, ◌≤◌}
use native.Mathlib.Omega.{arith}
use native.Mathlib.Numerals.{add-one}
use mathlib.Core.Path.{◌≡◌, refl, sym, ap, ap₂, ◌∙◌}
use mathlib.Core.Bool.{Bool, true, false, cond, ◌&&◌}
use mathlib.Core.List.{List, [], ◌∷◌}
use lib.Dec.{eqb, leb, ltb}
use lib.ListN.{length, get_or, drop}
use lib.Seq.{drop-cons}
use borrow.Author.Tests.{eq-eqb, ne_eqb, le-leb, lt-leb}
use Rattle.fields.proofs.Loops.{drop_all}
use Rattle.names.specs.Codes.{backslash}
use Rattle.paths.specs.Paths.{split, first_part, parts_of, is_part, are_parts, is_path}
use Rattle.paths.proofs.Parts.{behind, split-is}

-- a part of so many units may stand in a path
abbrev fits : ℕ → Bool
fits n = leb 1 n && leb n 255

-- whether all parts are good, where the first has so many units already
unfoldable pub good_from : ℕ → List ℕ → Bool
good_from n [] = fits n
good_from n (u ∷ us) = cond (eqb u backslash) (fits n && good_from 0 us) (good_from (suc n) us)

-- how many backslashes
unfoldable pub cuts_in : List ℕ → ℕ
cuts_in [] = 0
cuts_in (u ∷ us) = cond (eqb u backslash) (suc (cuts_in us)) (cuts_in us)

and-true : (t : Bool) → t && true ≡ t
and-true true = refl
and-true false = refl

and-false : (t : Bool) → t && false ≡ false
and-false true = refl
and-false false = refl

good-parts : (n : ℕ) (us : List ℕ) → fits (n + length (first_part us)) && are_parts (behind us) ≡ good_from n us
unfolding first_part behind good_from are_parts is_part
good-parts n [] = let e : n + 0 ≡ n = omega arith in rw e (and-true (fits n))
good-parts n (u ∷ us) = by (eqb u backslash) refl (λ k. good-parts k us)
  where
    by : (t : Bool) → eqb u backslash ≡ t → ((k : ℕ) → fits (k + length (first_part us)) && are_parts (behind us) ≡ good_from k us)
        → fits (n + length (cond (eqb u backslash) [] (u ∷ first_part us))) && are_parts (cond (eqb u backslash) (split us) (behind us))
        ≡ cond (eqb u backslash) (fits n && good_from 0 us) (good_from (suc n) us)
    by true e q =
        let z : n + 0 ≡ n = omega arith in
        let y : 0 + length (first_part us) ≡ length (first_part us) = omega arith in
        rw (e, z, split-is us) (ap (λ (t : Bool). fits n && t) (sym (ap (λ (k : ℕ). fits k && are_parts (behind us)) y) ∙ q 0))
    by false e q =
        let s : n + suc (length (first_part us)) ≡ suc n + length (first_part us) = omega arith in
        rw e (ap (λ (k : ℕ). fits k && are_parts (behind us)) s ∙ q (suc n))

cuts-parts : (us : List ℕ) → length (behind us) ≡ cuts_in us
unfolding behind cuts_in
cuts-parts [] = refl
cuts-parts (u ∷ us) = by (eqb u backslash) refl (cuts-parts us)
  where
    by : (t : Bool) → eqb u backslash ≡ t → length (behind us) ≡ cuts_in us
        → length (cond (eqb u backslash) (split us) (behind us)) ≡ cond (eqb u backslash) (suc (cuts_in us)) (cuts_in us)
    by true e q = rw (e, split-is us) (ap suc q)
    by false e q = rw e q

-- the test of a path that is not empty
path-is : (us : List ℕ) → (length us ≡ 0 → ⊥) → is_path us ≡ good_from 0 us && leb (suc (cuts_in us)) 512
unfolding is_path parts_of are_parts is_part
path-is [] p = absurd (p refl)
path-is (u ∷ us) p =
    let y : 0 + length (first_part (u ∷ us)) ≡ length (first_part (u ∷ us)) = omega arith in
    rw (split-is (u ∷ us))
    (ap₂ (λ (t : Bool) (k : ℕ). t && leb (suc k) 512)
    (sym (ap (λ (k : ℕ). fits k && are_parts (behind (u ∷ us))) y) ∙ good-parts 0 (u ∷ us)) (cuts-parts (u ∷ us)))

pub path_empty : (us : List ℕ) → length us ≡ 0 → true ≡ is_path us
unfolding is_path parts_of are_parts
path_empty [] p = refl
path_empty (u ∷ us) p = absurd (omega arith)

too-long : (n : ℕ) (us : List ℕ) → 255 < n → good_from n us ≡ false
unfolding good_from
too-long n [] p = rw (lt-leb n 255 p) (and-false (leb 1 n))
too-long n (u ∷ us) p = by (eqb u backslash) refl (too-long (suc n) us (omega arith))
  where
    by : (t : Bool) → eqb u backslash ≡ t → good_from (suc n) us ≡ false → cond (eqb u backslash) (fits n && good_from 0 us) (good_from (suc n) us) ≡ false
    by true e q = rw (e, lt-leb n 255 p, and-false (leb 1 n))
    by false e q = rw (e, q)

-- before unit i: the units of the part so far, and the backslashes before it
pub record Passed (us : List ℕ) (units cuts i : ℕ) : Type 0 where
  pub within : i ≤ length us
  pub few : units ≤ 255
  pub counted : cuts ≤ i
  pub good : good_from 0 us ≡ good_from units (drop i us)
  pub number : cuts_in us ≡ cuts + cuts_in (drop i us)

module _ (us : List ℕ) (units cuts i : ℕ) (w : Passed us units cuts i) where
  module _ (some : length us ≡ 0 → ⊥) where
    ill : good_from units (drop i us) ≡ false → false ≡ is_path us
    ill e = sym (path-is us some ∙ rw (w.good, e))

    -- past the last unit
    pub passed-short : length us ≤ i → units ≡ 0 → false ≡ is_path us
    unfolding good_from
    passed-short p e = ill (rw (drop_all us i p, e))

    pub passed-end : length us ≤ i → (units ≡ 0 → ⊥) → ltb cuts 512 ≡ is_path us
    unfolding good_from cuts_in
    passed-end p e =
        let n = rw (drop_all us i p) at w.number in
        let c : cuts_in us ≡ cuts = omega arith in
        let g : good_from 0 us ≡ true = w.good ∙ rw (drop_all us i p, le-leb 1 units (omega arith), le-leb units 255 w.few) in
        sym (path-is us some ∙ rw (g, c))

  module _ (more : i < length us) where
    -- a backslash
    module _ (cut : get_or us i 0 ≡ 92) where
      pub cut_short : (length us ≡ 0 → ⊥) → units ≡ 0 → false ≡ is_path us
      unfolding good_from
      cut_short some e = ill some (rw (drop-cons us i 0 more, eq-eqb (get_or us i 0) backslash cut, e))

      pub cut_on : (units ≡ 0 → ⊥) → Passed us 0 (cuts + 1) (i + 1)
      unfolding good_from cuts_in
      cut_on e =
          let q = eq-eqb (get_or us i 0) backslash cut in
          let n = rw (drop-cons us i 0 more, q) at w.number in
          record {
            within = omega arith;
            few = omega arith;
            counted = omega (arith, w.counted);
            good = w.good ∙ rw (add-one, drop-cons us i 0 more, q, le-leb 1 units (omega arith), le-leb units 255 w.few);
            number = rw (add-one i) (omega arith);
          }

    -- another unit
    module _ (unit : get_or us i 0 ≡ 92 → ⊥) where
      pub unit-long : (length us ≡ 0 → ⊥) → units ≡ 255 → false ≡ is_path us
      unfolding good_from
      unit-long some e =
          ill some (rw (drop-cons us i 0 more, ne_eqb (get_or us i 0) backslash unit) (too-long (suc units) (drop (suc i) us) (omega arith)))

      pub unit-on : (units ≡ 255 → ⊥) → Passed us (units + 1) cuts (i + 1)
      unfolding good_from cuts_in
      unit-on e =
          let q = ne_eqb (get_or us i 0) backslash unit in
          let n = rw (drop-cons us i 0 more, q) at w.number in
          record {
            within = omega arith;
            few = omega (arith, w.few);
            counted = omega (arith, w.counted);
            good = w.good ∙ rw (add-one, add-one, drop-cons us i 0 more, q);
            number = rw (add-one i) (omega arith);
          }
