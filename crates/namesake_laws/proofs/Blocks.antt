-- Blocks of names, all together; and a few names, each compared with those before it.
use Prim.Native.Nat.{ℕ, ◌+◌, ◌-◌, ◌<◌, ◌≤◌}
use native.Mathlib.Omega.{arith}
use mathlib.Core.Path.{◌≡◌, refl, sym, ap₂, ◌∙◌}
use mathlib.Core.Bool.{Bool, true, false}
use mathlib.Core.List.{List}
use lib.Dec.{eqb, ltb}
use borrow.Author.Tests.{eqb-true, eqb-false, ltb-true, ltb-false}
use Rattle.names.specs.Comparison.{same_name}
use Rattle.namesake_laws.specs.Repeats.{twins, Earlier, First, Blocked, met_in, later}
use Rattle.namesake_laws.proofs.Searches.{met_at, one-met}

-- a block whose names were counted from its start
module _ (names others : ℕ → List ℕ) (s : ℕ) (h : (i : ℕ) → others i ≡ later names s i) where
  twins-later : (i j : ℕ) → twins others i j ≡ twins names (s + i) (s + j)
  twins-later i j = ap₂ same_name (h i) (h j)

  pub block-later : (size : ℕ) {n r : ℕ} → s ≤ n → Blocked others 0 size (n - s) r → Blocked names s size n (s + r)
  block-later size {n} {r} l b = record { within = let y = b.within in omega arith; clear = clear; found = found }
    where
      clear : (i j : ℕ) → s ≤ i → i < s + size → i < j → j < s + r → twins names i j ≡ false
      clear i j p q t u =
          let x : s + (i - s) ≡ i = omega arith in
          let y : s + (j - s) ≡ j = omega arith in
          let w = sym (twins-later (i - s) (j - s)) ∙ b.clear (i - s) (j - s) (omega arith) (omega arith) (omega arith) (omega arith) in
          rw (x, y) at w

      found : s + r < n → Earlier names (s + r)
      found t =
          let e = b.found (omega arith) in
          record { at = s + e.at; before = let z = e.before in omega arith; same = sym (twins-later e.at r) ∙ e.same }

-- all blocks up to position s
module _ (names : ℕ → List ℕ) (n : ℕ) where
  pub record Reached (s best : ℕ) : Type 0 where
    pub within : best ≤ n
    pub clear : (i j : ℕ) → i < s → i < j → j < best → twins names i j ≡ false
    pub found : best < n → Earlier names best

  pub reach-first : (size : ℕ) {r : ℕ} → Blocked names 0 size n r → Reached size r
  reach-first size b = record { within = b.within; clear = λ i j l p q. b.clear i j (omega arith) (omega arith) p q; found = b.found }

  pub reach-on : (size : ℕ) {s best r : ℕ} → Reached s best → Blocked names s size best r → Reached (s + size) r
  reach-on size {s} {best} {r} a b = record { within = let y = a.within in let z = b.within in omega arith; clear = clear; found = found }
    where
      clear : (i j : ℕ) → i < s + size → i < j → j < r → twins names i j ≡ false
      clear i j l p q = by (ltb i s) refl
        where
          by : (t : Bool) → ltb i s ≡ t → twins names i j ≡ false
          by true u = let z = ltb-true i s u in a.clear i j z p (let y = b.within in omega arith)
          by false u = let z = ltb-false i s u in b.clear i j (omega arith) l p q

      found : r < n → Earlier names r
      found l = by (ltb r best) refl
        where
          by : (t : Bool) → ltb r best ≡ t → Earlier names r
          by true u = b.found (ltb-true r best u)
          by false u =
              let y = b.within in
              let z = ltb-false r best u in
              let e : r ≡ best = omega arith in
              rw e (a.found (omega arith))

  pub reach-end : {s best : ℕ} → Reached s best → best ≤ s → First names n best
  reach-end a l = record { within = a.within; clear = λ i j p q. a.clear i j (omega arith) p q; found = a.found }

-- a few names, each compared with those before it: none of those passed is a repeat
module _ (names : ℕ → List ℕ) where
  pub record Passed (j : ℕ) : Type 0 where
    pub clear : (a b : ℕ) → a < b → b < j → twins names a b ≡ false

  pub pass-start : Passed 0
  pass-start = record { clear = λ a b p q. absurd (let z = q in omega arith) }

  module _ (j : ℕ) (k : Passed j) where
    pub pass_on : met_in names j (names j) ≡ false → Passed (j + 1)
    pass_on e = record { clear = λ a b p q. by a b p q (eqb b j) refl }
      where
        by : (a b : ℕ) → a < b → b < j + 1 → (t : Bool) → eqb b j ≡ t → twins names a b ≡ false
        by a b p q true u = let z = eqb-true b j u in rw z (met_at names (names j) j e a (omega arith))
        by a b p q false u = let z = eqb-false b j u in k.clear a b p (omega arith)

    pub pass-found : (n : ℕ) → j < n → met_in names j (names j) ≡ true → First names n j
    pass-found n l e =
        let r = one-met names (names j) j e in
        record { within = omega arith; clear = k.clear; found = λ t. record { at = r.0; before = r.1; same = r.2 } }

    pub pass-end : (n : ℕ) → n ≤ j → First names n n
    pass-end n l = record { within = omega arith; clear = λ a b p q. k.clear a b p (omega arith); found = λ t. absurd (let z = t in omega arith) }
