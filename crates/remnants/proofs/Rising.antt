-- The offsets ascend strictly, so each comes once; and what is left past one of them.
use Prim.Native.Nat.{ℕ, zero, suc, ◌+◌, ◌-◌, ◌*◌, ◌/◌, ◌≤◌, ◌<◌}
use native.Mathlib.Omega.{arith}
use mathlib.Core.Path.{◌≡◌, refl, sym, ap, ◌∙◌, subst}
use mathlib.Core.Bool.{Bool, true, false}
use mathlib.Core.List.{List, [], ◌∷◌, ◌++◌}
use lib.Dec.{leb}
use borrow.Author.Tests.{leb-true, leb-false}
use Rattle.cells.specs.Free.{Span}
use Rattle.cells.proofs.Free.{Spread, spread_end, spread-on, free-spread}
use Rattle.remnants.specs.declared.Kind.{Kind}
use Rattle.std.specs.Prelude.{None, Option, Some}
use Rattle.remnants.specs.declared.Remain.{Remain}
use Rattle.remnants.specs.Remnants.{kind_at, remain_at, spot, spots_n, spots_in, spots_of, remnants_of, not_below}
use Rattle.remnants.specs.Found.{Rises, rises-end, rises-on}
use Rattle.remnants.proofs.Held.{remain-offset}
use Rattle.remnants.proofs.Spots.{below-keeps, below-skips, below-nil}

-- the offsets ascend strictly, from one on and below another
data Within : ℕ → ℕ → List Remain → Type 0 where
  within_end : {low high : ℕ} → low ≤ high → Within low high []
  within_on : {low high : ℕ} {x : Remain} {xs : List Remain} → low ≤ x.at.0 → x.at.0 < high → Within (x.at.0 + 1) high xs → Within low high (x ∷ xs)

wider : {low high low' high' : ℕ} {xs : List Remain} → low' ≤ low → high ≤ high' → Within low high xs → Within low' high' xs
wider {low} {high} {low'} {high'} p q (within_end r) = let s : low' ≤ high' = omega arith in within_end s
wider {low} {high} {low'} {high'} p q (within_on {x = x} l h w) =
    let a : low' ≤ x.at.0 = omega arith in
    let b : x.at.0 < high' = omega arith in
    let c : x.at.0 + 1 ≤ x.at.0 + 1 = omega arith in
    within_on a b (wider c q w)

ordered : {low high : ℕ} {xs : List Remain} → Within low high xs → low ≤ high
ordered (within_end p) = p
ordered (within_on p q r) = let s = ordered r in omega arith

joined : {low mid high : ℕ} {xs ys : List Remain} → Within low mid xs → Within mid high ys → Within low high (xs ++ ys)
joined {low} {mid} {high} (within_end p) v = let q : high ≤ high = omega arith in wider p q v
joined {low} {mid} {high} (within_on {x = x} l h w) v =
    let o = ordered v in
    let b : x.at.0 < high = omega arith in
    within_on l b (joined w v)

rises : {low high : ℕ} {xs : List Remain} → Within low high xs → Rises low xs
rises (within_end p) = rises-end
rises (within_on l h w) = rises-on l (rises w)

one-within : (x : Remain) {o : ℕ} → x.at.0 ≡ o → Within o (o + 8) (x ∷ [])
one-within x {o} e =
    let a : o ≤ x.at.0 = omega arith in
    let b : x.at.0 < o + 8 = omega arith in
    let c : x.at.0 + 1 ≤ o + 8 = omega arith in
    within_on a b (within_end c)

spot-within : (k : Option Kind) (f : Kind → Remain) {o : ℕ} → ((j : Kind) → (f j).at.0 ≡ o) → Within o (o + 8) (spot k f)
spot-within (Some j) f e = one-within (f j) (e j)
spot-within None f {o} e = let p : o ≤ o + 8 = omega arith in within_end p

module _ (d : List ℕ) where
  spots_n-within : (n o end : ℕ) → Within o (o + 8 * n) (spots_n n d o end)
  unfolding spots_n
  spots_n-within zero o end = let p : o ≤ o + 8 * zero = omega arith in within_end p
  spots_n-within (suc n) o end =
      joined (spot-within (kind_at d o end) (remain_at d o end) (remain-offset d o end)) (same_end (spots_n-within n (o + 8) end))
    where
      same_end : Within (o + 8) (o + 8 + 8 * n) (spots_n n d (o + 8) end) → Within (o + 8) (o + 8 * suc n) (spots_n n d (o + 8) end)
      same_end w =
          let p : o + 8 ≤ o + 8 = omega arith in
          let q : o + 8 + 8 * n ≤ o + 8 * suc n = omega arith in
          wider p q w

  spots-within : (o end : ℕ) → o ≤ end → Within o end (spots_in d o end)
  unfolding spots_in
  spots-within o end p =
      let a : o ≤ o = omega arith in
      let b : o + 8 * ((end - o) / 8) ≤ end = omega arith in
      wider a b (spots_n-within ((end - o) / 8) o end)

  spread-within : {low high : ℕ} {ss : List Span} → Spread low high ss → Within low high (spots_of d ss)
  unfolding spots_of
  spread-within (spread_end p) = within_end p
  spread-within (spread-on {s = s} a b t) =
      let q : s.to ≤ s.to = omega arith in
      joined (wider a q (spots-within s.from s.to b)) (spread-within t)

  pub remnants-rise : Rises 0 (remnants_of d)
  unfolding remnants_of
  remnants-rise = rises (spread-within (free-spread d))

-- all are at or past where they rise from
rises-above : {low : ℕ} (from : ℕ) {xs : List Remain} → from ≤ low → Rises low xs → not_below from xs ≡ xs
rises-above from p rises-end = below-nil from
rises-above from p (rises-on {x = x} {xs = xs} l r) =
    below-keeps from x xs (omega arith) ∙ ap (λ (ys : List Remain). x ∷ ys) (rises-above from (omega arith) r)

pub all_of : {xs : List Remain} → Rises 0 xs → not_below 0 xs ≡ xs
all_of r = rises-above 0 (omega arith) r

-- the first at or past an offset is at or past it
first_past : (from : ℕ) (xs : List Remain) {x : Remain} {ys : List Remain} → not_below from xs ≡ x ∷ ys → from ≤ x.at.0
first_past from [] e = absurd (let q = sym (below-nil from) ∙ e in let z : ◌≡◌ {A = ℕ} 0 1 = cc in omega arith)
first_past from (z ∷ xs) {x} {ys} e = by (λ q. first_past from xs q) (leb from z.at.0) refl
  where
    by : (not_below from xs ≡ x ∷ ys → from ≤ x.at.0) → (t : Bool) → leb from z.at.0 ≡ t → from ≤ x.at.0
    by ih true p =
        let le = leb-true from z.at.0 p in
        let q = sym (below-keeps from z xs le) ∙ e in
        let s : z ≡ x = cc in
        subst (λ (y : Remain). from ≤ y.at.0) s le
    by ih false p = ih (sym (below-skips from z xs (leb-false from z.at.0 p)) ∙ e)

-- past it come those behind it
pub rest_of : {low : ℕ} (from : ℕ) (xs : List Remain) → Rises low xs → {x : Remain} {ys : List Remain} → not_below from xs ≡ x ∷ ys
    → not_below (x.at.0 + 1) xs ≡ ys
rest_of {low = low} from [] r e = absurd (let q = sym (below-nil from) ∙ e in let z : ◌≡◌ {A = ℕ} 0 1 = cc in omega arith)
rest_of {low = low} from (z ∷ xs) (rises-on l r) {x = x} {ys = ys} e = by (λ q. rest_of {low = z.at.0 + 1} from xs r q) (leb from z.at.0) refl
  where
    by : (not_below from xs ≡ x ∷ ys → not_below (x.at.0 + 1) xs ≡ ys) → (t : Bool) → leb from z.at.0 ≡ t → not_below (x.at.0 + 1) (z ∷ xs) ≡ ys
    by ih true p =
        let le = leb-true from z.at.0 p in
        let q = sym (below-keeps from z xs le ∙ ap (λ (l : List Remain). z ∷ l) (rises-above from (omega arith) r)) ∙ e in
        let s : z ≡ x = cc in
        let t : xs ≡ ys = cc in
        let o : z.at.0 ≡ x.at.0 = ap (λ (y : Remain). y.at.0) s in
        below-skips (x.at.0 + 1) z xs (omega arith) ∙ rises-above (x.at.0 + 1) (omega arith) r ∙ t
    by ih false p =
        let lt = leb-false from z.at.0 p in
        let q = sym (below-skips from z xs lt) ∙ e in
        let f = first_past from xs q in
        below-skips (x.at.0 + 1) z xs (omega arith) ∙ ih q

pub rest-behind : {low : ℕ} (from : ℕ) (xs : List Remain) → Rises low xs → (ps : List Remain) (x : Remain) (ys : List Remain)
    → not_below from xs ≡ ps ++ (x ∷ ys) → not_below (x.at.0 + 1) xs ≡ ys
rest-behind from xs r [] x ys e = rest_of from xs r e
rest-behind from xs r (p ∷ ps) x ys e = rest-behind (p.at.0 + 1) xs r ps x ys (rest_of from xs r e)
