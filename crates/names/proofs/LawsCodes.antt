-- The codes of a stored name: how many, and the one at a position.
use Prim.Native.Nat.{ℕ, zero, suc, ◌+◌, ◌-◌, ◌*◌, ◌/◌, ◌<◌, ◌≤◌}
use native.Mathlib.Omega.{arith}
use native.Mathlib.Numerals.{add-one}
use mathlib.Core.Path.{◌≡◌, refl, sym, ap, ◌∙◌}
use mathlib.Core.Bool.{Bool, true, false, ◌||◌}
use mathlib.Core.List.{List, [], ◌∷◌}
use lib.Dec.{eqb, leb}
use lib.ListN.{length, get_or, drop, drop_of_length-le}
use lib.Seq.{drop-cons}
use borrow.Author.Tests.{eq-eqb, ne_eqb, leb-true, leb-false}
use Rattle.fields.specs.Number.{u16_at}
use Rattle.names.specs.Codes.{codes, characters_in, has_code, backslash}
use Rattle.names.specs.Terms.{AmongFour, some, none}

pub narrow-length : (s : List ℕ) → length (codes true s) ≡ length s
unfolding codes
narrow-length s = refl

pub wide-length : (s : List ℕ) → length (codes false s) ≡ length s / 2
unfolding codes
wide-length [] = refl
wide-length (low ∷ []) = refl
wide-length (low ∷ high ∷ s) = let e = wide-length s in omega arith

-- a name of so many bytes has so many characters
pub counted : (narrow : Bool) (s : List ℕ) → characters_in (length s) narrow ≡ length (codes narrow s)
unfolding characters_in
counted true s = sym (narrow-length s)
counted false s = sym (wide-length s)

narrow_at : (s : List ℕ) (i : ℕ) → get_or (codes true s) i 0 ≡ get_or s i 0
unfolding codes
narrow_at s i = refl

-- two bytes further on
two-on : (a b : ℕ) (s : List ℕ) (j : ℕ) → u16_at (a ∷ b ∷ s) (suc (suc j)) ≡ u16_at s j
unfolding u16_at
two-on a b s j = simp add-one

pub wide_at : (s : List ℕ) (i : ℕ) → i < length (codes false s) → get_or (codes false s) i 0 ≡ u16_at s (i * 2)
unfolding codes u16_at
wide_at [] i h = absurd (omega arith)
wide_at (low ∷ []) i h = absurd (omega arith)
wide_at (low ∷ high ∷ s) zero h = refl
wide_at (low ∷ high ∷ s) (suc i) h =
    let e : suc (suc (i * 2)) ≡ suc i * 2 = omega arith in
    wide_at s i (omega arith) ∙ sym (two-on low high s (i * 2)) ∙ ap (u16_at (low ∷ high ∷ s)) e

-- no more characters than bytes
pub codes-few : (narrow : Bool) (s : List ℕ) → length (codes narrow s) ≤ length s
codes-few true s = let e = narrow-length s in omega arith
codes-few false s = let e = wide-length s in omega arith

-- the character at a position inside the name
module _ (narrow : Bool) (s : List ℕ) (i : ℕ) (h : i < length (codes narrow s)) where
  pub one-room : narrow ≡ true → i < length s
  one-room e = let r = rw e at h in omega (arith, narrow-length s)

  pub one_code : narrow ≡ true → get_or (codes narrow s) i 0 ≡ get_or s i 0
  one_code e = rw e (narrow_at s i)

  pub two-room : narrow ≡ false → i * 2 + 2 ≤ length s
  two-room e = let r = rw e at h in omega (arith, wide-length s)

  pub two-code : narrow ≡ false → get_or (codes narrow s) i 0 ≡ u16_at s (i * 2)
  two-code e = let r = rw e at h in rw e (wide_at s i r)

-- a search for a code
pub found : (k : ℕ) (cs : List ℕ) (i : ℕ) → i < length cs → get_or cs i 0 ≡ k → has_code k (drop i cs) ≡ true
unfolding has_code
found k cs i h e = rw (drop-cons cs i 0 h, eq-eqb (get_or cs i 0) k e)

pub passed : (k : ℕ) (cs : List ℕ) (i : ℕ) → i < length cs → (get_or cs i 0 ≡ k → ⊥)
    → has_code k (drop i cs) ≡ has_code k (drop (i + 1) cs)
unfolding has_code
passed k cs i h n = rw (add-one, drop-cons cs i 0 h, ne_eqb (get_or cs i 0) k n)

pub ended : (k : ℕ) (cs : List ℕ) (i : ℕ) → length cs ≤ i → has_code k (drop i cs) ≡ false
unfolding has_code
ended k cs i h = rw (drop_of_length-le cs h)

-- further on
or-true : (b : Bool) → (b || true) ≡ true
or-true true = refl
or-true false = refl

pub found-later : (k : ℕ) (cs : List ℕ) (i m : ℕ) → i + m < length cs → get_or cs (i + m) 0 ≡ k → has_code k (drop i cs) ≡ true
unfolding has_code
found-later k cs i zero h e = let z : i ≡ i + 0 = omega arith in found k cs i (omega arith) (ap (λ (x : ℕ). get_or cs x 0) z ∙ e)
found-later k cs i (suc m) h e =
    let z : suc i + m ≡ i + suc m = omega arith in
    let p : i < length cs = omega arith in
    rw (drop-cons cs i 0 p, found-later k cs (suc i) m (omega arith) (ap (λ (x : ℕ). get_or cs x 0) z ∙ e)) (or-true (eqb (get_or cs i 0) k))

pub all-passed : (k : ℕ) (cs : List ℕ) (i n : ℕ) → i + n ≤ length cs → ((m : ℕ) → m < n → get_or cs (i + m) 0 ≡ k → ⊥)
    → has_code k (drop i cs) ≡ has_code k (drop (i + n) cs)
all-passed k cs i zero h f = let z : i ≡ i + 0 = omega arith in ap (λ (x : ℕ). has_code k (drop x cs)) z
all-passed k cs i (suc n) h f =
    let z : i + n + 1 ≡ i + suc n = omega arith in
    all-passed k cs i n (omega arith) (λ m p. f m (omega arith))
    ∙ passed k cs (i + n) (omega arith) (f n (omega arith))
    ∙ ap (λ (x : ℕ). has_code k (drop x cs)) z

-- four in a row
module _ (k : ℕ) (cs : List ℕ) (i : ℕ) (h : i + 4 ≤ length cs) (a : get_or cs i 0 ≡ k → ⊥) (b : get_or cs (i + 1) 0 ≡ k → ⊥)
    (c : get_or cs (i + 2) 0 ≡ k → ⊥) (d : get_or cs (i + 3) 0 ≡ k → ⊥) where
  none_of : (m : ℕ) → m < 4 → get_or cs (i + m) 0 ≡ k → ⊥
  none_of zero p e = let z : i ≡ i + 0 = omega arith in a (ap (λ (x : ℕ). get_or cs x 0) z ∙ e)
  none_of (suc zero) p e = b e
  none_of (suc (suc zero)) p e = c e
  none_of (suc (suc (suc zero))) p e = d e
  none_of (suc (suc (suc (suc m)))) p e = omega arith

  pub four-passed : (j : ℕ) → j ≤ 4 → has_code k (drop i cs) ≡ has_code k (drop (i + j) cs)
  four-passed j p = all-passed k cs i j (omega arith) (λ m q. none_of m (omega arith))

-- what the tests of four characters tell
pub some-here : (cs : List ℕ) (i : ℕ) → i < length cs → get_or cs i 0 ≡ backslash → AmongFour cs i true
some-here cs i h e = some (found backslash cs i h e)

pub some-later : (cs : List ℕ) (i j : ℕ) → i + j < length cs → get_or cs (i + j) 0 ≡ backslash → AmongFour cs i true
some-later cs i j h e = some (found-later backslash cs i j h e)

pub none-here : (cs : List ℕ) (i : ℕ) → i + 4 ≤ length cs → (get_or cs i 0 ≡ backslash → ⊥) → (get_or cs (i + 1) 0 ≡ backslash → ⊥)
    → (get_or cs (i + 2) 0 ≡ backslash → ⊥) → (get_or cs (i + 3) 0 ≡ backslash → ⊥) → AmongFour cs i false
none-here cs i h a b c d = none (four-passed backslash cs i h a b c d)

-- none stands before a position: the search may go on from any place up to it
abbrev pub Clear : List ℕ → ℕ → Type 0
Clear cs i = (j : ℕ) → j ≤ i → has_code backslash cs ≡ has_code backslash (drop j cs)

pub clear_first : (cs : List ℕ) → Clear cs 0
clear_first cs j p = let z : 0 ≡ j = omega arith in ap (λ (x : ℕ). has_code backslash (drop x cs)) z

pub clear-four : (cs : List ℕ) (i : ℕ) → Clear cs i → {r : Bool} → r ≡ false → AmongFour cs i r → Clear cs (i + 4)
clear-four cs i a e (some f) j p = absurd (let z : ◌≡◌ {A = ℕ} 0 1 = cc in omega arith)
clear-four cs i a e (none f) j p = by (leb j i) refl
  where
    by : (t : Bool) → leb j i ≡ t → has_code backslash cs ≡ has_code backslash (drop j cs)
    by true q = a j (leb-true j i q)
    by false q =
        let z = leb-false j i q in
        let y : i + (j - i) ≡ j = omega arith in
        a i (omega arith) ∙ f (j - i) (omega arith) ∙ ap (λ (x : ℕ). has_code backslash (drop x cs)) y

pub four-found : (cs : List ℕ) (i : ℕ) → Clear cs i → {r : Bool} → r ≡ true → AmongFour cs i r → has_code backslash cs ≡ true
four-found cs i a e (some f) = a i (omega arith) ∙ f
four-found cs i a e (none f) = absurd (let z : ◌≡◌ {A = ℕ} 0 1 = cc in omega arith)

-- the last four decide
pub four-last : (cs : List ℕ) (i last : ℕ) → Clear cs i → last ≤ i → length cs ≤ last + 4 → {r : Bool} → AmongFour cs last r → r ≡ has_code backslash cs
four-last cs i last a p q (some f) = sym (a last p ∙ f)
four-last cs i last a p q (none f) = sym (a last p ∙ f 4 (omega arith) ∙ ended backslash cs (last + 4) q)

-- what `has_in_turn`, `code_at` and `among_four` need
pub ruleset searching = (found, passed, ended)

pub ruleset reading = (narrow-length, wide-length, one_code, two-code)

pub ruleset four = (codes-few, some-here, some-later, none-here)
