-- Frames of values in a row: what is read of each, and where each starts.
use Prim.Native.Nat.{ℕ, zero, suc, ◌+◌, ◌-◌, ◌*◌, ◌%◌, ◌≤◌, ◌<◌}
use native.Mathlib.Omega.{arith}
use native.Mathlib.Numerals.{add-one}
use mathlib.Core.Path.{◌≡◌, refl, sym, ap, subst, ◌∙◌}
use mathlib.Core.Bool.{Bool, true, false, cond, ◌&&◌}
use mathlib.Core.List.{List}
use lib.Dec.{eqb, leb, ltb}
use lib.ListN.{length, take, drop}
use borrow.Author.Tests.{eqb-true, eqb-false, ltb-true, ltb-false}
use Rattle.fields.specs.Number.{u16_at, u32_at, u64_at}
use Rattle.fields.proofs.Bools.{never}
use Rattle.names.specs.Codes.{codes}
use Rattle.names.specs.Comparison.{same_name}
use Rattle.forest.specs.Forest.{Item}
use Rattle.forest.specs.Faults.{Shape as Said, unlaid, opens, holds, closes, frame_len, is_laid, is_even, open_shape, item_shape, close_shape, kind_shape, shape_of}
use Rattle.forest.proofs.Judge.{frame-some}
use Rattle.build_frames.specs.declared.Text.{Text}
use Rattle.build_frames.specs.Terms.{name_in, NameLies}
use Rattle.build_frames.proofs.Frames.{Laid, laid, frame-whole, kind-open, kind-item, kind-none, kind-close, item-short, item-odd, item-long, item-whole}
use Rattle.build_namesakes.specs.Rows.{start_of, Held, Row, name_text, name_at, called}

-- ---- one frame

abbrev is_held : Said → Bool
is_held unlaid = false
is_held (opens s x) = false
is_held (holds v) = true
is_held closes = false

no_value : {f : Said} {v : Item} → is_held f ≡ false → f ≡ holds v → ⊥
no_value {f} p e = never (is_held f) (ap is_held e) p

given : (t : Bool) (a : Said) → is_held a ≡ false → is_held (cond t a unlaid) ≡ false
given true a e = e
given false a e = refl

no-open : (p : List ℕ) → is_held (open_shape p) ≡ false
unfolding open_shape
no-open p = given (leb 8 (length p) && is_even (length p)) (opens (u64_at p 0) (codes false (drop 8 p))) refl

no-close : (p : List ℕ) → is_held (close_shape p) ≡ false
unfolding close_shape
no-close p = given (eqb (length p) 0) closes refl

-- only a payload of kind 17 is a value's
of-item : (kind : ℕ) (p : List ℕ) {v : Item} → kind_shape kind p ≡ holds v → item_shape p ≡ holds v
of-item kind p {v} e = by (eqb kind 16) refl (eqb kind 17) refl (eqb kind 18) refl
  where
    by : (a : Bool) → eqb kind 16 ≡ a → (b : Bool) → eqb kind 17 ≡ b → (c : Bool) → eqb kind 18 ≡ c → item_shape p ≡ holds v
    by true x b y c z = absurd (no_value (no-open p) (sym (kind-open kind p (eqb-true kind 16 x)) ∙ e))
    by false x true y c z = sym (kind-item kind p (eqb-false kind 16 x) (eqb-true kind 17 y)) ∙ e
    by false x false y true z = absurd (no_value (no-close p) (sym (kind-close kind p (eqb-false kind 16 x) (eqb-false kind 17 y) (eqb-true kind 18 z)) ∙ e))
    by false x false y false z = absurd (no_value refl (sym (kind-none kind p (eqb-false kind 16 x) (eqb-false kind 17 y) (eqb-false kind 18 z)) ∙ e))

-- a value's frame: it is laid out as one, and its name is there
pub record Named (s : List ℕ) (p : ℕ) (v : Item) : Type 0 where
  pub laid_out : is_laid (shape_of (drop p s)) ≡ true
  pub room : p + 14 ≤ length s
  pub lies : NameLies s (name_text s p)
  pub is : name_at s p ≡ v.name

module _ (s : List ℕ) (p : ℕ) {v : Item} (e : shape_of (drop p s) ≡ holds v) where
  laid-it : is_laid (shape_of (drop p s)) ≡ true
  unfolding is_laid
  laid-it = rw e

  fits : Laid s p
  fits = laid s p laid-it

  abbrev len : ℕ
  len = u32_at s p

  abbrev said : List ℕ
  said = take len (drop (p + 6) s)

  abbrev nlen : ℕ
  nlen = u32_at s (p + 10)

  item : item_shape said ≡ holds v
  item = let f = fits.ends in of-item (u16_at s (p + 4)) said (sym (frame-whole s p (omega arith) len refl (omega arith) (u16_at s (p + 4)) refl) ∙ e)

  inside : p + 6 + len ≤ length s
  inside = let f = fits.ends in omega arith

  says : nlen ≡ u32_at s (p + 6 + 4)
  says = let z : p + 10 ≡ p + 6 + 4 = omega arith in ap (u32_at s) z

  long : 8 ≤ len
  long = by (ltb len 8) refl
    where
      by : (t : Bool) → ltb len 8 ≡ t → 8 ≤ len
      by true q = absurd (no_value refl (sym (item-short s (p + 6) len inside (ltb-true len 8 q)) ∙ item))
      by false q = omega (arith, ltb-false len 8 q)

  even : nlen % 2 ≡ 0
  even = by (eqb (nlen % 2) 0) refl
    where
      by : (t : Bool) → eqb (nlen % 2) 0 ≡ t → nlen % 2 ≡ 0
      by true q = eqb-true (nlen % 2) 0 q
      by false q = absurd (no_value refl (sym (item-odd s (p + 6) len inside long nlen says (eqb-false (nlen % 2) 0 q)) ∙ item))

  short : nlen ≤ len - 8
  short = by (ltb (len - 8) nlen) refl
    where
      by : (t : Bool) → ltb (len - 8) nlen ≡ t → nlen ≤ len - 8
      by true q = absurd (no_value refl (sym (item-long s (p + 6) len inside long nlen says even (ltb-true (len - 8) nlen q)) ∙ item))
      by false q = omega (arith, ltb-false (len - 8) nlen q)

  named-there : name_in s (record { at = p + 6 + 8; len = nlen }) ≡ v.name
  named-there =
      let w = item-whole s (p + 6) len inside long nlen says (u32_at s (p + 6)) refl even short in
      let q = w.is ∙ item in
      injected q
    where
      injected : {a b : Item} → holds a ≡ holds b → a.name ≡ b.name
      injected {a} {b} q = let z : a ≡ b = cc in ap (λ (i : Item). i.name) z

  pub held-named : Named s p v
  unfolding name_at
  held-named =
      let a = fits.ends in
      let b = long in
      let c = short in
      let z : p + 14 ≡ p + 6 + 8 = omega arith in
      record {
        laid_out = laid-it;
        room = omega arith;
        lies = record { inside = omega arith; even = even };
        is = ap (λ (i : ℕ). name_in s (record { at = i; len = nlen })) z ∙ named-there;
      }

-- ---- frames in a row

module _ (s : List ℕ) (at : ℕ) where
  pub start-here : {p : ℕ} → p ≡ at → p ≡ start_of s at 0
  unfolding start_of
  start-here e = e

  pub start-next : (j : ℕ) → start_of s at (j + 1) ≡ start_of s at j + frame_len (drop (start_of s at j) s)
  unfolding start_of
  start-next j = rw add-one

  -- one frame further
  pub start-on : (j : ℕ) {p q : ℕ} → p ≡ start_of s at j → q ≡ p + frame_len (drop p s) → q ≡ start_of s at (j + 1)
  start-on j e f = f ∙ ap (λ (x : ℕ). x + frame_len (drop x s)) e ∙ sym (start-next j)

  pub start-far : (j : ℕ) → at + 6 * j ≤ start_of s at j
  unfolding start_of
  start-far zero = omega arith
  start-far (suc j) = let a = start-far j in let b = frame-some (drop (start_of s at j) s) in omega arith

  pub start-add : (b k : ℕ) → start_of s (start_of s at b) k ≡ start_of s at (b + k)
  unfolding start_of
  start-add b zero = let z : b ≡ b + 0 = omega arith in ap (start_of s at) z
  start-add b (suc k) =
      let z : b + k + 1 ≡ b + suc k = omega arith in
      ap (λ (x : ℕ). x + frame_len (drop x s)) (start-add b k) ∙ sym (start-next (b + k)) ∙ ap (start_of s at) z

  -- so many frames further
  pub start-jump : (size b : ℕ) {p q : ℕ} → size ≤ b → p ≡ start_of s at (b - size) → q ≡ start_of s p size → q ≡ start_of s at b
  start-jump size b l e f =
      let z : b - size + size ≡ b = omega arith in
      f ∙ ap (λ (x : ℕ). start_of s x size) e ∙ start-add (b - size) size ∙ ap (start_of s at) z

  pub called-later : (b k : ℕ) {p : ℕ} → p ≡ start_of s at b → called s p k ≡ called s at (b + k)
  called-later b k e = ap (name_at s) (ap (λ (x : ℕ). start_of s x k) e ∙ start-add b k)

  pub row_on : {n : ℕ} → Row s at n → Held s (start_of s at n) → Row s at (n + 1)
  row_on {n} r h = record { each = λ j l. by j l (eqb j n) refl }
    where
      by : (j : ℕ) → j < n + 1 → (t : Bool) → eqb j n ≡ t → Held s (start_of s at j)
      by j l true q = subst (λ (i : ℕ). Held s (start_of s at i)) (sym (eqb-true j n q)) h
      by j l false q = r.each j (let z = eqb-false j n q in omega arith)

  pub row-less : {m n : ℕ} → Row s at n → m ≤ n → Row s at m
  row-less r l = record { each = λ j k. r.each j (omega arith) }

  pub row-later : {n b p : ℕ} → Row s at n → b ≤ n → p ≡ start_of s at b → Row s p (n - b)
  row-later {n} {b} {p} r l e = record { each = λ j k. subst (λ (x : ℕ). Held s x) (sym (ap (λ (x : ℕ). start_of s x j) e ∙ start-add b j)) (r.each (b + j) (omega arith)) }

  module _ {n : ℕ} (r : Row s at n) where
    pub row-held : {j p : ℕ} → j < n → p ≡ start_of s at j → Held s p
    row-held {j} l e = subst (λ (x : ℕ). Held s x) (sym e) (r.each j l)

    -- there are no more of them than bytes
    pub row-few : n ≤ length s
    row-few = by (eqb n 0) refl
      where
        by : (t : Bool) → eqb n 0 ≡ t → n ≤ length s
        by true q = let z = eqb-true n 0 q in omega arith
        by false q =
            let z = eqb-false n 0 q in
            let a = (held-named s (start_of s at (n - 1)) (r.each (n - 1) (omega arith)).1).room in
            let b = start-far (n - 1) in
            omega arith

-- what is known where a value's frame starts
module _ (s : List ℕ) (p : ℕ) (h : Held s p) where
  pub held-laid : is_laid (shape_of (drop p s)) ≡ true
  held-laid = (held-named s p h.1).laid_out

  pub held-room : p + 14 ≤ length s
  held-room = (held-named s p h.1).room

  pub name-made : {n : ℕ} → n ≡ u32_at s (p + 10) → (◌≡◌ {A = Text} (record { at = p + 14; len = n }) (name_text s p)) × (p + 14 + n ≤ length s)
  name-made e = let l = (held-named s p h.1).lies.inside in (ap (λ (n : ℕ). record { at = p + 14; len = n }) e, omega arith)

-- a name that was read
pub read_name : (s : List ℕ) (p : ℕ) {q : ℕ} {t : Text} → t ≡ name_text s p → p ≡ q → name_in s t ≡ name_at s q
unfolding name_at
read_name s p e f = ap (name_in s) (e ∙ ap (name_text s) f)

-- it was compared with another
pub read-compared : (s : List ℕ) (p q : ℕ) (cs : List ℕ) {t : Text} {r : Bool} → t ≡ name_text s p → p ≡ q → r ≡ same_name (name_in s t) cs → same_name (name_at s q) cs ≡ r
read-compared s p q cs e f c = sym (c ∙ ap (λ (x : List ℕ). same_name x cs) (read_name s p e f))
