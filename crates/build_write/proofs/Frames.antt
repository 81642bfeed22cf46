-- What a frame is, by its kind alone, where it is laid out as one; and what is read of it then, with no test more.
use Prim.Native.Nat.{ℕ, ◌+◌, ◌-◌, ◌%◌, ◌≤◌}
use native.Mathlib.Omega.{arith}
use mathlib.Core.Path.{◌≡◌, refl, sym, ap, ap₂, subst, ◌∙◌}
use mathlib.Core.Bool.{Bool, true, false, cond, ◌&&◌}
use mathlib.Core.List.{List}
use lib.Dec.{eqb, leb}
use lib.ListN.{length, take, drop}
use borrow.Author.Tests.{eqb-true, eqb-false, ne_eqb, leb-true, leb-false, le-ltb}
use Rattle.fields.specs.Number.{u16_at, u32_at, u64_at}
use Rattle.fields.proofs.Bools.{never}
use Rattle.names.specs.Codes.{codes}
use Rattle.forest.specs.Forest.{Item}
use Rattle.forest.specs.Faults.{Shape as Said, unlaid, opens, holds, closes, shape_of, is_laid, is_even, payload, open_shape, item_shape, close_shape, kind_shape}
use Rattle.build_frames.specs.declared.Held.{Held}
use Rattle.build_frames.proofs.Frames.{u16-drop, open-short, open-odd, open-whole, item-short, item-odd, item-long, item-whole, kind-open, kind-item, kind-close, kind-none, frame-whole, there, laid, head-cut}
use Rattle.build_frames.proofs.Arms.{said-opens, opens-lies, said-holds, holds-lies}
use Rattle.build_write.specs.Terms.{is_value, is_opening, Holding, Opened}

either : (f : Said → Bool) (t : Bool) (a b : Said) → f a ≡ false → f b ≡ false → f (cond t a b) ≡ false
either f true a b p q = p
either f false a b p q = q

where-laid : (f : Said → Bool) (t : Bool) (a : Said) → is_laid (cond t a unlaid) ≡ true → f a ≡ true → f (cond t a unlaid) ≡ true
unfolding is_laid
where-laid f true a e p = p
where-laid f false a e p = absurd (never _ e refl)

module _ (p : List ℕ) where
  abbrev opening-fits : Bool
  opening-fits = leb 8 (length p) && is_even (length p)

  abbrev opening : Said
  opening = opens (u64_at p 0) (codes false (drop 8 p))

  open-no-value : is_value (open_shape p) ≡ false
  unfolding is_value open_shape
  open-no-value = either is_value opening-fits opening unlaid refl refl

  abbrev item-fits : Bool
  item-fits = leb 8 (length p) && (is_even (u32_at p 4) && leb (u32_at p 4) (length p - 8))

  abbrev item : Item
  item = record { kind = u32_at p 0; name = codes false (take (u32_at p 4) (drop 8 p)); bytes = drop (u32_at p 4) (drop 8 p) }

  item-value : is_laid (item_shape p) ≡ true → is_value (item_shape p) ≡ true
  unfolding is_value item_shape
  item-value e = where-laid is_value item-fits (holds item) e refl

  close-no-value : is_value (close_shape p) ≡ false
  unfolding is_value close_shape
  close-no-value = either is_value (eqb (length p) 0) closes unlaid refl refl

  open-opening : is_laid (open_shape p) ≡ true → is_opening (open_shape p) ≡ true
  unfolding is_opening open_shape
  open-opening e = where-laid is_opening opening-fits opening e refl

  item-no-opening : is_opening (item_shape p) ≡ false
  unfolding is_opening item_shape
  item-no-opening = either is_opening item-fits (holds item) unlaid refl refl

  close-no-opening : is_opening (close_shape p) ≡ false
  unfolding is_opening close_shape
  close-no-opening = either is_opening (eqb (length p) 0) closes unlaid refl refl

  kind-value : (k : ℕ) → is_laid (kind_shape k p) ≡ true → eqb k 17 ≡ is_value (kind_shape k p)
  unfolding is_value
  kind-value k e = by (eqb k 16) (eqb k 17) (eqb k 18) refl refl refl
    where
      by : (t u v : Bool) → eqb k 16 ≡ t → eqb k 17 ≡ u → eqb k 18 ≡ v → eqb k 17 ≡ is_value (kind_shape k p)
      by true u v a b c = let q = eqb-true k 16 a in ne_eqb k 17 (λ z. omega (arith, q, z)) ∙ sym (ap is_value (kind-open k p q) ∙ open-no-value)
      by false true v a b c = let q = kind-item k p (eqb-false k 16 a) (eqb-true k 17 b) in b ∙ sym (ap is_value q ∙ item-value (ap is_laid (sym q) ∙ e))
      by false false true a b c = b ∙ sym (ap is_value (kind-close k p (eqb-false k 16 a) (eqb-false k 17 b) (eqb-true k 18 c)) ∙ close-no-value)
      by false false false a b c = b ∙ sym (ap is_value (kind-none k p (eqb-false k 16 a) (eqb-false k 17 b) (eqb-false k 18 c)))

  kind-opening : (k : ℕ) → is_laid (kind_shape k p) ≡ true → eqb k 16 ≡ is_opening (kind_shape k p)
  unfolding is_opening
  kind-opening k e = by (eqb k 16) (eqb k 17) (eqb k 18) refl refl refl
    where
      by : (t u v : Bool) → eqb k 16 ≡ t → eqb k 17 ≡ u → eqb k 18 ≡ v → eqb k 16 ≡ is_opening (kind_shape k p)
      by true u v a b c = let q = kind-open k p (eqb-true k 16 a) in a ∙ sym (ap is_opening q ∙ open-opening (ap is_laid (sym q) ∙ e))
      by false true v a b c = a ∙ sym (ap is_opening (kind-item k p (eqb-false k 16 a) (eqb-true k 17 b)) ∙ item-no-opening)
      by false false true a b c = a ∙ sym (ap is_opening (kind-close k p (eqb-false k 16 a) (eqb-false k 17 b) (eqb-true k 18 c)) ∙ close-no-opening)
      by false false false a b c = a ∙ sym (ap is_opening (kind-none k p (eqb-false k 16 a) (eqb-false k 17 b) (eqb-false k 18 c)))

module _ (s : List ℕ) (at : ℕ) (h : is_laid (shape_of (drop at s)) ≡ true) where
  pub kind-there : at + 4 + 2 ≤ length s
  kind-there = let e = laid s at h in let f = e.ends in omega arith

  module _ (k : ℕ) (e : k ≡ u16_at s (at + 4)) where
    kind-shaped : shape_of (drop at s) ≡ kind_shape k (payload (drop at s))
    unfolding shape_of
    kind-shaped = rw (there s at h) (ap (λ (n : ℕ). kind_shape n (payload (drop at s))) (u16-drop s at 4 ∙ sym e))

    pub value-told : eqb k 17 ≡ is_value (shape_of (drop at s))
    value-told = kind-value (payload (drop at s)) k (ap is_laid (sym kind-shaped) ∙ h) ∙ ap is_value (sym kind-shaped)

    pub opening-told : eqb k 16 ≡ is_opening (shape_of (drop at s))
    opening-told = kind-opening (payload (drop at s)) k (ap is_laid (sym kind-shaped) ∙ h) ∙ ap is_opening (sym kind-shaped)

-- no frame stands at the end
pub nothing-opens : (s : List ℕ) (at : ℕ) → at ≡ length s → false ≡ is_opening (shape_of (drop at s))
unfolding is_opening
nothing-opens s at e = sym (ap is_opening (head-cut s at (omega (arith, e))))

-- ---- what is read of a frame whose kind is known

opening-laid : (f : Said) → is_opening f ≡ true → is_laid f ≡ true
unfolding is_opening is_laid
opening-laid unlaid e = e
opening-laid (opens s x) e = refl
opening-laid (holds v) e = absurd (never _ e refl)
opening-laid closes e = absurd (never _ e refl)

value-laid : (f : Said) → is_value f ≡ true → is_laid f ≡ true
unfolding is_value is_laid
value-laid unlaid e = e
value-laid (opens s x) e = absurd (never _ e refl)
value-laid (holds v) e = refl
value-laid closes e = absurd (never _ e refl)

-- where the parts of such a frame lie
pub record OpeningThere (s : List ℕ) (at : ℕ) : Type 0 where
  pub ends : at + (6 + u32_at s at) ≤ length s
  pub long : 8 ≤ u32_at s at

pub record ValueThere (s : List ℕ) (at : ℕ) : Type 0 where
  pub ends : at + (6 + u32_at s at) ≤ length s
  pub long : 8 ≤ u32_at s at
  pub fits : u32_at s (at + 6 + 4) ≤ u32_at s at - 8

module _ (s : List ℕ) (at : ℕ) where
  abbrev len : ℕ
  len = u32_at s at

  abbrev body : List ℕ
  body = take len (drop (at + 6) s)

  -- the frame is there, and says what its payload says by its kind
  module _ (h : is_laid (shape_of (drop at s)) ≡ true) where
    whole : shape_of (drop at s) ≡ kind_shape (u16_at s (at + 4)) body
    whole = let e = (laid s at h).ends in frame-whole s at (omega (arith, e)) len refl (omega (arith, e)) (u16_at s (at + 4)) refl

  module _ (e : is_opening (shape_of (drop at s)) ≡ true) where
    opened-laid : is_laid (shape_of (drop at s)) ≡ true
    opened-laid = opening-laid (shape_of (drop at s)) e

    opened : shape_of (drop at s) ≡ open_shape body
    opened =
        let k = u16_at s (at + 4) in
        whole opened-laid ∙ kind-open k body (eqb-true k 16 (opening-told s at opened-laid k refl ∙ e))

    opening-ends : at + (6 + len) ≤ length s
    opening-ends = (laid s at opened-laid).ends

    room : at + 6 + len ≤ length s
    room = omega (arith, opening-ends)

    opening-long : 8 ≤ len
    unfolding is_opening
    opening-long = by (leb 8 len) refl
      where
        by : (t : Bool) → leb 8 len ≡ t → 8 ≤ len
        by true q = leb-true 8 len q
        by false q = absurd (never _ e (ap is_opening (opened ∙ open-short s (at + 6) len room (leb-false 8 len q))))

    opening-even : len % 2 ≡ 0
    unfolding is_opening
    opening-even = by (eqb (len % 2) 0) refl
      where
        by : (t : Bool) → eqb (len % 2) 0 ≡ t → len % 2 ≡ 0
        by true q = eqb-true (len % 2) 0 q
        by false q = absurd (never _ e (ap is_opening (opened ∙ open-odd s (at + 6) len room opening-long (eqb-false (len % 2) 0 q))))

    pub opening-there : OpeningThere s at
    opening-there = record { ends = opening-ends; long = opening-long }

    pub opening-read : (m n : ℕ) → m ≡ len → n ≡ u64_at s (at + 6) → Opened s at (record { stamp = n; name = record { at = at + 6 + 8; len = m - 8 } })
    opening-read m n p q =
        let r = open-whole s (at + 6) len room opening-long n q opening-even in
        subst (λ (k : ℕ). Opened s at (record { stamp = n; name = record { at = at + 6 + 8; len = k - 8 } })) (sym p)
        (record { is = opened ∙ said-opens r refl; lies = opens-lies r refl })

  module _ (e : is_value (shape_of (drop at s)) ≡ true) where
    held-laid : is_laid (shape_of (drop at s)) ≡ true
    held-laid = value-laid (shape_of (drop at s)) e

    held : shape_of (drop at s) ≡ item_shape body
    held =
        let k = u16_at s (at + 4) in
        let is = eqb-true k 17 (value-told s at held-laid k refl ∙ e) in
        whole held-laid ∙ kind-item k body (λ z. omega (arith, is, z)) is

    value-ends : at + (6 + len) ≤ length s
    value-ends = (laid s at held-laid).ends

    in-room : at + 6 + len ≤ length s
    in-room = omega (arith, value-ends)

    value-long : 8 ≤ len
    unfolding is_value
    value-long = by (leb 8 len) refl
      where
        by : (t : Bool) → leb 8 len ≡ t → 8 ≤ len
        by true q = leb-true 8 len q
        by false q = absurd (never _ e (ap is_value (held ∙ item-short s (at + 6) len in-room (leb-false 8 len q))))

    abbrev n : ℕ
    n = u32_at s (at + 6 + 4)

    value-even : n % 2 ≡ 0
    unfolding is_value
    value-even = by (eqb (n % 2) 0) refl
      where
        by : (t : Bool) → eqb (n % 2) 0 ≡ t → n % 2 ≡ 0
        by true q = eqb-true (n % 2) 0 q
        by false q = absurd (never _ e (ap is_value (held ∙ item-odd s (at + 6) len in-room value-long n refl (eqb-false (n % 2) 0 q))))

    value-fits : n ≤ len - 8
    unfolding is_value
    value-fits = by (leb n (len - 8)) refl
      where
        by : (t : Bool) → leb n (len - 8) ≡ t → n ≤ len - 8
        by true q = leb-true n (len - 8) q
        by false q = absurd (never _ e (ap is_value (held ∙ item-long s (at + 6) len in-room value-long n refl value-even (leb-false n (len - 8) q))))

    pub value_there : ValueThere s at
    value_there = record { ends = value-ends; long = value-long; fits = value-fits }

    made : ℕ → ℕ → ℕ → Held
    made m l k = record { kind = k; name = record { at = at + 6 + 8; len = l }; «data» = record { at = at + 6 + 8 + l; len = m - 8 - l } }

    pub value_read : (m l k : ℕ) → m ≡ len → l ≡ n → k ≡ u32_at s (at + 6)
        → Holding s at (record { kind = k; name = record { at = at + 6 + 8; len = l }; «data» = record { at = at + 6 + 8 + l; len = m - 8 - l } })
    unfolding made
    value_read m l k p q r₀ =
        let r = item-whole s (at + 6) len in-room value-long n refl k r₀ value-even value-fits in
        subst (Holding s at) (sym (ap₂ (λ (x y : ℕ). made x y k) p q)) (record { is = held ∙ said-holds r refl; lies = holds-lies r refl })

-- for the tactics: what the kind of a frame tells, and where the parts of one lie
pub ruleset kind_ways = (kind-there, value-told, opening-told, nothing-opens, le-ltb)

pub ruleset opening_ways = (opening-there, opening-read)

pub ruleset value_ways = (value_there, value_read)
