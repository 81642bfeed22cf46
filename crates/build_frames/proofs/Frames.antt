-- The frame at a position, a law for each way out of the code that reads it.
use Prim.Native.Nat.{ℕ, zero, suc, ◌+◌, ◌-◌, ◌%◌, ◌≤◌, ◌<◌}
use native.Mathlib.Nat.{add_assoc, add-zero}
use native.Mathlib.Omega.{arith}
use mathlib.Core.Path.{◌≡◌, refl, sym, ap, ap₂, ◌∙◌}
use mathlib.Core.Bool.{Bool, true, false}
use mathlib.Core.List.{List, [], ◌∷◌}
use lib.Dec.{leb}
use lib.ListN.{length, take, drop, length-drop}
use lib.Seq.{get_or-drop, drop-drop, take-nil, take-take}
use borrow.Author.Tests.{eq-eqb, ne_eqb, le-leb, lt-leb, leb-true}
use Rattle.fields.specs.Number.{u16_at, u32_at, u64_at}
use Rattle.fields.proofs.Bools.{and-inv, never}
use Rattle.cells.proofs.Parts.{part_length, u32-part, u64-part}
use Rattle.names.specs.Codes.{codes}
use Rattle.forest.specs.Forest.{Item}
use Rattle.forest.specs.Faults.{Shape as Said, unlaid, opens, holds, closes, frame_len, is_there, is_laid, open_shape, item_shape, close_shape, kind_shape, shape_of}
use Rattle.build_frames.specs.declared.Held.{Held}
use Rattle.build_frames.specs.declared.Shape.{Shape}
use Rattle.build_frames.specs.declared.Shape.TheVariants.{Unlaid, Opens, Holds, Closes}
use Rattle.build_frames.specs.Terms.{text_in, name_in, ReadAs}

pub read_none : (s : List ℕ) {f : Said} → f ≡ unlaid → ReadAs s f Unlaid
read_none s e = record { is = sym e; lies = tt }

pub read-end : (s : List ℕ) {f : Said} → f ≡ closes → ReadAs s f Closes
read-end s e = record { is = sym e; lies = tt }

pub read_by : {s : List ℕ} {f g : Said} {r : Shape} → f ≡ g → ReadAs s g r → ReadAs s f r
read_by e x = record { is = x.is ∙ sym e; lies = x.lies }

-- ---- a part of the stream

drop-take : (k n : ℕ) (l : List ℕ) → drop k (take n l) ≡ take (n - k) (drop k l)
drop-take zero n l = let e : n ≡ n - 0 = omega arith in ap (λ (m : ℕ). take m l) e
drop-take (suc k) zero l = let e : 0 ≡ 0 - suc k = omega arith in ap (λ (m : ℕ). take m (drop (suc k) l)) e
drop-take (suc k) (suc n) [] = sym (take-nil (suc n - suc k))
drop-take (suc k) (suc n) (x ∷ l) = let e : n - k ≡ suc n - suc k = omega arith in drop-take k n l ∙ ap (λ (m : ℕ). take m (drop k l)) e

module _ (s : List ℕ) (at : ℕ) where
  pub u16-drop : (i : ℕ) → u16_at (drop at s) i ≡ u16_at s (at + i)
  unfolding u16_at
  u16-drop i = rw (get_or-drop at s i 0, get_or-drop at s (i + 1) 0, ← add_assoc at i 1)

  pub u32-drop : (i : ℕ) → u32_at (drop at s) i ≡ u32_at s (at + i)
  unfolding u32_at
  u32-drop i = rw (u16-drop i, u16-drop (i + 2), ← add_assoc at i 2)

  -- what is left of a part
  pub later : (len k : ℕ) → drop k (take len (drop at s)) ≡ take (len - k) (drop (at + k) s)
  later len k = drop-take k len (drop at s) ∙ ap (take (len - k)) (drop-drop k at s)

-- ---- the payload, by its kind

module _ (s : List ℕ) (at len : ℕ) (room : at + len ≤ length s) where
  pub open-short : len < 8 → open_shape (take len (drop at s)) ≡ unlaid
  unfolding open_shape
  open-short q = rw (part_length s at len room, lt-leb 8 len q)

  pub item-short : len < 8 → item_shape (take len (drop at s)) ≡ unlaid
  unfolding item_shape
  item-short q = rw (part_length s at len room, lt-leb 8 len q)

  pub close-some : (len ≡ 0 → ⊥) → close_shape (take len (drop at s)) ≡ unlaid
  unfolding close_shape
  close-some q = rw (part_length s at len room, ne_eqb len 0 q)

  pub close-none : len ≡ 0 → close_shape (take len (drop at s)) ≡ closes
  unfolding close_shape
  close-none q = rw (part_length s at len room, eq-eqb len 0 q)

  module _ (long : 8 ≤ len) where
    pub open-odd : (len % 2 ≡ 0 → ⊥) → open_shape (take len (drop at s)) ≡ unlaid
    unfolding open_shape
    open-odd q = rw (part_length s at len room, le-leb 8 len long, ne_eqb (len % 2) 0 q)

    pub open-whole : (n : ℕ) → n ≡ u64_at s at → len % 2 ≡ 0
        → ReadAs s (open_shape (take len (drop at s))) (Opens (record { stamp = n; name = record { at = at + 8; len = len - 8 } }))
    unfolding open_shape name_in
    open-whole n e q =
        let a = u64-part s at len 0 (omega arith) ∙ ap (u64_at s) (add-zero at) in
        let b = later s at len 8 in
        record {
          is = rw (part_length s at len room, le-leb 8 len long, eq-eqb (len % 2) 0 q) (ap₂ opens (e ∙ sym a) (ap (codes false) (sym b)));
          lies = record { inside = omega arith; even = omega arith };
        }

    -- the length of the name that the payload says
    named : u32_at (take len (drop at s)) 4 ≡ u32_at s (at + 4)
    named = u32-part s at len 4 (omega arith)

    module _ (n : ℕ) (is : n ≡ u32_at s (at + 4)) where
      says : u32_at (take len (drop at s)) 4 ≡ n
      says = named ∙ sym is

      pub item-odd : (n % 2 ≡ 0 → ⊥) → item_shape (take len (drop at s)) ≡ unlaid
      unfolding item_shape
      item-odd q = rw (part_length s at len room, le-leb 8 len long, says, ne_eqb (n % 2) 0 q)

      pub item-long : n % 2 ≡ 0 → len - 8 < n → item_shape (take len (drop at s)) ≡ unlaid
      unfolding item_shape
      item-long e q = rw (part_length s at len room, le-leb 8 len long, says, eq-eqb (n % 2) 0 e, lt-leb n (len - 8) q)

      module _ (k : ℕ) (kind-is : k ≡ u32_at s at) (even : n % 2 ≡ 0) (fits : n ≤ len - 8) where
        abbrev held : Held
        held = record { kind = k; name = record { at = at + 8; len = n }; «data» = record { at = at + 8 + n; len = len - 8 - n } }

        name-is : name_in s held.name ≡ codes false (take n (drop 8 (take len (drop at s))))
        unfolding name_in
        name-is = ap (codes false) (sym (ap (take n) (later s at len 8) ∙ take-take n (len - 8) (drop (at + 8) s) fits))

        bytes-are : text_in s held.«data» ≡ drop n (drop 8 (take len (drop at s)))
        bytes-are =
            let x : len - (8 + n) ≡ len - 8 - n = omega arith in
            let y : at + (8 + n) ≡ at + 8 + n = omega arith in
            sym (drop-drop n 8 (take len (drop at s)) ∙ later s at len (8 + n) ∙ ap₂ (λ (a b : ℕ). take a (drop b s)) x y)

        pub item-whole : ReadAs s (item_shape (take len (drop at s))) (Holds held)
        unfolding item_shape
        item-whole =
            let a : k ≡ u32_at (take len (drop at s)) 0 = kind-is ∙ sym (u32-part s at len 0 (omega arith) ∙ ap (u32_at s) (add-zero at)) in
            record {
              is = rw (part_length s at len room, le-leb 8 len long, says, eq-eqb (n % 2) 0 even, le-leb n (len - 8) fits)
                  (ap holds (made a name-is bytes-are));
              lies = record { name = record { inside = omega arith; even = even }; bytes = omega arith };
            }
          where
            made : {a a' : ℕ} {b b' c c' : List ℕ} → a ≡ a' → b ≡ b' → c ≡ c'
                → ◌≡◌ {A = Item} (record { kind = a; name = b; bytes = c }) (record { kind = a'; name = b'; bytes = c' })
            made p q r = cc

-- ---- the kind

module _ (kind : ℕ) (p : List ℕ) where
  pub kind-open : kind ≡ 16 → kind_shape kind p ≡ open_shape p
  unfolding kind_shape
  kind-open e = rw (eq-eqb kind 16 e)

  module _ (no-open : kind ≡ 16 → ⊥) where
    pub kind-item : kind ≡ 17 → kind_shape kind p ≡ item_shape p
    unfolding kind_shape
    kind-item e = rw (ne_eqb kind 16 no-open, eq-eqb kind 17 e)

    module _ (no_item : kind ≡ 17 → ⊥) where
      pub kind-none : (kind ≡ 18 → ⊥) → kind_shape kind p ≡ unlaid
      unfolding kind_shape
      kind-none e = rw (ne_eqb kind 16 no-open, ne_eqb kind 17 no_item, ne_eqb kind 18 e)

      pub kind-close : kind ≡ 18 → kind_shape kind p ≡ close_shape p
      unfolding kind_shape
      kind-close e = rw (ne_eqb kind 16 no-open, ne_eqb kind 17 no_item, eq-eqb kind 18 e)

-- ---- the frame

module _ (s : List ℕ) (at : ℕ) where
  length-is : u32_at (drop at s) 0 ≡ u32_at s at
  length-is = u32-drop s at 0 ∙ ap (u32_at s) (add-zero at)

  frame_is : frame_len (drop at s) ≡ 6 + u32_at s at
  unfolding frame_len
  frame_is = ap (λ (n : ℕ). 6 + n) length-is

  pub head-cut : length s - at < 6 → shape_of (drop at s) ≡ unlaid
  unfolding shape_of is_there
  head-cut q = rw (length-drop at s, lt-leb 6 (length s - at) q)

  module _ (head : 6 ≤ length s - at) (n : ℕ) (is : n ≡ u32_at s at) where
    long-is : frame_len (drop at s) ≡ 6 + n
    long-is = frame_is ∙ ap (λ (k : ℕ). 6 + k) (sym is)

    pub payload_cut : length s - at - 6 < n → shape_of (drop at s) ≡ unlaid
    unfolding shape_of is_there
    payload_cut q = rw (length-drop at s, le-leb 6 (length s - at) head, long-is, lt-leb (6 + n) (length s - at) (omega arith))

    pub frame-whole : n ≤ length s - at - 6 → (kind : ℕ) → kind ≡ u16_at s (at + 4)
        → shape_of (drop at s) ≡ kind_shape kind (take n (drop (at + 6) s))
    unfolding shape_of is_there
    frame-whole q kind e =
        rw (length-drop at s, le-leb 6 (length s - at) head, long-is, le-leb (6 + n) (length s - at) (omega arith))
        (ap₂ kind_shape (u16-drop s at 4 ∙ sym e) (ap₂ take (length-is ∙ sym is) (drop-drop 6 at s)))

-- a frame that is laid out as one is there
pub record Laid (s : List ℕ) (at : ℕ) : Type 0 where
  pub is : frame_len (drop at s) ≡ 6 + u32_at s at
  pub ends : at + (6 + u32_at s at) ≤ length s

module _ (s : List ℕ) (at : ℕ) where
  pub there : is_laid (shape_of (drop at s)) ≡ true → is_there (drop at s) ≡ true
  unfolding is_laid shape_of
  there e = by (is_there (drop at s)) refl
    where
      by : (t : Bool) → is_there (drop at s) ≡ t → t ≡ true
      by true q = refl
      by false q = absurd (never _ (rw q at e) refl)

  pub laid : is_laid (shape_of (drop at s)) ≡ true → Laid s at
  unfolding is_there
  laid e =
      let b = and-inv (leb 6 (length (drop at s))) (leb (frame_len (drop at s)) (length (drop at s))) (there e) in
      let f = leb-true (frame_len (drop at s)) (length (drop at s)) b.1 in
      let l = length-drop at s in
      let i = frame_is s at in
      record { is = i; ends = omega arith }
