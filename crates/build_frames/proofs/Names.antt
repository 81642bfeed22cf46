-- Names and data of a frame: how long they are, and the tests of one frame by their lengths.
use Prim.Native.Nat.{ℕ, suc, ◌+◌, ◌*◌, ◌/◌, ◌%◌, ◌≤◌, ◌<◌}
use native.Mathlib.Omega.{arith}
use mathlib.Core.Path.{◌≡◌, refl, sym, ap, ◌∙◌}
use mathlib.Core.Bool.{Bool, true, false, not}
use mathlib.Core.List.{List, ◌∷◌}
use lib.Dec.{leb, ltb}
use lib.ListN.{length, get_or, drop, drop_of_length-le, get_or-eq_default}
use lib.Seq.{drop-cons, get_or-take, get_or-drop}
use borrow.Author.Tests.{le-leb, lt-leb, leb-true, lt-ltb, ltb-true, ltb-false}
use Rattle.fields.proofs.Bools.{and-inv}
use Rattle.cells.proofs.Parts.{part_length}
use Rattle.names.specs.Codes.{codes, has_code, backslash}
use Rattle.names.proofs.LawsCodes.{wide-length}
use Rattle.stream.specs.Stream.{wide}
use Rattle.stream.proofs.Laws.{length-wide, stored-wide as stream-wide}
use Rattle.forest.specs.Faults.{opens, holds, is_named, is_small}
use Rattle.layout.specs.Layout.{is_narrow, stored}
use Rattle.build_frames.specs.declared.Text.{Text}
use Rattle.build_frames.specs.declared.Held.{Held}
use Rattle.build_frames.specs.Terms.{text_in, name_in, item_in, TextLies, NameLies, HeldLies, HeldFits}

module _ (s : List ℕ) (t : Text) (p : TextLies s t) where
  pub text-length : length (text_in s t) ≡ t.len
  text-length = part_length s t.at t.len p

  pub name-length : length (name_in s t) ≡ t.len / 2
  unfolding name_in
  name-length = wide-length (text_in s t) ∙ ap (λ (n : ℕ). n / 2) text-length

-- a name's bytes are two for each character, and are those of its codes
module _ (s : List ℕ) (t : Text) (l : NameLies s t) where
  pub name-bytes : 2 * length (name_in s t) ≡ t.len
  name-bytes = let e = name-length s t l.inside in omega (arith, l.even)

  pub name-text : ((i : ℕ) → get_or s i 0 < 256) → wide (name_in s t) ≡ text_in s t
  unfolding name_in
  name-text f = stream-wide (text_in s t) (λ i. below i) (ap (λ (n : ℕ). n % 2) (text-length s t l.inside) ∙ l.even)
    where
      below : (i : ℕ) → get_or (text_in s t) i 0 < 256
      below i = by (ltb i t.len) refl
        where
          by : (b : Bool) → ltb i t.len ≡ b → get_or (text_in s t) i 0 < 256
          by true e = rw (get_or-take t.len (drop t.at s) i 0 (ltb-true i t.len e), get_or-drop t.at s i 0) (f (t.at + i))
          by false e =
              let z = ltb-false i t.len e in
              let y = text-length s t l.inside in
              rw (get_or-eq_default (text_in s t) 0 {n = i} (omega arith)) (omega arith)

-- ---- the test of a key's name

module _ (s : List ℕ) (t : Text) (l : NameLies s t) (n : ℕ) where
  pub key-empty : t.len < 2 → is_named (opens n (name_in s t)) ≡ false
  unfolding is_named
  key-empty q = rw (name-length s t l.inside, lt-leb 1 (t.len / 2) (omega arith))

  pub key_long : 2 ≤ t.len → 510 < t.len → is_named (opens n (name_in s t)) ≡ false
  unfolding is_named
  key_long p q =
      rw (name-length s t l.inside, le-leb 1 (t.len / 2) (omega arith), lt-leb (t.len / 2) 255 (omega (arith, l.even)))

  pub key-by-backslash : 2 ≤ t.len → t.len ≤ 510 → is_named (opens n (name_in s t)) ≡ not (has_code backslash (name_in s t))
  unfolding is_named
  key-by-backslash p q = rw (name-length s t l.inside, le-leb 1 (t.len / 2) (omega arith), le-leb (t.len / 2) 255 (omega arith))

  -- a name that is not refused
  pub key-short : is_named (opens n (name_in s t)) ≡ true → t.len ≤ 510
  unfolding is_named
  key-short e =
      let a = and-inv (leb 1 (length (name_in s t))) _ e in
      let b = and-inv (leb (length (name_in s t)) 255) _ a.1 in
      let f = leb-true (length (name_in s t)) 255 b.0 in
      let g = name-length s t l.inside in
      omega (arith, l.even)

-- ---- the tests of a value's name and data

module _ (s : List ℕ) (v : Held) (l : HeldLies s v) where
  pub value-named : ltb v.name.len 32768 ≡ is_named (holds (item_in s v))
  unfolding is_named
  value-named = rw (name-length s v.name l.name.inside) (by (ltb v.name.len 32768) refl)
    where
      by : (t : Bool) → ltb v.name.len 32768 ≡ t → t ≡ leb (v.name.len / 2) 16383
      by true e = let q = ltb-true v.name.len 32768 e in sym (le-leb (v.name.len / 2) 16383 (omega arith))
      by false e = let q = ltb-false v.name.len 32768 e in sym (lt-leb (v.name.len / 2) 16383 (omega arith))

  pub value-small : leb v.«data».len 1048576 ≡ is_small (holds (item_in s v))
  unfolding is_small
  value-small = ap (λ (n : ℕ). leb n 1048576) (sym (text-length s v.«data» l.bytes))

  -- a value that is not refused
  pub held_fits : is_named (holds (item_in s v)) ≡ true → is_small (holds (item_in s v)) ≡ true → HeldFits s v
  held_fits e f =
      let a = ltb-true v.name.len 32768 (value-named ∙ e) in
      let b = leb-true v.«data».len 1048576 (value-small ∙ f) in
      record { lies = l; short = omega arith; small = omega arith }

-- ---- whether each code is below 256

module _ (s : List ℕ) where
  codes-two : (i j k : ℕ) → j ≡ i + 1 → k ≡ i + 2 → k ≤ length s
      → codes false (drop i s) ≡ (get_or s i 0 + get_or s j 0 * 256) ∷ codes false (drop k s)
  unfolding codes
  codes-two i j k e f h =
      let x : suc i ≡ j = omega arith in
      let y : suc (suc i) ≡ k = omega arith in
      rw (← x, ← y, drop-cons s i 0 (omega arith), drop-cons s (suc i) 0 (omega arith))

  pub narrow-on : (i j k : ℕ) → j ≡ i + 1 → k ≡ i + 2 → k ≤ length s → get_or s i 0 < 256 → get_or s j 0 ≡ 0
      → is_narrow (codes false (drop i s)) ≡ is_narrow (codes false (drop k s))
  unfolding is_narrow
  narrow-on i j k e f h low high = rw (codes-two i j k e f h, lt-ltb (get_or s i 0 + get_or s j 0 * 256) 256 (omega arith))

  -- a name that is narrow from a position on
  high-none : (i j k : ℕ) → j ≡ i + 1 → k ≡ i + 2 → k ≤ length s → is_narrow (codes false (drop i s)) ≡ true
      → (get_or s j 0 ≡ 0) × (is_narrow (codes false (drop k s)) ≡ true)
  unfolding is_narrow
  high-none i j k e f h n =
      let b = and-inv (ltb (get_or s i 0 + get_or s j 0 * 256) 256) (is_narrow (codes false (drop k s))) (rw (codes-two i j k e f h) at n) in
      let g = ltb-true (get_or s i 0 + get_or s j 0 * 256) 256 b.0 in
      (omega arith, b.1)

  by-absurd : (t : Bool) → (t ≡ true → ⊥) → t ≡ false
  by-absurd true n = absurd (n refl)
  by-absurd false n = refl

  pub narrow-stop : (i j k : ℕ) → j ≡ i + 1 → k ≡ i + 2 → k ≤ length s → (get_or s j 0 ≡ 0 → ⊥) → is_narrow (codes false (drop i s)) ≡ false
  narrow-stop i j k e f h n = by-absurd _ (λ t. n (high-none i j k e f h t).0)

  pub narrow-end : (i : ℕ) → length s ≤ i → is_narrow (codes false (drop i s)) ≡ true
  unfolding is_narrow codes
  narrow-end i h = rw (drop_of_length-le s h)

  -- four characters at once
  module _ (i : ℕ) (h : i + 8 ≤ length s) (n : ℕ) (is : n ≡ get_or s (i + 1) 0 + get_or s (i + 3) 0 + get_or s (i + 5) 0 + get_or s (i + 7) 0) where
    pub four-on : ((j : ℕ) → get_or s j 0 < 256) → n ≡ 0 → is_narrow (codes false (drop i s)) ≡ is_narrow (codes false (drop (i + 8) s))
    four-on low z =
        narrow-on i (i + 1) (i + 2) (omega arith) (omega arith) (omega arith) (low i) (omega arith)
        ∙ narrow-on (i + 2) (i + 3) (i + 4) (omega arith) (omega arith) (omega arith) (low (i + 2)) (omega arith)
        ∙ narrow-on (i + 4) (i + 5) (i + 6) (omega arith) (omega arith) (omega arith) (low (i + 4)) (omega arith)
        ∙ narrow-on (i + 6) (i + 7) (i + 8) (omega arith) (omega arith) (omega arith) (low (i + 6)) (omega arith)

    pub four-stop : (n ≡ 0 → ⊥) → is_narrow (codes false (drop i s)) ≡ false
    four-stop z = by-absurd _ (λ t.
        let a = high-none i (i + 1) (i + 2) (omega arith) (omega arith) (omega arith) t in
        let b = high-none (i + 2) (i + 3) (i + 4) (omega arith) (omega arith) (omega arith) a.1 in
        let c = high-none (i + 4) (i + 5) (i + 6) (omega arith) (omega arith) (omega arith) b.1 in
        let d = high-none (i + 6) (i + 7) (i + 8) (omega arith) (omega arith) (omega arith) c.1 in
        z (omega arith))

-- ---- a name as it is stored

module _ (s : List ℕ) (t : Text) (l : NameLies s t) where
  pub stored-narrow : is_narrow (name_in s t) ≡ true → length (stored (name_in s t)) ≡ t.len / 2
  unfolding stored
  stored-narrow e = rw e (name-length s t l.inside)

  pub stored-wide : is_narrow (name_in s t) ≡ false → length (stored (name_in s t)) ≡ t.len
  unfolding stored
  stored-wide e =
      let a = length-wide (name_in s t) in
      let b = name-length s t l.inside in
      let c : 2 * length (name_in s t) ≡ t.len = omega (arith, l.even) in
      rw e (a ∙ c)
