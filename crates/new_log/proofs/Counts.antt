-- What a window that was empty says once it is marked: which pages are logged, and how many.
use Prim.Native.Nat.{ℕ, zero, suc, ◌+◌, ◌-◌, ◌*◌, ◌/◌, ◌%◌, ◌^◌, ◌≤◌, ◌<◌}
use native.Mathlib.Decide.{le_ind, dec_lt}
use native.Mathlib.Omega.{arith}
use native.Mathlib.Nat.{zero-div}
use mathlib.Core.Path.{◌≡◌, refl, sym, ap, ◌∙◌}
use mathlib.Core.Bool.{Bool, true, false, cond}
use mathlib.Core.List.{List, [], ◌∷◌, ◌++◌}
use lib.Dec.{eqb}
use lib.ListN.{length, get_or, replicate, length-replicate, get_or-replicate, length-append, length-drop, get_or-append}
use borrow.Author.Tests.{eqb-true, eqb-false}
use Rattle.bitmap.specs.Bits.{bit, is_marked, bits_before, next_among, next_marked, map_of, zeros}
use Rattle.bitmap.proofs.Laws.{bit_past, marked-inside, next-least, next-none, among-least, among_none, among-at, among-nothing}
use Rattle.bitmap.proofs.Made.{map-only}
use Rattle.log_versions.specs.Versions.{versions, is_logged}
use Rattle.new_log.specs.Layout.{page_count, logged_below, logged_count, next_logged, marks_of}
use Rattle.new_log.specs.Tests.{log_fault}
use Rattle.new_log.specs.Windows.{Windowed, always}
use Rattle.new_log.proofs.Facts.{bins-sized, logged-below}
use Rattle.new_log.proofs.Next.{past-pages, marks-length, marks-logged}
use Rattle.new_log.proofs.Windows.{last-is}
use Rattle.std.specs.Prelude.{None, Ok, Some}

pub zero_bit : (m : List ℕ) (k : ℕ) → get_or m (k / 8) 0 ≡ 0 → is_marked m k ≡ false
zero_bit m k e = rw (e, zero-div (2 ^ (k % 8)))

-- an array of zeros
pub no_bits : (n k : ℕ) → is_marked (replicate n 0) k ≡ false
no_bits n k = go (dec_lt (k / 8) n)
  where
    go : Dec (k / 8 < n) → is_marked (replicate n 0) k ≡ false
    go (yes g) = zero_bit (replicate n 0) k (get_or-replicate n (k / 8) 0 0 g)
    go (no g) = ap (λ (b : ℕ). eqb b 1) (bit_past (replicate n 0) k (omega (arith, length-replicate {A = ℕ} n 0)))

pub zeros-length : (n : ℕ) (m : List ℕ) → n ≤ length m → length (zeros n m) ≡ length m
unfolding zeros
zeros-length n m h = simp (length-append, length-replicate, length-drop) (omega arith)

pub front_bytes : (a b : List ℕ) → ((i : ℕ) → get_or (a ++ b) i 0 < 256) → (i : ℕ) → get_or a i 0 < 256
front_bytes [] b f i = omega arith
front_bytes (x ∷ a) b f zero = f zero
front_bytes (x ∷ a) b f (suc i) = front_bytes a b (λ k. f (suc k)) i

pub front-bit : (a b : List ℕ) (k : ℕ) → k < 8 * length a → is_marked (a ++ b) k ≡ is_marked a k
front-bit a b k g = ap (λ (x : ℕ). eqb (x / 2 ^ (k % 8) % 2) 1) (get_or-append a b 0 (k / 8) (omega arith))

pub one_bit : (m : List ℕ) (k : ℕ) → bit m k ≡ cond (is_marked m k) 1 0
one_bit m k = by (is_marked m k) refl
  where
    by : (b : Bool) → is_marked m k ≡ b → bit m k ≡ cond b 1 0
    by true e = eqb-true (bit m k) 1 e
    by false e = let n = eqb-false (bit m k) 1 e in omega arith

module _ (l : List ℕ) where
  pub window-counts : (base : ℕ) (m : List ℕ) (n : ℕ) → ((k : ℕ) → k < n → is_marked m k ≡ is_logged l (base + k))
      → logged_below l (base + n) ≡ logged_below l base + bits_before m n
  unfolding logged_below bits_before
  window-counts base m zero f = let e : base + 0 ≡ base = omega arith in ap (logged_below l) e ∙ omega arith
  window-counts base m (suc n) f =
      let e : base + suc n ≡ suc (base + n) = omega arith in
      let b : bit m n ≡ cond (is_logged l (base + n)) 1 0 = one_bit m n ∙ ap (λ (t : Bool). cond t 1 0) (f n (omega arith)) in
      ap (logged_below l) e ∙ omega (arith, window-counts base m n (λ k g. f k (omega arith)), b)

  pub below-le : (n : ℕ) → logged_below l n ≤ n
  unfolding logged_below
  below-le zero = omega arith
  below-le (suc n) = omega (arith, below-le n, one (is_logged l n))
    where
      one : (b : Bool) → cond b 1 0 ≤ 1
      one true = omega arith
      one false = omega arith

  -- past the bins there is none
  pub below-past : (n : ℕ) → page_count l ≤ n → logged_below l n ≡ logged_below l (page_count l)
  unfolding logged_below
  below-past n h = le_ind (λ (m : ℕ). logged_below l m ≡ logged_below l (page_count l)) refl step n h
    where
      step : (m : ℕ) → page_count l ≤ m → logged_below l m ≡ logged_below l (page_count l) → logged_below l (suc m) ≡ logged_below l (page_count l)
      step m g e = let z : ◌≡◌ {A = ℕ} (cond (is_logged l m) 1 0) 0 = ap (λ (t : Bool). cond t 1 0) (past-pages l m g) in omega (arith, e)

  -- a map that starts with the marks has them to count
  pub marks-counted : log_fault l ≡ Ok tt → (rest : List ℕ) → bits_before (marks_of l ++ rest) (page_count l) ≡ logged_count l
  unfolding logged_below
  marks-counted e rest =
      let m = marks_of l ++ rest in
      let n = page_count l in
      let whole : n ≤ 8 * (n / 8) = omega (arith, (bins-sized l e).pages) in
      let start : n ≡ 0 + n = omega arith in
      let none : logged_below l 0 + bits_before m n ≡ bits_before m n = omega arith in
      sym
      (ap (logged_below l) start
      ∙ window-counts 0 m n (λ k g. front-bit (marks_of l) rest k (omega (arith, marks-length l)) ∙ marks-logged l e k ∙ ap (is_logged l) (let i : k ≡ 0 + k = omega arith in i))
      ∙ none)

-- ---- a window that was empty, once it is marked

module _ (l : List ℕ) (base n : ℕ) {old new : List ℕ} (w : Windowed always base (versions l) old new) (long : length old ≡ n) (none : (k : ℕ) → is_marked old k ≡ false) where
  pub bits-logged : (k : ℕ) → k < 8 * n → is_marked new k ≡ is_logged l (base + k)
  bits-logged k g =
      w.bits k (omega (arith, long)) ∙ last-is always (is_marked old k) (base + k) 0 (versions l) ∙ ap (cond (is_logged l (base + k)) true) (none k)
      ∙ itself (is_logged l (base + k))
    where
      itself : (b : Bool) → cond b true false ≡ b
      itself true = refl
      itself false = refl

  pub bits-counted : logged_below l (base + 8 * n) ≡ logged_below l base + bits_before new (8 * n)
  bits-counted = window-counts l base new (8 * n) bits-logged

  shifted : (q : ℕ) → base ≤ q → q < base + 8 * n → is_logged l q ≡ is_marked new (q - base)
  shifted q g h = let e : q ≡ base + (q - base) = omega arith in ap (is_logged l) e ∙ sym (bits-logged (q - base) (omega arith))

  pub next-at : (k : ℕ) → next_marked new 0 ≡ Some k → (k < 8 * n) × (next_among (8 * n) (is_logged l) base ≡ Some (base + k))
  next-at k e =
      let f = next-least new 0 k e in
      let inside : k < 8 * n = omega (arith, marked-inside new k f.marked, w.long, long) in (
        inside,
        among-at (is_logged l) (8 * n) base (base + k) (record {
          marked = sym (bits-logged k inside) ∙ f.marked;
          after = omega arith;
          least = λ q g h. shifted q g (omega arith) ∙ f.least (q - base) (omega arith) (omega arith);
        }) (omega arith),
      )

  pub next-nothing : next_marked new 0 ≡ None → next_among (8 * n) (is_logged l) base ≡ None
  next-nothing e = among-nothing (is_logged l) (8 * n) base (λ q g h. shifted q g h ∙ next-none new 0 e (q - base) (omega arith))

  -- and these are all its bits
  pub bits-only : base ≡ 0 → ((i : ℕ) → get_or new i 0 < 256) → new ≡ map_of (is_logged l) n
  bits-only z bytes =
      map-only (is_logged l) new n (w.long ∙ long) bytes (λ k g. bits-logged k g ∙ ap (is_logged l) (let e : base + k ≡ k = omega arith in e))

-- ---- window after window

module _ (l : List ℕ) (from base : ℕ) (order : from ≤ base) (before : (q : ℕ) → from ≤ q → q < base → is_logged l q ≡ false) where
  pub found : (n p : ℕ) → next_among n (is_logged l) base ≡ Some p → Some p ≡ next_logged l from
  found n p e =
      let f = among-least (is_logged l) n base p e in
      let a = f.after in
      sym (among-at (is_logged l) (page_count l - from) from p
      (record { marked = f.marked; after = omega arith; least = λ q g h. past q g h (dec_lt q base) (f.least q) })
      (omega (arith, logged-below l p f.marked)))
    where
      past : (q : ℕ) {p : ℕ} → from ≤ q → q < p → Dec (q < base) → (base ≤ q → q < p → is_logged l q ≡ false) → is_logged l q ≡ false
      past q g h (yes k) on = before q g k
      past q g h (no k) on = on (omega arith) h

  pub further : (n : ℕ) → next_among n (is_logged l) base ≡ None → (q : ℕ) → from ≤ q → q < base + n → is_logged l q ≡ false
  further n e q g h = go (dec_lt q base)
    where
      go : Dec (q < base) → is_logged l q ≡ false
      go (yes k) = before q g k
      go (no k) = among_none (is_logged l) n base e q (omega arith) h

  pub ended : page_count l ≤ base → None ≡ next_logged l from
  ended h = sym (among-nothing (is_logged l) (page_count l - from) from (λ q g k. go q g (dec_lt q base)))
    where
      go : (q : ℕ) → from ≤ q → Dec (q < base) → is_logged l q ≡ false
      go q g (yes k) = before q g k
      go q g (no k) = past-pages l q (omega arith)

pub ruleset counts = (below-le, below-past)

pub ruleset nexts = (found, further, ended)
