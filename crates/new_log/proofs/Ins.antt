-- What a window that was empty says once each version is compared with the hive: which logged pages are not in, by their last versions.
use Prim.Native.Nat.{ℕ, zero, suc, ◌+◌, ◌*◌, ◌≤◌, ◌<◌}
use native.Mathlib.Decide.{le_ind, dec_lt}
use native.Mathlib.Omega.{arith}
use mathlib.Core.Path.{◌≡◌, refl, sym, ap, ◌∙◌}
use mathlib.Core.Bool.{Bool, true, false, cond, not, ◌&&◌, ◌||◌}
use mathlib.Core.List.{List}
use lib.Dec.{eqb}
use lib.ListN.{length}
use borrow.Author.Tests.{ne_eqb}
use Rattle.fields.specs.Bytes.{same_bytes}
use Rattle.bitmap.specs.Bits.{bit, is_marked, bits_before}
use Rattle.sectors.specs.Sector.{page}
use Rattle.sectors.specs.Logged.{is_in, in_below}
use Rattle.sectors.proofs.Logged.{not-logged}
use Rattle.log_versions.specs.Versions.{versions, is_logged, logged_place, logged}
use Rattle.new_log.specs.Layout.{page_count, all_in}
use Rattle.new_log.specs.Windows.{Windowed, differs}
use Rattle.new_log.proofs.Next.{past-pages}
use Rattle.new_log.proofs.Windows.{last-is}
use Rattle.new_log.proofs.Counts.{one_bit}

and-true : (b : Bool) → b && true ≡ b
and-true true = refl
and-true false = refl

and-false : (b : Bool) → b && false ≡ false
and-false true = refl
and-false false = refl

and_assoc : (a b c : Bool) → (a && b) && c ≡ a && (b && c)
and_assoc true b c = refl
and_assoc false b c = refl

-- no bit is set, and the next is not
zero-sum : (n : ℕ) (t : Bool) → eqb (n + cond (not t) 1 0) 0 ≡ eqb n 0 && t
zero-sum n true = let e : n + 0 ≡ n = omega arith in ap (λ (m : ℕ). eqb m 0) e ∙ sym (and-true (eqb n 0))
zero-sum n false = ne_eqb (n + 1) 0 (λ e. omega arith) ∙ sym (and-false (eqb n 0))

module _ (h l : List ℕ) where
  abbrev inside : ℕ → Bool
  inside p = is_in (is_logged l) (logged l) h p

  abbrev below : ℕ → Bool
  below n = in_below (is_logged l) (logged l) n h

  pub window-differs : (base : ℕ) (old new : List ℕ) → Windowed (differs h l) base (versions l) old new → (k : ℕ) → k < 8 * length old → is_marked old k ≡ false
      → is_marked new k ≡ not (inside (base + k))
  unfolding logged
  window-differs base old new w k g e =
      w.bits k g ∙ last-is (differs h l) (is_marked old k) (base + k) 0 (versions l)
      ∙ ap (cond (is_logged l (base + k)) (differs h l (base + k) (logged_place l (base + k)))) e
      ∙ by (is_logged l (base + k)) (same_bytes (page h (base + k)) (logged l (base + k)))
    where
      by : (b x : Bool) → cond b (not x) false ≡ not (not b || x)
      by true x = refl
      by false x = refl

  pub window-all : (base : ℕ) (m : List ℕ) (n : ℕ) → ((k : ℕ) → k < n → is_marked m k ≡ not (inside (base + k))) → below (base + n) ≡ (below base && eqb (bits_before m n) 0)
  unfolding in_below bits_before
  window-all base m zero f = let e : base + 0 ≡ base = omega arith in ap below e ∙ sym (and-true (below base))
  window-all base m (suc n) f =
      let e : base + suc n ≡ suc (base + n) = omega arith in
      let b : bit m n ≡ cond (not (inside (base + n))) 1 0 = one_bit m n ∙ ap (λ (t : Bool). cond t 1 0) (f n (omega arith)) in
      ap below e ∙ ap (λ (t : Bool). t && inside (base + n)) (window-all base m n (λ k g. f k (omega arith)))
      ∙ and_assoc (below base) (eqb (bits_before m n) 0) (inside (base + n))
      ∙ ap (λ (t : Bool). below base && t) (sym (ap (λ (d : ℕ). eqb (bits_before m n + d) 0) b ∙ zero-sum (bits_before m n) (inside (base + n))))

  -- a window of n bytes that was empty
  pub bits_in : (base n : ℕ) {old new : List ℕ} → Windowed (differs h l) base (versions l) old new → length old ≡ n → ((k : ℕ) → is_marked old k ≡ false)
      → below (base + 8 * n) ≡ (below base && eqb (bits_before new (8 * n)) 0)
  bits_in base n {old} {new} w long none = window-all base new (8 * n) (λ k g. window-differs base old new w k (omega (arith, long)) (none k))

  -- past the bins there is none to be in
  in-past : (n : ℕ) → page_count l ≤ n → below n ≡ below (page_count l)
  unfolding in_below
  in-past n g = le_ind (λ (m : ℕ). below m ≡ below (page_count l)) refl step n g
    where
      step : (m : ℕ) → page_count l ≤ m → below m ≡ below (page_count l) → below (suc m) ≡ below (page_count l)
      step m k e = ap (λ (t : Bool). below m && t) (not-logged (is_logged l) (logged l) h m (past-pages l m k)) ∙ and-true (below m) ∙ e

  in-more : (m n : ℕ) → m ≤ n → below m ≡ false → below n ≡ false
  unfolding in_below
  in-more m n g e = le_ind (λ (k : ℕ). below k ≡ false) e (λ k j i. ap (λ (t : Bool). t && inside k) i) n g

  -- all windows are in, or one is not
  pub in-windows : (n : ℕ) → page_count l ≤ n → below n ≡ true → all_in h l ≡ true
  in-windows n g e = sym (in-past n g) ∙ e

  pub in-none : (n : ℕ) → below n ≡ false → all_in h l ≡ false
  in-none n e = by (dec_lt n (page_count l))
    where
      by : Dec (n < page_count l) → all_in h l ≡ false
      by (yes g) = in-more n (page_count l) (omega arith) e
      by (no g) = sym (in-past n (omega arith)) ∙ e

pub ruleset ins = (in-windows, in-none)
