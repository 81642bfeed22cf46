-- The map with the bits of the ring's items set: a key's item has its bit exactly when it is one of them.
use Rattle.std.proofs.Common.{◌≡◌, ℕ, ◌*◌, ◌/◌, ◌%◌, ◌^◌, ◌<◌, ◌≤◌, Bool, true, false, cond, not, ◌||◌, eqb, ltb, List, [], ◌∷◌, length, get_or, drop, set, sym, refl, ap, ◌∙◌, arith, drop-set-lt, ltb-false, ltb-true, ne_eqb, eqb-true}
use mathlib.Core.List.{Memᴰ}
use lib.Bits.{bit_xor}
use borrow.Author.Tests.{eqb-false}
use Rattle.fields.specs.declared.Fault.TheVariants.{Security}
use Rattle.fields.specs.declared.Offset.{Offset}
use Rattle.fields.specs.Faults.{flaw, unless}
use Rattle.fields.specs.Charges.{charge_of, ◌after◌}
use Rattle.bitmap.specs.Bits.{zeros, turned, with_bit, is_marked as is_set}
use Rattle.bitmap.proofs.Marks.{with-bit, with-length, eqb-cong}
use Rattle.cells.specs.Map.{is_marked}
use Rattle.cells.proofs.Marked.{marked-odd, marked-set}
use Rattle.cells.proofs.Mapped.{zeros-bit}
use Rattle.records.specs.Keys.{security_of}
use Rattle.security_pass.specs.Counting.{is_off, ends, sought_in}
use Rattle.security_pass.proofs.Laws.{off-past, off-inside, ends-seek}
use Rattle.security.specs.Items.{is_among, off_charge}
use Rattle.security_check.specs.Terms.{marked, seeking, sought_charge}
use Rattle.std.specs.Prelude.{Some}

-- the bit at index k is that of one of some items
hit : ℕ → List Offset → Bool
hit k [] = false
hit k (o ∷ os) = eqb (o.0 / 8) k || hit k os

or-true : (b : Bool) → b || true ≡ true
or-true true = refl
or-true false = refl

pub marked-length : (os : List Offset) (m : List ℕ) → ((o : Offset) → Memᴰ o os → o.0 / 8 < 8 * length m) → length (marked os m) ≡ length m
unfolding marked
marked-length [] m f = refl
marked-length (o ∷ os) m f =
    let l = with-length m (o.0 / 8) (f o (Memᴰ.head refl)) true in
    marked-length os (with_bit m (o.0 / 8) true) (λ p i. rw l (f p (Memᴰ.tail i))) ∙ l

marked-bit : (os : List Offset) (m : List ℕ) → ((o : Offset) → Memᴰ o os → o.0 / 8 < 8 * length m) → (k : ℕ)
    → is_set (marked os m) k ≡ hit k os || is_set m k
unfolding marked hit
marked-bit [] m f k = refl
marked-bit (o ∷ os) m f k =
    let n = f o (Memᴰ.head refl) in
    let l = with-length m (o.0 / 8) n true in
    marked-bit os (with_bit m (o.0 / 8) true) (λ p i. rw l (f p (Memᴰ.tail i))) k
    ∙ ap (λ (b : Bool). hit k os || b) (with-bit m (o.0 / 8) n true k)
    ∙ by (eqb (o.0 / 8) k) (hit k os) (is_set m k)
  where
    by : (a b c : Bool) → b || cond a true c ≡ (a || b) || c
    by true b c = or-true b
    by false b c = refl

-- the bytes beyond stay
drop-bit : (n : ℕ) (m : List ℕ) (p : ℕ) → p / 8 < n → drop n (with_bit m p true) ≡ drop n m
unfolding with_bit turned
drop-bit n m p l = by (not (is_set m p))
  where
    by : (t : Bool) → drop n (cond t (set m (p / 8) (bit_xor (get_or m (p / 8) 0) (2 ^ (p % 8)))) m) ≡ drop n m
    by true = drop-set-lt n m (p / 8) _ l
    by false = refl

pub marked-beyond : (n : ℕ) (os : List Offset) (m : List ℕ) → ((o : Offset) → Memᴰ o os → o.0 < n * 64) → drop n (marked os m) ≡ drop n m
unfolding marked
marked-beyond n [] m f = refl
marked-beyond n (o ∷ os) m f =
    let l = f o (Memᴰ.head refl) in
    marked-beyond n os (with_bit m (o.0 / 8) true) (λ p i. f p (Memᴰ.tail i)) ∙ drop-bit n m (o.0 / 8) (omega arith)

-- among items at multiples of 8, the bit is that of the offset
hit-among : (o : Offset) (os : List Offset) → o.0 % 8 ≡ 0 → ((p : Offset) → Memᴰ p os → p.0 % 8 ≡ 0) → hit (o.0 / 8) os ≡ is_among o os
unfolding hit is_among
hit-among o [] e f = refl
hit-among o (p ∷ os) e f =
    let q = f p (Memᴰ.head refl) in
    rw (
      eqb-cong (p.0 / 8) (o.0 / 8) o.0 p.0 (λ h. omega arith) (λ h. omega arith),
      hit-among o os e (λ x i. f x (Memᴰ.tail i)),
    )

among-not : (o : Offset) (os : List Offset) → ((p : Offset) → Memᴰ p os → o.0 ≡ p.0 → ⊥) → is_among o os ≡ false
unfolding is_among
among-not o [] f = refl
among-not o (p ∷ os) f = rw (ne_eqb o.0 p.0 (f p (Memᴰ.head refl)), among-not o os (λ x i. f x (Memᴰ.tail i)))

-- items in the bins data, with a map that has room for them
pub record Placed (d : List ℕ) (os : List Offset) : Type 0 where
  pub below : (o : Offset) → Memᴰ o os → o.0 < length d
  pub eights : (o : Offset) → Memᴰ o os → o.0 % 8 ≡ 0

module _ (d m : List ℕ) (os : List Offset) (n : ℕ) (placed : Placed d os) (whole : length d ≤ n * 64) (room : n ≤ length m) (length-zeros : length (zeros n m) ≡ length m) where
  inside : (o : Offset) → Memᴰ o os → o.0 / 8 < 8 * length (zeros n m)
  inside o i = let l = placed.below o i in rw length-zeros (omega arith)

  off-is : (o : Offset) → is_off d (marked os (zeros n m)) o ≡ not (is_among o os)
  off-is o = by (ltb o.0 (length d)) refl
    where
      no : (b : Bool) → b || false ≡ b
      no true = refl
      no false = refl

      set_is : o.0 < length d → is_set (marked os (zeros n m)) (o.0 / 8) ≡ hit (o.0 / 8) os
      set_is l =
          marked-bit os (zeros n m) inside (o.0 / 8)
          ∙ ap (λ (b : Bool). hit (o.0 / 8) os || b) (ap (λ (k : ℕ). eqb k 1) (zeros-bit n m (o.0 / 8) (omega arith)))
          ∙ no (hit (o.0 / 8) os)

      even : o.0 < length d → (e : Bool) → eqb (o.0 % 8) 0 ≡ e → is_marked (marked os (zeros n m)) o.0 ≡ is_among o os
      even l true e = let z = eqb-true (o.0 % 8) 0 e in marked-set (marked os (zeros n m)) o.0 z ∙ set_is l ∙ hit-among o os z placed.eights
      even l false e =
          let z = eqb-false (o.0 % 8) 0 e in
          marked-odd (marked os (zeros n m)) o.0 z ∙ sym (among-not o os (λ p i q. z (let y = placed.eights p i in omega arith)))

      by : (t : Bool) → ltb o.0 (length d) ≡ t → is_off d (marked os (zeros n m)) o ≡ not (is_among o os)
      by true t =
          let l = ltb-true o.0 (length d) t in
          off-inside d (marked os (zeros n m)) o l ∙ ap not (even l (eqb (o.0 % 8) 0) refl)
      by false t =
          let l = ltb-false o.0 (length d) t in
          off-past d (marked os (zeros n m)) o (omega arith) ∙ sym (ap not (among-not o os (λ p i q. let y = placed.below p i in omega arith)))

  -- so the pass that seeks finds the first key off the ring
  pub sought-off : (ks : List Offset) → sought_charge (sought_in d (marked os (zeros n m)) seeking ks) ≡ off_charge d os ks
  unfolding sought_in off_charge ◌after◌
  sought-off [] = refl
  sought-off (k ∷ ks) =
      by (sought-off ks) (is_among (security_of d k) os) refl
    where
      ends_is : ends d (marked os (zeros n m)) seeking k ≡ not (is_among (security_of d k) os)
      ends_is = ends-seek d (marked os (zeros n m)) seeking k refl refl ∙ off-is (security_of d k)

      by : sought_charge (sought_in d (marked os (zeros n m)) seeking ks) ≡ off_charge d os ks → (b : Bool) → is_among (security_of d k) os ≡ b
          → sought_charge (cond (ends d (marked os (zeros n m)) seeking k) (Some k) (sought_in d (marked os (zeros n m)) seeking ks))
          ≡ charge_of k (unless (is_among (security_of d k) os) (flaw Security k)) after off_charge d os ks
      by h true e = rw (ends_is, e, h)
      by h false e = rw (ends_is, e)
