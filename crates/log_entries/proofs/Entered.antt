-- What an entry that passes is, test by test; and what its references are.
use Prim.Native.Nat.{ℕ, zero, suc, ◌+◌, ◌%◌, ◌≤◌, ◌<◌}
use native.Mathlib.Omega.{arith}
use native.Mathlib.Nat.{eq-or-lt_of_le}
use mathlib.Core.Path.{◌≡◌, refl}
use mathlib.Core.Bool.{Bool, true, false}
use mathlib.Core.List.{List}
use mathlib.Core.Logic.{⊎_elim}
use lib.Dec.{eqb, leb}
use lib.ListN.{length}
use borrow.Author.Tests.{leb-true, eqb-true}
use Rattle.fields.specs.Bytes.{stands_at}
use Rattle.fields.proofs.Bools.{and-inv}
use Rattle.base.specs.Block.{is_bins_size}
use Rattle.log_entries.specs.Entries.{hvle, size_at, number_at, bins_at, count_at, ref_offset, ref_size, ref_bytes, ref_place, is_hashed, is_placed, are_apart, apart_from, are_refs, is_entry}

pub refused : (t : Bool) → (t ≡ true → ⊥) → t ≡ false
refused true p = absurd (p refl)
refused false p = refl

pub record Entered (l : List ℕ) (a n : ℕ) : Type 0 where
  pub head : a + 40 ≤ length l
  pub signed : stands_at l a hvle ≡ true
  pub least : 512 ≤ size_at l a
  pub sectors : size_at l a % 512 ≡ 0
  pub inside : a + size_at l a ≤ length l
  pub hashed : is_hashed l a ≡ true
  pub numbered : number_at l a ≡ n
  pub bins : is_bins_size (bins_at l a) ≡ true
  pub room : ref_place l a (count_at l a) ≤ a + size_at l a
  pub refs : are_refs l a (count_at l a) ≡ true

module _ (l : List ℕ) (a n : ℕ) where
  pub entered : is_entry l a n ≡ true → Entered l a n
  unfolding is_entry
  entered e =
      let b = and-inv (leb (a + 40) (length l)) _ e in
      let d = and-inv (stands_at l a hvle) _ b.1 in
      let f = and-inv (leb 512 (size_at l a)) _ d.1 in
      let g = and-inv (eqb (size_at l a % 512) 0) _ f.1 in
      let h = and-inv (leb (a + size_at l a) (length l)) _ g.1 in
      let i = and-inv (is_hashed l a) _ h.1 in
      let j = and-inv (eqb (number_at l a) n) _ i.1 in
      let k = and-inv (is_bins_size (bins_at l a)) _ j.1 in
      let m = and-inv (leb (ref_place l a (count_at l a)) (a + size_at l a)) _ k.1 in
      record {
        head = leb-true _ _ b.0;
        signed = d.0;
        least = leb-true _ _ f.0;
        sectors = eqb-true _ _ g.0;
        inside = leb-true _ _ h.0;
        hashed = i.0;
        numbered = eqb-true _ _ j.0;
        bins = k.0;
        room = leb-true _ _ m.0;
        refs = m.1;
      }

  -- where one test fails it is no entry
  pub not_entered : (Entered l a n → ⊥) → is_entry l a n ≡ false
  not_entered p = refused _ (λ e. p (entered e))

-- ---- its references

-- the bytes of the first are among those of more
pub bytes-mono : (l : List ℕ) (a i n : ℕ) → i ≤ n → ref_bytes l a i ≤ ref_bytes l a n
unfolding ref_bytes
bytes-mono l a zero zero p = omega arith
bytes-mono l a (suc i) zero p = absurd (omega arith)
bytes-mono l a i (suc n) p = ⊎_elim (λ e. rw e (omega arith)) (λ h. omega (arith, bytes-mono l a i n (omega arith))) (eq-or-lt_of_le p)

-- reference i: aligned, inside the entry's bins
pub record Placed (l : List ℕ) (a i : ℕ) : Type 0 where
  pub offset-aligned : ref_offset l a i % 512 ≡ 0
  pub size-aligned : ref_size l a i % 512 ≡ 0
  pub in-bins : ref_offset l a i + ref_size l a i ≤ bins_at l a

module _ (l : List ℕ) (a : ℕ) where
  pub placed : (i : ℕ) → is_placed l a i ≡ true → Placed l a i
  placed i e =
      let b = and-inv (eqb (ref_offset l a i % 512) 0) _ e in
      let d = and-inv (eqb (ref_size l a i % 512) 0) _ b.1 in
      record { offset-aligned = eqb-true _ _ b.0; size-aligned = eqb-true _ _ d.0; in-bins = leb-true _ _ d.1 }

  -- each of the first n is placed, and apart from those before it
  pub refs-each : (n : ℕ) → are_refs l a n ≡ true → (i : ℕ) → i < n → (is_placed l a i ≡ true) × (apart_from l a i i ≡ true)
  unfolding are_refs
  refs-each zero e i p = absurd (omega arith)
  refs-each (suc n) e i p =
      let b = and-inv (are_refs l a n) _ e in
      let d = and-inv (is_placed l a n) _ b.1 in
      let q : i ≤ n = omega arith in
      ⊎_elim (λ s. rw s d) (λ h. refs-each n b.0 i h) (eq-or-lt_of_le q)

  pub apart-each : (i n : ℕ) → apart_from l a i n ≡ true → (j : ℕ) → j < n → are_apart l a i j ≡ true
  unfolding apart_from
  apart-each i zero e j p = absurd (omega arith)
  apart-each i (suc n) e j p =
      let b = and-inv (apart_from l a i n) _ e in
      let q : j ≤ n = omega arith in
      ⊎_elim (λ s. rw s b.1) (λ h. apart-each i n b.0 j h) (eq-or-lt_of_le q)

module _ (l : List ℕ) (a n : ℕ) (e : Entered l a n) (i : ℕ) (p : i < count_at l a) where
  pub ref-placed : Placed l a i
  ref-placed = placed l a i (refs-each l a (count_at l a) e.refs i p).0

  -- its bytes lie in the entry, and so in the log
  pub ref-inside : ref_place l a i + ref_size l a i ≤ a + size_at l a
  unfolding ref_bytes
  ref-inside = omega (arith, e.room, bytes-mono l a (suc i) (count_at l a) (omega arith))

  pub ref-in-log : ref_place l a i + ref_size l a i ≤ length l
  ref-in-log = omega (arith, e.inside, ref-inside)
