-- What the log's tests say once they are passed, and where its pages then lie.
use Prim.Native.Nat.{ℕ, ◌+◌, ◌-◌, ◌*◌, ◌/◌, ◌^◌, ◌≤◌, ◌<◌}
use native.Mathlib.Omega.{arith}
use mathlib.Core.Path.{◌≡◌, sym, ap, ◌∙◌}
use mathlib.Core.Bool.{Bool, true, ◌||◌}
use mathlib.Core.List.{List}
use lib.Dec.{leb}
use lib.ListN.{length, take, drop, length-take, length-drop}
use borrow.Author.Tests.{leb-true, ne_eqb}
use Rattle.fields.specs.declared.Fault.TheVariants.{LogBase, LogShort, NoDirt}
use Rattle.fields.specs.Bytes.{stands_at}
use Rattle.fields.specs.Faults.{flaw, nowhere, unless}
use Rattle.fields.proofs.Firsts.{both, held}
use Rattle.fields.proofs.Bools.{and-inv}
use Rattle.base.specs.Block.{sector, type_of, usable, is_settled}
use Rattle.base.proofs.Laws.{Sized, usable-sized}
use Rattle.bitmap.proofs.Laws.{before-le, before-later, marked-inside}
use Rattle.sectors.specs.Sector.{page_place}
use Rattle.sectors.proofs.Stored.{sector-length}
use Rattle.old_log.specs.Layout.{log_bins, page_count, dirt, map_size, bitmap, is_logged, logged_count, pages_at, logged_place, logged}
use Rattle.old_log.specs.Tests.{is_log_type, is_log_base, pages_fit, head_fault, log_fault}
use Rattle.std.specs.Prelude.{Ok}

-- a log whose first tests are passed: where its bitmap lies
pub record Head (l : List ℕ) : Type 0 where
  pub long : 512 ≤ length l
  pub base : is_log_base (sector l) ≡ true
  pub size : Sized (log_bins l)
  pub map-fits : 516 + map_size l ≤ length l
  pub is-dirt : stands_at l 512 dirt ≡ true

pub log-base : (s : List ℕ) → is_log_base s ≡ true → (usable s (type_of s) ≡ true) × (is_settled s ≡ true)
unfolding is_log_base
log-base s e = and-inv (usable s (type_of s)) (is_settled s) (and-inv (is_log_type (type_of s)) _ e).1

module _ (l : List ℕ) where
  pub head-facts : head_fault l ≡ Ok tt → Head l
  unfolding head_fault
  head-facts e =
      let a = both (unless (leb 512 (length l)) (flaw LogBase nowhere)) _ e in
      let b = both (unless (is_log_base (sector l)) (flaw LogBase nowhere)) _ a.1 in
      let d = both (unless (leb (516 + map_size l) (length l)) (flaw LogShort nowhere)) _ b.1 in
      let good = held (is_log_base (sector l)) (flaw LogBase nowhere) b.0 in
      record {
        long = leb-true _ _ (held (leb 512 (length l)) (flaw LogBase nowhere) a.0);
        base = good;
        size = usable-sized (sector l) (type_of (sector l)) (log-base (sector l) good).0;
        map-fits = leb-true _ _ (held (leb (516 + map_size l) (length l)) (flaw LogShort nowhere) d.0);
        is-dirt = held (stands_at l 512 dirt) (flaw NoDirt nowhere) d.1;
      }

  pub head_of : log_fault l ≡ Ok tt → head_fault l ≡ Ok tt
  unfolding log_fault
  head_of e = (both (head_fault l) _ e).0

  -- the part of the log that the code takes is the bitmap
  pub map-part : (b : ℕ) → b ≡ log_bins l → take (516 + b / 4096 - 516) (drop 516 l) ≡ bitmap l
  unfolding bitmap
  map-part b e = let k : 516 + b / 4096 - 516 ≡ map_size l = omega (arith, ap (λ (n : ℕ). n / 4096) e) in ap (λ (n : ℕ). take n (drop 516 l)) k

  pub map-length : head_fault l ≡ Ok tt → length (bitmap l) ≡ map_size l
  unfolding bitmap
  map-length e = simp (length-take, length-drop) (omega (arith, (head-facts e).map-fits))

  -- a marked page lies in the bins data
  pub marked-below : head_fault l ≡ Ok tt → (p : ℕ) → is_logged l p ≡ true → p < page_count l
  marked-below e p m = omega (arith, marked-inside (bitmap l) p m, map-length e, (head-facts e).size.pages)

  -- the number of set bits, and what a log with some has room for
  pub count-le : logged_count l ≤ page_count l
  count-le = before-le (bitmap l) (page_count l)

  -- no sum of these wraps
  pub small : head_fault l ≡ Ok tt → pages_at l + 512 * logged_count l < 2 ^ 64
  small e = omega (arith, count-le, (head-facts e).size.limit)

  module _ (e : log_fault l ≡ Ok tt) where
    pub pages-fit : 0 < logged_count l → pages_at l + 512 * logged_count l ≤ length l
    unfolding log_fault
    pages-fit some =
        let fit = held (pages_fit l) (flaw LogShort nowhere) (both (head_fault l) _ e).1 in
        let none = ap (λ (b : Bool). b || leb (pages_at l + 512 * logged_count l) (length l)) (ne_eqb (logged_count l) 0 (omega arith)) in
        leb-true (pages_at l + 512 * logged_count l) (length l) (sym none ∙ fit)

    -- a logged page lies in the bins data
    pub logged-below : (p : ℕ) → is_logged l p ≡ true → p < page_count l
    logged-below p m = marked-below (head_of e) p m

    -- and its bytes in the log
    pub logged-fits : (p : ℕ) → is_logged l p ≡ true → logged_place l p + 512 ≤ length l
    logged-fits p m =
        let more = before-later (bitmap l) p (page_count l) m (logged-below p m) in
        omega (arith, pages-fit (omega arith))

    pub logged-length : (p : ℕ) → is_logged l p ≡ true → length (logged l p) ≡ 512
    unfolding logged
    logged-length p m = sector-length l (logged_place l p) (logged-fits p m)

    -- and its place in the hive, where that is as long as the log says
    pub logged-inside : (h : List ℕ) → 4096 + log_bins l ≤ length h → (p : ℕ) → is_logged l p ≡ true → page_place p + 512 ≤ length h
    logged-inside h room p m = omega (arith, logged-below p m)
