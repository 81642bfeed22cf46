-- A log passes its tests, and is one of a hive, exactly when nothing is listed against it.
use Prim.Native.Nat.{ℕ}
use mathlib.Core.Path.{◌≡◌, refl, sym, ap, ◌∙◌}
use mathlib.Core.Logic.{◌↔◌, ⊎_elim}
use mathlib.Core.Bool.{Bool, true, false, not, ◌&&◌}
use mathlib.Core.List.Memᴰ
use mathlib.Core.List.{List, [], ◌∷◌, Memᴰ}
use lib.Dec.{eqb, leb}
use lib.ListN.{length}
use borrow.Author.Tests.{leb-true, le-leb, eqb-true, eq-eqb}
use Rattle.fields.specs.declared.Fault.TheVariants.{LogBase, LogShort}
use Rattle.fields.specs.Number.{u32_at, u64_at}
use Rattle.fields.specs.Faults.{flaw, nowhere, unless}
use Rattle.fields.proofs.Firsts.{both, held, sound, holds}
use Rattle.fields.proofs.Bools.{and-inv, and_both}
use Rattle.base.specs.Block.{sector, usable}
use Rattle.sectors.specs.Sector.{page}
use Rattle.log_entries.specs.Entries.{counted}
use Rattle.log_versions.specs.Versions.{versions_of}
use Rattle.new_log.specs.Tests.{is_empty, is_log_base, log_fault, all_stamped, applies}
use Rattle.new_log.specs.Accepted.{Good, Stamped}
use Rattle.new_log.proofs.Entry.{some-entry}
use Rattle.std.specs.Prelude.{Ok}

-- ---- the log by itself

module _ (l : List ℕ) where
  pub tests-good : log_fault l ≡ Ok tt → Good l
  unfolding log_fault is_log_base
  tests-good e =
      let a = both (unless (leb 512 (length l)) (flaw LogBase nowhere)) _ e in
      let b = both (unless (is_log_base (sector l)) (flaw LogBase nowhere)) _ a.1 in
      let long = leb-true _ _ (held (leb 512 (length l)) (flaw LogBase nowhere) a.0) in
      let s = and-inv (usable (sector l) 6) _ (held (is_log_base (sector l)) (flaw LogBase nowhere) b.0) in
      record {
        log-long = long;
        log-usable = s.0;
        log-settled = eqb-true _ _ s.1;
        an-entry = sym (some-entry l long) ∙ held (not (is_empty (counted l))) (flaw LogShort nowhere) b.1;
      }

  good-tests : Good l → log_fault l ≡ Ok tt
  unfolding log_fault is_log_base
  good-tests a =
      sound _ _ (holds _ (le-leb _ _ a.log-long))
      (sound _ _ (holds _ (and_both a.log-usable (eq-eqb _ _ a.log-settled))) (holds _ (some-entry l a.log-long ∙ a.an-entry)))

  pub good-exactly : (log_fault l ≡ Ok tt) ↔ Good l
  good-exactly = (tests-good, good-tests)

-- ---- whether it is one of a hive

module _ (h l : List ℕ) where
  pub by_number : usable (sector h) 0 ≡ true → applies h l ≡ eqb (u32_at (sector h) 8) (u32_at (sector l) 4)
  unfolding applies
  by_number e = rw e

  pub by-stamps : usable (sector h) 0 ≡ false → applies h l ≡ (eqb (u64_at (page h 0) 20) (u64_at (sector l) 12) && all_stamped (u64_at (sector l) 12) (versions_of l 0))
  unfolding applies
  by-stamps e = rw e

-- each of them bears the stamp, exactly when the test says so
pub each-stamped : (s : ℕ) (xs : List (List ℕ)) → all_stamped s xs ≡ true → (x : List ℕ) → Memᴰ x xs → u64_at x 20 ≡ s
unfolding all_stamped
each-stamped s [] e x i = absurd (Memᴰ.not-nil i)
each-stamped s (y ∷ xs) e x i =
    let a = and-inv (eqb (u64_at y 20) s) (all_stamped s xs) e in
    ⊎_elim (λ q. ap (λ (z : List ℕ). u64_at z 20) q ∙ eqb-true _ _ a.0) (λ j. each-stamped s xs a.1 x j) (Memᴰ.cases_cons i)

stamped-each : (s : ℕ) (xs : List (List ℕ)) → ((x : List ℕ) → Memᴰ x xs → u64_at x 20 ≡ s) → all_stamped s xs ≡ true
unfolding all_stamped
stamped-each s [] f = refl
stamped-each s (y ∷ xs) f = and_both (eq-eqb _ _ (f y (Memᴰ.head refl))) (stamped-each s xs (λ x i. f x (Memᴰ.tail i)))

module _ (h l : List ℕ) where
  -- what the stamps say where the hive is not usable
  pub stamps : applies h l ≡ true → usable (sector h) 0 ≡ false
      → (eqb (u64_at (page h 0) 20) (u64_at (sector l) 12) ≡ true) × (all_stamped (u64_at (sector l) 12) (versions_of l 0) ≡ true)
  stamps e u = and-inv (eqb (u64_at (page h 0) 20) (u64_at (sector l) 12)) _ (sym (by-stamps h l u) ∙ e)

  stamped : applies h l ≡ true → Stamped h l
  stamped e = record {
    number = λ u. eqb-true _ _ (sym (by_number h l u) ∙ e);
    bin = λ u. eqb-true _ _ (stamps e u).0;
    each = λ u. each-stamped (u64_at (sector l) 12) (versions_of l 0) (stamps e u).1;
  }

  agree : Stamped h l → applies h l ≡ true
  agree a = go (usable (sector h) 0) refl
    where
      go : (u : Bool) → usable (sector h) 0 ≡ u → applies h l ≡ true
      go true u = by_number h l u ∙ eq-eqb _ _ (a.number u)
      go false u = by-stamps h l u ∙ and_both (eq-eqb _ _ (a.bin u)) (stamped-each (u64_at (sector l) 12) (versions_of l 0) (a.each u))

  pub stamped-exactly : (applies h l ≡ true) ↔ Stamped h l
  stamped-exactly = (stamped, agree)
