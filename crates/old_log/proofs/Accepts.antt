-- A log passes its tests, and the stamps agree, exactly when document 01 lists no fault for them.
use Prim.Native.Nat.{ℕ, ◌+◌, ◌*◌}
use native.Mathlib.Omega.{arith}
use native.Mathlib.Decide.{ℕ_discrete}
use mathlib.Core.Path.{◌≡◌, refl, sym, ap, ◌∙◌}
use mathlib.Core.Logic.{◌⊎◌, inl, inr, ◌↔◌}
use mathlib.Core.Bool.{Bool, true, false, not, ◌||◌}
use mathlib.Core.List.{List}
use lib.Dec.{eqb, leb}
use lib.ListN.{length, take, drop}
use borrow.Author.Tests.{le-leb, eqb-true, eq-eqb}
use Rattle.fields.specs.Bytes.{same_bytes, stands_at}
use Rattle.fields.proofs.Firsts.{sound, holds}
use Rattle.fields.proofs.Bools.{and-inv, and_both}
use Rattle.fields.proofs.Written.{same_refl}
use Rattle.base.specs.Block.{sector, type_of, usable}
use Rattle.sectors.specs.Sector.{page}
use Rattle.sectors.proofs.Logged.{same_true}
use Rattle.old_log.specs.Layout.{dirt, is_logged, logged_count, pages_at, logged}
use Rattle.old_log.specs.Tests.{is_log_type, is_log_base, pages_fit, head_fault, log_fault, stamp_of, bin_stamp, zero_agrees, stamps_agree}
use Rattle.old_log.specs.Accepted.{Good, Stamped}
use Rattle.old_log.proofs.Facts.{head_of, head-facts, log-base, pages-fit}
use Rattle.old_log.proofs.Hive.{by-base, by-bin, of-log}
use Rattle.std.specs.Prelude.{Ok}

-- ---- the parts that are said by tests

type-of : (a b : Bool) → (a || b) ≡ true → (a ≡ true) ⊎ (b ≡ true)
type-of true b e = inl refl
type-of false b e = inr e

log-type : (s : List ℕ) → is_log_base s ≡ true → (type_of s ≡ 1) ⊎ (type_of s ≡ 2)
unfolding is_log_base
log-type s e = go (type-of (eqb (type_of s) 1) (eqb (type_of s) 2) (and-inv (is_log_type (type_of s)) _ e).0)
  where
    go : (eqb (type_of s) 1 ≡ true) ⊎ (eqb (type_of s) 2 ≡ true) → (type_of s ≡ 1) ⊎ (type_of s ≡ 2)
    go (inl a) = inl (eqb-true (type_of s) 1 a)
    go (inr a) = inr (eqb-true (type_of s) 2 a)

type-log : (n : ℕ) → (n ≡ 1) ⊎ (n ≡ 2) → is_log_type n ≡ true
type-log n (inl e) = rw e
type-log n (inr e) = rw e

-- ---- the log by itself

module _ (l : List ℕ) where
  tests-good : log_fault l ≡ Ok tt → Good l
  unfolding stands_at
  tests-good e =
      let f = head-facts l (head_of l e) in
      let s = log-base (sector l) f.base in
      record {
        log-long = f.long;
        log-type = log-type (sector l) f.base;
        log-usable = s.0;
        log-settled = eqb-true _ _ s.1;
        map-fits = f.map-fits;
        pages-fit = pages-fit l e;
        is-dirt = same_true (take 4 (drop 512 l)) dirt f.is-dirt;
      }

  module _ (a : Good l) where
    based : is_log_base (sector l) ≡ true
    unfolding is_log_base
    based = and_both (type-log (type_of (sector l)) a.log-type) (and_both a.log-usable (eq-eqb _ _ a.log-settled))

    dirty : stands_at l 512 dirt ≡ true
    unfolding stands_at
    dirty = ap (λ (x : List ℕ). same_bytes x dirt) a.is-dirt ∙ same_refl dirt

    fit : pages_fit l ≡ true
    fit = go (ℕ_discrete (logged_count l) 0)
      where
        second : (x : Bool) {y : Bool} → y ≡ true → (x || y) ≡ true
        second true e = refl
        second false e = e

        go : Dec (logged_count l ≡ 0) → pages_fit l ≡ true
        go (yes z) = ap (λ (x : Bool). x || leb (pages_at l + 512 * logged_count l) (length l)) (eq-eqb (logged_count l) 0 z)
        go (no z) = second (eqb (logged_count l) 0) (le-leb _ _ (a.pages-fit (omega arith)))

    good-tests : log_fault l ≡ Ok tt
    unfolding log_fault head_fault
    good-tests =
        sound _ _
        (sound _ _ (holds _ (le-leb _ _ a.log-long))
        (sound _ _ (holds _ based) (sound _ _ (holds _ (le-leb _ _ a.map-fits)) (holds _ dirty))))
        (holds _ fit)

  pub good-exactly : (log_fault l ≡ Ok tt) ↔ Good l
  good-exactly = (tests-good, good-tests)

-- ---- the stamps

-- the page that is looked at
abbrev first : ℕ
first = 0

module _ (h l : List ℕ) where
  stamped : stamps_agree h l ≡ true → Stamped h l
  stamped e = record {
    base = λ u. eqb-true _ _ (sym (by-base h l u) ∙ e);
    bin = λ u. eqb-true _ _ (and-inv (eqb (bin_stamp (page h 0)) (stamp_of (sector l))) (zero_agrees l) (sym (by-bin h l u) ∙ e)).0;
    zero = λ u m. eqb-true _ _ (of-log (is_logged l first) _ m (and-inv (eqb (bin_stamp (page h 0)) (stamp_of (sector l))) (zero_agrees l) (sym (by-bin h l u) ∙ e)).1);
  }

  agree : Stamped h l → stamps_agree h l ≡ true
  agree a = go (usable (sector h) 0) refl
    where
      zero : usable (sector h) 0 ≡ false → (m : Bool) → is_logged l first ≡ m → (not m || eqb (bin_stamp (logged l first)) (stamp_of (sector l))) ≡ true
      zero u true e = eq-eqb _ _ (a.zero u e)
      zero u false e = refl

      go : (u : Bool) → usable (sector h) 0 ≡ u → stamps_agree h l ≡ true
      go true u = by-base h l u ∙ eq-eqb _ _ (a.base u)
      go false u = by-bin h l u ∙ and_both (eq-eqb _ _ (a.bin u)) (zero u (is_logged l first) refl)

  pub stamped-exactly : (stamps_agree h l ≡ true) ↔ Stamped h l
  stamped-exactly = (stamped, agree)
