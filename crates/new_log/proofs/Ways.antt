-- The log's tests as cases, in their order.
use Prim.Native.Nat.{ℕ}
use mathlib.Core.Path.{◌≡◌, refl, sym, ◌∙◌}
use mathlib.Core.Bool.{Bool, true, false, cond, not}
use mathlib.Core.List.{List, [], ◌∷◌}
use lib.Dec.{eqb, leb}
use lib.ListN.{length}
use borrow.Author.Tests.{eq-eqb, ne_eqb}
use Rattle.std.specs.Prelude.{Err}
use Rattle.std.proofs.lemmas.Bool.Decides.{nat_tests}
use Rattle.fields.specs.declared.Flaw.{Flaw}
use Rattle.fields.specs.declared.Fault.TheVariants.{LogBase, LogShort}
use Rattle.fields.specs.Faults.{flaw, nowhere, unless, ◌next◌, Verdict}
use Rattle.base.specs.Block.{sector}
use Rattle.log_entries.specs.Entries.{Entry, counted, chain_of}
use Rattle.log_entries.proofs.Counted.{none-exactly}
use Rattle.new_log.specs.Tests.{is_empty, is_log_base, log_fault}

asked : (t : Bool) (f : Flaw) (b : Verdict) → unless t f next b ≡ cond t b (Err f)
unfolding ◌next◌
asked true f b = refl
asked false f b = refl

none-counted : (l : List ℕ) → is_empty (counted l) ≡ eqb (chain_of l).entries 0
none-counted l = by (counted l) refl
  where
    by : (es : List Entry) → counted l ≡ es → is_empty es ≡ eqb (chain_of l).entries 0
    by [] e = sym (eq-eqb _ _ ((none-exactly l).1 e))
    by (x ∷ es) e = sym (ne_eqb _ _ (λ z. let n : ◌≡◌ {A = List Entry} [] (x ∷ es) = sym ((none-exactly l).0 z) ∙ e in cc))

pub by_tests : (l : List ℕ) → log_fault l
    ≡ cond (leb 512 (length l))
    (cond (is_log_base (sector l)) (unless (not (eqb (chain_of l).entries 0)) (flaw LogShort nowhere)) (Err (flaw LogBase nowhere)))
    (Err (flaw LogBase nowhere))
unfolding log_fault
by_tests l = simp (asked, none-counted l)

pub ruleset ladder = (by_tests, nat_tests)
