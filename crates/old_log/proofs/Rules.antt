-- What the functions' own goals need: the log's tests as cases, a log whose tests are passed, and one page more.
use Prim.Native.Nat.{ℕ, ◌+◌, ◌*◌, ◌^◌, ◌<◌}
use native.Mathlib.Omega.{arith}
use native.Mathlib.Numerals.{add-one}
use mathlib.Core.Path.{◌≡◌, refl}
use mathlib.Core.Bool.{Bool, true, false, cond, ◌&&◌}
use mathlib.Core.List.{List}
use lib.Dec.{leb}
use lib.ListN.{length}
use Rattle.std.specs.Prelude.{Ok, Err}
use Rattle.std.proofs.lemmas.Bool.Decides.{nat_tests}
use Rattle.fields.specs.declared.Flaw.{Flaw}
use Rattle.fields.specs.declared.Fault.TheVariants.{LogBase, LogShort, NoDirt}
use Rattle.fields.specs.Bytes.{stands_at}
use Rattle.fields.specs.Faults.{flaw, nowhere, unless, ◌next◌, Verdict}
use Rattle.base.specs.Block.{sector}
use Rattle.bitmap.specs.Bits.{bit, bits_before}
use Rattle.bitmap.proofs.Laws.{before-mono}
use Rattle.sectors.specs.Logged.{is_in, in_below, put_one, put_below}
use Rattle.old_log.specs.Layout.{page_count, map_size, dirt, bitmap, pages_at}
use Rattle.old_log.specs.Tests.{is_log_base, head_fault, log_fault}
use Rattle.old_log.proofs.Facts.{head-facts, head_of, map-part, map-length, small, logged-below, logged-fits, logged-inside}

-- ---- the log's tests, in their order

asked : (t : Bool) (f : Flaw) (b : Verdict) → unless t f next b ≡ cond t b (Err f)
unfolding ◌next◌
asked true f b = refl
asked false f b = refl

pub by_head : (l : List ℕ) → head_fault l
    ≡ cond (leb 512 (length l))
    (cond (is_log_base (sector l))
    (cond (leb (516 + map_size l) (length l)) (unless (stands_at l 512 dirt) (flaw NoDirt nowhere)) (Err (flaw LogShort nowhere)))
    (Err (flaw LogBase nowhere))) (Err (flaw LogBase nowhere))
unfolding head_fault
by_head l = simp asked

pub ruleset ladder = (by_head, nat_tests)

-- ---- a log whose tests are passed, and a logged page

pub ruleset heads = (head-facts, head_of, map-part, map-length, small)

pub ruleset pages = (heads, logged-below, logged-fits, logged-inside)

-- ---- one page more

pub before_more : (map : List ℕ) (p : ℕ) → bits_before map (p + 1) ≡ bits_before map p + bit map p
unfolding bits_before
before_more map p = rw add-one refl

-- no sum of these wraps
pub low : (l : List ℕ) (p : ℕ) → p < page_count l → log_fault l ≡ Ok tt → pages_at l + 512 * (bits_before (bitmap l) p + bit (bitmap l) p) < 2 ^ 64
low l p h e = omega (arith, before_more (bitmap l) p, before-mono (bitmap l) (p + 1) (page_count l) (omega arith), small l (head_of l e))

module _ (is : ℕ → Bool) (bytes : ℕ → List ℕ) (h : List ℕ) (p : ℕ) where
  pub in_more : in_below is bytes (p + 1) h ≡ (in_below is bytes p h && is_in is bytes h p)
  unfolding in_below
  in_more = rw add-one refl

  pub put_more : put_below is bytes (p + 1) h ≡ put_one is bytes p (put_below is bytes p h)
  unfolding put_below
  put_more = rw add-one refl

pub ruleset steps = (heads, before_more, low, in_more, put_more)
