-- The next logged page.
use Prim.Native.Nat.{ℕ, ◌-◌, ◌*◌, ◌/◌, ◌≤◌, ◌<◌}
use native.Mathlib.Decide.{dec_lt}
use native.Mathlib.Omega.{arith}
use mathlib.Core.Path.{◌≡◌, refl, sym, ◌∙◌}
use mathlib.Core.Bool.{Bool, true, false}
use mathlib.Core.List.{List}
use lib.ListN.{length}
use Rattle.bitmap.specs.Bits.{is_marked}
use Rattle.bitmap.proofs.Laws.{Least, among-least, among_none}
use Rattle.bitmap.proofs.Made.{map-length, map-bit, map-past}
use Rattle.log_versions.specs.Versions.{is_logged}
use Rattle.new_log.specs.Layout.{page_count, next_logged, marks_of}
use Rattle.new_log.specs.Tests.{log_fault}
use Rattle.new_log.proofs.Facts.{bins-sized, logged-below}
use Rattle.std.specs.Prelude.{None, Ok, Some}

module _ (l : List ℕ) where
  -- no page past the bins is logged
  pub past-pages : (p : ℕ) → page_count l ≤ p → is_logged l p ≡ false
  past-pages p h = by (is_logged l p) refl
    where
      by : (b : Bool) → is_logged l p ≡ b → b ≡ false
      by true e = absurd (omega (arith, logged-below l p e))
      by false e = refl

  pub next-least : (from p : ℕ) → next_logged l from ≡ Some p → Least (is_logged l) from p
  next-least from p e = among-least (is_logged l) (page_count l - from) from p e

  pub next-none : (from : ℕ) → next_logged l from ≡ None → (q : ℕ) → from ≤ q → is_logged l q ≡ false
  next-none from e q g = go (dec_lt q (page_count l))
    where
      go : Dec (q < page_count l) → is_logged l q ≡ false
      go (yes h) = among_none (is_logged l) (page_count l - from) from e q g (omega arith)
      go (no h) = past-pages q (omega arith)

  -- ---- the map of the logged pages

  pub marks-length : length (marks_of l) ≡ page_count l / 8
  marks-length = map-length (is_logged l) (page_count l / 8)

  pub marks-logged : log_fault l ≡ Ok tt → (p : ℕ) → is_marked (marks_of l) p ≡ is_logged l p
  marks-logged e p = go (dec_lt p (8 * (page_count l / 8)))
    where
      go : Dec (p < 8 * (page_count l / 8)) → is_marked (marks_of l) p ≡ is_logged l p
      go (yes h) = map-bit (is_logged l) (page_count l / 8) p h
      go (no h) =
          let whole : page_count l ≤ p = omega (arith, (bins-sized l e).pages) in
          map-past (is_logged l) (page_count l / 8) p (omega arith) ∙ sym (past-pages p whole)
