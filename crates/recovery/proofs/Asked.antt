-- What the next page is; and a host that asks for one page after the other is given every logged page.
use Prim.Native.Nat.{ℕ, zero, suc, ◌+◌, ◌≤◌, ◌<◌}
use native.Mathlib.Decide.{ℕ_discrete, dec_lt}
use native.Mathlib.Omega.{arith}
use mathlib.Core.Path.{◌≡◌, refl, sym, ap, subst}
use mathlib.Core.Bool.{true}
use mathlib.Core.List.{List, ◌∷◌, Memᴰ}
use Rattle.fields.proofs.Bools.{never}
use Rattle.logs.specs.Logs.{log_fault, page_count, is_logged, next_logged}
use Rattle.logs.proofs.Laws.{logged-below, Least, next-least, next-none}
use Rattle.recovery.specs.Calls.{next_of, next_tested, next_answer}
use Rattle.recovery.specs.Finished.{given, asked, Covers}
use Rattle.fields.specs.Faults.{Verdict}
use Rattle.fields.specs.declared.Refusal.{Refusal}
use Rattle.recovery.specs.declared.LoggedPage.{LoggedPage}
use Rattle.std.specs.Prelude.{None, Ok, Option, Result, Some}

module _ (l : List ℕ) (ok : log_fault l ≡ Ok tt) where
  next-is : (from : ℕ) → next_answer l from ≡ next_of l (next_logged l from)
  unfolding next_answer
  next-is from = ap (λ (v : Verdict). next_tested v (next_of l (next_logged l from))) ok

  asked-all : (k from : ℕ) → page_count l ≤ from + k → (p : ℕ) → from ≤ p → is_logged l p ≡ true → Memᴰ p (asked k l from)
  unfolding asked
  asked-all zero from far p g m = absurd (let b = logged-below l ok p m in omega arith)
  asked-all (suc k) from far p g m =
      subst (λ (a : Result (Option LoggedPage) Refusal). Memᴰ p (given a (asked k l))) (sym (next-is from)) (go (next_logged l from) refl (λ q. asked-all k (suc q)))
    where
      at : (q : ℕ) → Least l from q → ((q : ℕ) → page_count l ≤ suc q + k → (p : ℕ) → suc q ≤ p → is_logged l p ≡ true → Memᴰ p (asked k l (suc q)))
          → Dec (p < q) → Dec (p ≡ q) → Memᴰ p (q ∷ asked k l (suc q))
      at q s more (yes b) e = absurd (never (is_logged l p) m (s.least p g b))
      at q s more (no b) (yes e) = Memᴰ.head e
      at q s more (no b) (no e) = Memᴰ.tail (more q (omega (arith, s.after)) p (omega arith) m)

      go : (a : Option ℕ) → next_logged l from ≡ a
          → ((q : ℕ) → page_count l ≤ suc q + k → (p : ℕ) → suc q ≤ p → is_logged l p ≡ true → Memᴰ p (asked k l (suc q)))
          → Memᴰ p (given (next_of l a) (asked k l))
      go (Some q) e more = at q (next-least l from q e) more (dec_lt p q) (ℕ_discrete p q)
      go None e more = absurd (never (is_logged l p) m (next-none l from e p g))

  pub asked-covers : Covers l (asked (page_count l) l 0)
  asked-covers p m = asked-all (page_count l) 0 (omega arith) p (omega arith) m
