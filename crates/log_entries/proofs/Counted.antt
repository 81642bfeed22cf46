-- What is known of the entries that count, and of what one pass over them finds.
use Prim.Native.Nat.{ℕ, zero, suc, ◌+◌, ◌*◌, ◌/◌, ◌^◌, ◌≤◌, ◌<◌, max}
use native.Mathlib.Omega.{arith}
use native.Mathlib.Nat.{le-max_left, le-max_right, max-eq_left, max-eq_right, zero-max}
use mathlib.Core.Path.{◌≡◌, refl, sym, ap, subst, ◌∙◌}
use mathlib.Core.Bool.{Bool, true, false}
use mathlib.Core.List.Memᴰ
use mathlib.Core.List.{List, [], ◌∷◌, Memᴰ}
use mathlib.Core.Logic.{⊎_elim, ◌↔◌}
use lib.Dec.{leb}
use lib.ListN.{length, get_or}
use borrow.Author.Tests.{leb-true, leb-false}
use Rattle.fields.specs.Number.{u32_at}
use Rattle.fields.proofs.Numbers.{u32-below}
use Rattle.base.specs.Block.{sector}
use Rattle.base.proofs.Laws.{Sized, sized}
use Rattle.log_entries.specs.declared.Chain.{Chain}
use Rattle.log_entries.specs.Entries.{Entry, size_at, bins_at, is_entry, counted_from, counted, grown, no_chain, chain_from, chain_of}
use Rattle.log_entries.proofs.Entered.{Entered, entered, not_entered}

-- ---- the entries that count

module _ (l : List ℕ) where
  from-none : (a n : ℕ) → counted_from zero l a n ≡ []
  unfolding counted_from
  from-none a n = refl

  pub from_next : (k a n : ℕ) → is_entry l a n ≡ true → counted_from (suc k) l a n ≡ record { at = a; number = n } ∷ counted_from k l (a + size_at l a) (suc n)
  unfolding counted_from
  from_next k a n e = rw e

  pub from_end : (k a n : ℕ) → is_entry l a n ≡ false → counted_from k l a n ≡ []
  unfolding counted_from
  from_end zero a n e = refl
  from_end (suc k) a n e = rw e

  -- where so many count as may, the first passes, and so many follow it
  pub full-first : (k a n : ℕ) → length (counted_from (suc k) l a n) ≡ suc k → is_entry l a n ≡ true
  full-first k a n p = by (is_entry l a n) refl
    where
      by : (t : Bool) → is_entry l a n ≡ t → is_entry l a n ≡ true
      by true e = e
      by false e = absurd (omega (arith, p, ap length (from_end (suc k) a n e)))

  pub full-rest : (k a n : ℕ) → length (counted_from (suc k) l a n) ≡ suc k → length (counted_from k l (a + size_at l a) (suc n)) ≡ k
  full-rest k a n p = omega (arith, p, ap length (from_next k a n (full-first k a n p)))

  -- as many as count is fuel enough
  pub from-full : (k a n : ℕ) → counted_from (length (counted_from k l a n)) l a n ≡ counted_from k l a n
  from-full zero a n = ap (λ (es : List Entry). counted_from (length es) l a n) (from-none a n)
  from-full (suc k) a n = by (from-full k (a + size_at l a) (suc n)) (is_entry l a n) refl
    where
      by : counted_from (length (counted_from k l (a + size_at l a) (suc n))) l (a + size_at l a) (suc n) ≡ counted_from k l (a + size_at l a) (suc n)
          → (t : Bool)
          → is_entry l a n ≡ t
          → counted_from (length (counted_from (suc k) l a n)) l a n ≡ counted_from (suc k) l a n
      by rest true e =
          rw (from_next k a n e) (from_next _ a n e ∙ ap (λ (es : List Entry). record { at = a; number = n } ∷ es) rest)
      by rest false e = from_end _ a n e ∙ sym (from_end (suc k) a n e)

  -- each has 512 bytes at least: where the fuel runs out, so does the log
  pub from_more : (k a n : ℕ) → length l < a + 512 * k + 512 → counted_from (suc k) l a n ≡ counted_from k l a n
  from_more zero a n p = from_end 1 a n (not_entered l a n (λ x. omega (arith, x.inside, x.least))) ∙ sym (from-none a n)
  from_more (suc k) a n p = by (λ q. from_more k (a + size_at l a) (suc n) q) (is_entry l a n) refl
    where
      by : (length l < a + size_at l a + 512 * k + 512 → counted_from (suc k) l (a + size_at l a) (suc n) ≡ counted_from k l (a + size_at l a) (suc n))
          → (t : Bool)
          → is_entry l a n ≡ t
          → counted_from (suc (suc k)) l a n ≡ counted_from (suc k) l a n
      by rest true e =
          let x = entered l a n e in
          from_next (suc k) a n e
          ∙ ap (λ (es : List Entry). record { at = a; number = n } ∷ es) (rest (omega (arith, x.least, p)))
          ∙ sym (from_next k a n e)
      by rest false e = from_end _ a n e ∙ sym (from_end _ a n e)

  -- every entry that counts passes
  pub from_each : (k a n : ℕ) (e : Entry) → Memᴰ e (counted_from k l a n) → Entered l e.at e.number
  unfolding counted_from
  from_each zero a n e i = absurd (Memᴰ.not-nil i)
  from_each (suc k) a n e i = by (from_each k (a + size_at l a) (suc n) e) (is_entry l a n) refl
    where
      by : (Memᴰ e (counted_from k l (a + size_at l a) (suc n)) → Entered l e.at e.number)
          → (t : Bool)
          → is_entry l a n ≡ t
          → Entered l e.at e.number
      by rest true q =
          ⊎_elim (λ s. rw s (entered l a n q)) rest (Memᴰ.cases_cons (subst (λ (es : List Entry). Memᴰ e es) (from_next k a n q) i))
      by rest false q = absurd (Memᴰ.not-nil (subst (λ (es : List Entry). Memᴰ e es) (from_end (suc k) a n q) i))

  pub counted-each : (e : Entry) → Memᴰ e (counted l) → Entered l e.at e.number
  unfolding counted
  counted-each = from_each (length l / 512) 512 (u32_at (sector l) 4)

  -- ---- what one pass over them finds

  -- what each entry keeps, all keep
  pub chain-keeps : (P : Chain → Type 0) (es : List Entry) → ((c : Chain) (e : Entry) → Memᴰ e es → P c → P (grown l c e)) → (c : Chain) → P c → P (chain_from l c es)
  unfolding chain_from
  chain-keeps P [] step c p = p
  chain-keeps P (e ∷ es) step c p =
      chain-keeps P es (λ c e i p. step c e (Memᴰ.tail i) p) (grown l c e) (step c e (Memᴰ.head refl) p)

  entries-sum : (es : List Entry) (c : Chain) → (chain_from l c es).entries ≡ c.entries + length es
  unfolding chain_from grown
  entries-sum [] c = omega arith
  entries-sum (e ∷ es) c = entries-sum es (grown l c e) ∙ omega arith

  pub entries-length : (chain_of l).entries ≡ length (counted l)
  unfolding chain_of
  entries-length = entries-sum (counted l) no_chain ∙ omega arith

  -- so that many entries from 512 on, each of which passes (`full-first`, `full-rest`), are those that count
  pub counted-full : counted_from (chain_of l).entries l 512 (u32_at (sector l) 4) ≡ counted l
  unfolding counted
  counted-full = rw entries-length (from-full (length l / 512) 512 (u32_at (sector l) 4))

  pub full : length (counted_from (chain_of l).entries l 512 (u32_at (sector l) 4)) ≡ (chain_of l).entries
  full = ap length counted-full ∙ sym entries-length

  pub none-exactly : ((chain_of l).entries ≡ 0) ↔ (counted l ≡ [])
  none-exactly = (λ e. nil (counted l) (sym entries-length ∙ e), λ e. entries-length ∙ ap length e)
    where
      nil : (es : List Entry) → length es ≡ 0 → es ≡ []
      nil [] p = refl
      nil (e ∷ es) p = absurd (omega arith)

  -- ---- the bins sizes: each passed, and none is above the largest

  largest-keeps : (b : ℕ) (es : List Entry) (c : Chain) → b ≤ c.largest → b ≤ (chain_from l c es).largest
  unfolding grown
  largest-keeps b es = chain-keeps (λ (c : Chain). b ≤ c.largest) es (λ c e i p. omega (arith, p, le-max_left c.largest (bins_at l e.at)))

  below : (e : Entry) (es : List Entry) (c : Chain) → Memᴰ e es → bins_at l e.at ≤ (chain_from l c es).largest
  unfolding chain_from grown
  below e [] c i = absurd (Memᴰ.not-nil i)
  below e (x ∷ es) c i =
      ⊎_elim (λ s. largest-keeps _ es (grown l c x) (rw s (le-max_right c.largest (bins_at l x.at)))) (λ j. below e es (grown l c x) j) (Memᴰ.cases_cons i)

  pub below-largest : (e : Entry) → Memᴰ e (counted l) → bins_at l e.at ≤ (chain_of l).largest
  unfolding chain_of
  below-largest e i = below e (counted l) no_chain i

  max-is : (P : ℕ → Type 0) (a b : ℕ) → P a → P b → P (max a b)
  max-is P a b p q = by (leb a b) refl
    where
      by : (t : Bool) → leb a b ≡ t → P (max a b)
      by true e = subst P (sym (max-eq_right (leb-true a b e))) q
      by false e = let h : b ≤ a = omega (arith, leb-false a b e) in subst P (sym (max-eq_left h)) p

  sized-all : (es : List Entry)
      → ((e : Entry) → Memᴰ e es → Sized (bins_at l e.at))
      → (es ≡ [] → ⊥)
      → Sized (chain_from l no_chain es).largest × Sized (chain_from l no_chain es).bins
  unfolding chain_from grown
  sized-all [] f p = absurd (p refl)
  sized-all (e ∷ es) f p =
      chain-keeps (λ (c : Chain). Sized c.largest × Sized c.bins) es
      (λ c x i q. (max-is Sized c.largest (bins_at l x.at) q.0 (f x (Memᴰ.tail i)), f x (Memᴰ.tail i)))
      (grown l no_chain e)
      (subst Sized (sym (zero-max (bins_at l e.at))) (f e (Memᴰ.head refl)), f e (Memᴰ.head refl))

  module _ (some : counted l ≡ [] → ⊥) where
    both-sized : Sized (chain_of l).largest × Sized (chain_of l).bins
    unfolding chain_of
    both-sized = sized-all (counted l) (λ e i. sized (bins_at l e.at) (counted-each e i).bins) some

    pub largest-sized : Sized (chain_of l).largest
    largest-sized = both-sized.0

    pub bins-sized : Sized (chain_of l).bins
    bins-sized = both-sized.1

  -- the last number is one of 32 bits, as each
  pub last-small : ((i : ℕ) → get_or l i 0 < 256) → (chain_of l).last < 2 ^ 32
  unfolding chain_of grown
  last-small bytes =
      chain-keeps (λ (c : Chain). c.last < 2 ^ 32) (counted l)
      (λ c e i p. subst (λ (n : ℕ). n < 2 ^ 32) (counted-each e i).numbered (u32-below l bytes (e.at + 12)))
      no_chain (omega arith)
