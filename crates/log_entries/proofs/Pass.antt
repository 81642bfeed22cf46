-- The pass over the entries: what is left answers as the whole does.
use Prim.Native.Nat.{ℕ, suc, ◌+◌, ◌*◌, ◌/◌, ◌≤◌, ◌<◌}
use native.Mathlib.Omega.{arith}
use native.Mathlib.Numerals.{add-one}
use mathlib.Core.Path.{◌≡◌, sym, ap, subst, ◌∙◌}
use mathlib.Core.Bool.{true, false}
use mathlib.Core.List.{List, ◌∷◌}
use lib.ListN.{length, get_or}
use Rattle.fields.specs.Number.{u32_at}
use Rattle.fields.proofs.Numbers.{u32-below}
use Rattle.base.specs.Block.{sector}
use Rattle.log_entries.specs.declared.Chain.{Chain}
use Rattle.log_entries.specs.Entries.{Entry, size_at, number_at, is_entry, counted, grown, no_chain, chain_from, chain_of}
use Rattle.log_entries.specs.Terms.{Whole, left}
use Rattle.log_entries.proofs.Entered.{entered}
use Rattle.log_entries.proofs.Counted.{from_next, from_end, from_more}

-- what the entries up to a chain's end, before number n, leave
pub record Passed (l : List ℕ) (n : ℕ) (c : Chain) : Type 0 where
  pub many : 512 * c.entries + 512 ≤ c.end
  pub inside : c.end ≤ length l
  pub number : n ≤ 4294967296
  pub same : chain_from l c (left l c.end n) ≡ chain_of l

-- the entry that stands at a place, with the number in it
abbrev pub entry_at : List ℕ → ℕ → Entry
entry_at l a = record { at = a; number = number_at l a }

module _ (l : List ℕ) where
  pub none_passed : (n : ℕ) → 512 ≤ length l → n < 4294967296 → n ≡ u32_at (sector l) 4 → Passed l n no_chain
  unfolding chain_of counted
  none_passed n p q e = record {
    many = omega arith;
    inside = p;
    number = omega arith;
    same = ap (λ (k : ℕ). chain_from l no_chain (left l 512 k)) e;
  }

  module _ (n : ℕ) (c : Chain) (p : Passed l n c) where
    pub last-passed : is_entry l c.end n ≡ false → c ≡ chain_of l
    unfolding chain_from
    last-passed e = ap (λ (es : List Entry). chain_from l c es) (sym (from_end l (length l / 512) c.end n e)) ∙ p.same

    module _ (e : is_entry l c.end n ≡ true) where
      pub whole : Whole l c.end
      whole = let x = entered l c.end n e in record { least = x.least; inside = x.inside }

      next : left l c.end n ≡ entry_at l c.end ∷ left l (c.end + size_at l c.end) (suc n)
      next =
          sym (from_more l (length l / 512) c.end n (omega (arith, p.many)))
          ∙ from_next l (length l / 512) c.end n e
          ∙ ap (λ (k : ℕ). record { at = c.end; number = k } ∷ left l (c.end + size_at l c.end) (suc n)) (sym (entered l c.end n e).numbered)

      pub one-passed : ((i : ℕ) → get_or l i 0 < 256) → (d : Chain) → d ≡ grown l c (entry_at l c.end) → Passed l (n + 1) d
      unfolding chain_from grown
      one-passed bytes d g =
          let x = entered l c.end n e in
          subst (Passed l (n + 1)) (sym g) (record {
            many = omega (arith, p.many, x.least);
            inside = x.inside;
            number = omega (arith, x.numbered, u32-below l bytes (c.end + 12));
            same = rw (add-one n) (ap (λ (es : List Entry). chain_from l c es) (sym next) ∙ p.same);
          })
