-- The loop that takes items into a table: what is left answers as the whole.
use Prim.Native.Nat.{ℕ, zero, suc, ◌+◌, ◌-◌, ◌<◌, ◌≤◌}
use native.Mathlib.Omega.{arith}
use native.Mathlib.Numerals.{add-one}
use mathlib.Core.Path.{◌≡◌, refl, sym, ap, ◌∙◌}
use mathlib.Core.Bool.{Bool, true, false}
use mathlib.Core.List.{List}
use lib.Dec.{eqb}
use lib.ListN.{length, get_or, set}
use lib.Seq.{get_or-set_same, get_or-set_other}
use borrow.Author.Tests.{eqb-true, eqb-false, eq-eqb, ne_eqb}
use Rattle.fields.specs.declared.Offset.{Offset}
use Rattle.chains.specs.Chains.{Chained}
use Rattle.security.specs.declared.Item.{Item}
use Rattle.security.specs.declared.Batch.TheVariants.{Closed, Broken, More}
use Rattle.security.specs.Items.{is_item, item_of, is_joined, closes_at}
use Rattle.security.specs.Terms.{onward, gathered, HoldsFrom, Empty}
use Rattle.security.proofs.Items.{next-item}

pub onward-suc : (d : List ℕ) (n : ℕ) (o : Offset) → onward d (suc n) o ≡ (item_of d (onward d n o)).forward
unfolding onward
onward-suc d zero o = refl
onward-suc d (suc n) o = onward-suc d n (item_of d o).forward

-- the item that was read
module _ (d : List ℕ) (first at : Offset) {i : Item} (e : i ≡ item_of d at) where
  pub closes_by : i.forward.0 ≡ first.0 → closes_at d first at ≡ true
  unfolding closes_at
  closes_by q = rw (← e) (eq-eqb _ _ q)

  pub goes_by : (i.forward.0 ≡ first.0 → ⊥) → closes_at d first at ≡ false
  unfolding closes_at
  goes_by q = rw (← e) (ne_eqb _ _ q)

module _ (d m : List ℕ) (first from : Offset) where
  -- one number more in the table
  pub holds_on : (ks : List ℕ) (n : ℕ) (at : Offset) → HoldsFrom d ks n from → at ≡ onward d n from → n < length ks
      → HoldsFrom d (set ks n at.0) (n + 1) from
  holds_on ks n at h e r i l = by (eqb i n) refl
    where
      by : (t : Bool) → eqb i n ≡ t → get_or (set ks n at.0) i 0 ≡ (onward d i from).0
      by true q =
          let z = eqb-true i n q in
          rw (z, get_or-set_same ks n at.0 0 r) (ap (λ (o : Offset). o.0) e)
      by false q =
          let z = eqb-false i n q in
          let y : i < n = omega arith in
          get_or-set_other ks n i at.0 0 z ∙ h i y

  -- at an item, with n in the table and room for so many more
  module _ (room n : ℕ) (at : Offset) where
    full : room ≡ 0 → gathered d m first room n at ≡ More n at
    unfolding gathered
    full e = rw e

    broken : (room ≡ 0 → ⊥) → is_joined d m at ≡ false → gathered d m first room n at ≡ Broken n at
    unfolding gathered
    broken f e = by room f
      where
        by : (r : ℕ) → (r ≡ 0 → ⊥) → gathered d m first r n at ≡ Broken n at
        by zero g = absurd (g refl)
        by (suc r) g = rw e

    module _ (f : room ≡ 0 → ⊥) (j : is_joined d m at ≡ true) where
      closed : closes_at d first at ≡ true → gathered d m first room n at ≡ Closed (suc n)
      unfolding gathered
      closed e = by room f
        where
          by : (r : ℕ) → (r ≡ 0 → ⊥) → gathered d m first r n at ≡ Closed (suc n)
          by zero g = absurd (g refl)
          by (suc r) g = rw (j, e)

      further : closes_at d first at ≡ false → gathered d m first room n at ≡ gathered d m first (room - 1) (suc n) (item_of d at).forward
      unfolding gathered
      further e = by room f
        where
          by : (r : ℕ) → (r ≡ 0 → ⊥) → gathered d m first r n at ≡ gathered d m first (r - 1) (suc n) (item_of d at).forward
          by zero g = absurd (g refl)
          by (suc r) g = let z : suc r - 1 ≡ r = omega arith in rw (j, e, z)

  -- the loop
  pub record Going (keys₀ older₀ heads₀ keys older heads : List ℕ) (at : Offset) (n : ℕ) : Type 0 where
    pub item : is_item d m at ≡ true
    pub same : gathered d m first (length keys₀) 0 from ≡ gathered d m first (length keys₀ - n) n at
    pub here : at ≡ onward d n from
    pub inside : n ≤ length keys₀
    pub holds : HoldsFrom d keys n from
    pub table : Chained keys older heads n
    pub keys-same : length keys ≡ length keys₀
    pub older-same : length older ≡ length older₀
    pub heads-same : length heads ≡ length heads₀

  module _ (keys₀ older₀ heads₀ : List ℕ) where
    pub going_start : is_item d m from ≡ true → Empty keys₀ older₀ heads₀ → Going keys₀ older₀ heads₀ keys₀ older₀ heads₀ from 0
    unfolding onward
    going_start i e =
        let z : length keys₀ - 0 ≡ length keys₀ = omega arith in
        record {
          item = i;
          same = rw z;
          here = refl;
          inside = omega arith;
          holds = λ i l. absurd (let y = l in omega arith);
          table = e.table;
          keys-same = refl;
          older-same = refl;
          heads-same = refl;
        }

    module _ (keys older heads : List ℕ) (at : Offset) (n : ℕ) (g : Going keys₀ older₀ heads₀ keys older heads at n) where
      pub going-full : length keys₀ ≤ n → More n at ≡ gathered d m first (length keys₀) 0 from
      going-full l = sym (g.same ∙ full _ n at (omega arith))

      module _ (l : n < length keys₀) where
        some : length keys₀ - n ≡ 0 → ⊥
        some e = omega arith

        pub going-broken : is_joined d m at ≡ false → Broken n at ≡ gathered d m first (length keys₀) 0 from
        going-broken e = sym (g.same ∙ broken _ n at some e)

        module _ (j : is_joined d m at ≡ true) where
          pub going-closed : closes_at d first at ≡ true → Closed (n + 1) ≡ gathered d m first (length keys₀) 0 from
          going-closed e = rw add-one (sym (g.same ∙ closed _ n at some j e))

          pub going-holds : HoldsFrom d (set keys n at.0) (n + 1) from
          going-holds = holds_on keys n at g.holds g.here (omega (arith, g.keys-same))

          pub going_on : (keys' older' heads' : List ℕ) → keys' ≡ set keys n at.0 → Chained keys' older' heads' (n + 1) → length keys' ≡ length keys
              → length older' ≡ length older → length heads' ≡ length heads → closes_at d first at ≡ false
              → Going keys₀ older₀ heads₀ keys' older' heads' (item_of d at).forward (n + 1)
          going_on keys' older' heads' k t a b c e =
              let z : length keys₀ - n - 1 ≡ length keys₀ - (n + 1) = omega arith in
              record {
                item = next-item d m at j;
                same = g.same ∙ further _ n at some j e ∙ rw (z, add-one);
                here = rw add-one (ap (λ (o : Offset). (item_of d o).forward) g.here ∙ sym (onward-suc d n from));
                inside = omega arith;
                holds = rw k going-holds;
                table = t;
                keys-same = a ∙ g.keys-same;
                older-same = b ∙ g.older-same;
                heads-same = c ∙ g.heads-same;
              }
