-- The keys of a forest that is laid in the bins data d, as the walk lists them: how many, with how many values, each with the one security item.
use Prim.Native.Nat.{ℕ, suc, ◌+◌}
use native.Mathlib.Omega.{arith}
use mathlib.Core.Path.{◌≡◌, refl, sym, ap, ap₂, ◌∙◌, subst}
use mathlib.Core.Logic.{⊎_elim}
use mathlib.Core.List.Memᴰ
use mathlib.Core.List.{List, [], ◌∷◌, ◌++◌, append-nil, Memᴰ}
use lib.ListN.{length, length-append}
use borrow.Author.Tests.{eq-eqb}
use Rattle.fields.specs.declared.Offset.{Offset}
use Rattle.records.specs.declared.Child.{Child}
use Rattle.records.specs.Keys.{security_of}
use Rattle.records.specs.Listed.{joined, keys_in}
use Rattle.security.specs.Items.{named_by}
use Rattle.tree.specs.Tree.{values_in}
use Rattle.stream.proofs.Whole.{values-append}
use Rattle.forest.specs.Forest.{Forest, none, more, count_of, key_count, value_count}
use Rattle.layout.specs.Layout.{below_at, beside_at}
use Rattle.build_laws.specs.Written.{children_at}
use Rattle.build_laws.specs.Laid.{Laid, no_keys, key}

-- some keys: how many, how many values they have, and that each names one item
pub record Counts (d : List ℕ) (S keys values : ℕ) (ks : List Offset) : Type 0 where
  pub many : length ks ≡ keys
  pub holding : values_in d ks ≡ values
  pub secured : (k : Offset) → Memᴰ k ks → security_of d k ≡ record { 0 = S }

module _ (d : List ℕ) where
  counts-append : {S a v b w : ℕ} (ks ls : List Offset) → Counts d S a v ks → Counts d S b w ls → Counts d S (a + b) (v + w) (ks ++ ls)
  counts-append ks ls p q =
      record {
        many = length-append ks ls ∙ ap₂ ◌+◌ p.many q.many;
        holding = values-append d 5 ks ls ∙ ap₂ ◌+◌ p.holding q.holding;
        secured = λ k i. ⊎_elim (p.secured k) (q.secured k) (Memᴰ.append_cases ks i);
      }

  keys-counted : {S n : ℕ} {f : Forest} {at parent : ℕ} → Laid d S n f at parent → Counts d S (key_count f) (value_count f) (joined (keys_in d n) (children_at f at))
  unfolding joined keys_in children_at key_count value_count values_in
  keys-counted no_keys = record { many = refl; holding = refl; secured = λ k i. absurd (Memᴰ.not-nil i) }
  keys-counted {S = S} (key {n = n} {s = s} {x = x} {vs = vs} {b = b} {r = r} {at = at} k u t) =
      let all = joined (keys_in d n) (children_at b (below_at x vs at)) in
      let beside = joined (keys_in d (suc n)) (children_at r (beside_at x vs b at)) in
      let both = counts-append all beside (keys-counted u) (keys-counted t) in
      subst
      (λ (cs : List Child). Counts d S (suc (key_count b + key_count r)) (length vs + (value_count b + value_count r))
      (record { 0 = at } ∷ (joined (keys_in d n) cs ++ beside))) (sym k.children-are)
      (record {
        many = ap suc both.many;
        holding = ap₂ ◌+◌ k.values-many both.holding;
        secured = λ o i. ⊎_elim (λ (e : o ≡ record { 0 = at }). ap (security_of d) e ∙ k.secured) (both.secured o) (Memᴰ.cases_cons i);
      })

  -- one key alone
  pub root-counted : {S n : ℕ} (f : Forest) {at parent : ℕ} → count_of f ≡ 1 → Laid d S n f at parent
      → Counts d S (key_count f) (value_count f) (keys_in d n (record { 0 = at }))
  unfolding count_of joined children_at
  root-counted none e l = absurd (omega arith)
  root-counted {S = S} {n = n} (more s x vs b none) {at = at} e l =
      subst (λ (ks : List Offset). Counts d S (key_count (more s x vs b none)) (value_count (more s x vs b none)) ks)
      (append-nil (keys_in d n (record { 0 = at }))) (keys-counted l)
  root-counted (more s x vs b (more t y ws c r)) e l = absurd (omega arith)

  -- keys that all name one item are its count
  pub all_named : (o : Offset) (ks : List Offset) → ((k : Offset) → Memᴰ k ks → security_of d k ≡ o) → named_by d ks o ≡ length ks
  unfolding named_by
  all_named o [] f = refl
  all_named o (k ∷ ks) f =
      rw (eq-eqb (security_of d k).0 o.0 (ap (λ (p : Offset). p.0) (f k (Memᴰ.head refl))))
      (ap suc (all_named o ks (λ l i. f l (Memᴰ.tail i))))
