-- One batch: the table that was gathered and the counts of the pass give what the definition says.
use Rattle.std.proofs.Common.{◌≡◌, ℕ, ◌<◌, ◌≤◌, true, false, List, length, get_or, sym, ap, ◌∙◌, subst, ap₂, arith}
use mathlib.Core.List.{Memᴰ}
use Rattle.fields.specs.declared.Offset.{Offset}
use Rattle.cells.specs.Named.{data_at}
use Rattle.chains.specs.Chains.{Chained}
use Rattle.records.specs.Listed.{Once}
use Rattle.security_pass.specs.declared.Pass.{Pass}
use Rattle.security_pass.specs.Counting.{counted_all}
use Rattle.security.specs.declared.Batch.{Batch}
use Rattle.security.specs.Items.{is_item, named_by}
use Rattle.security.specs.Terms.{along, onward, gathered, taken, HoldsFrom}
use Rattle.security.proofs.Items.{item-facts}
use Rattle.security_check.specs.Terms.{tree_keys, row_of, unequal, added_from, summed, turn_by, turned, Turning, Rows}
use Rattle.security_check.proofs.Counts.{named-most, counted-exactly, onward-in, row_is, table-distinct, unequal-is, added_is}
use Rattle.security_check.proofs.Turns.{went, taken-along, items-item}
use Rattle.fields.specs.declared.Flaw.{Flaw}
use Rattle.std.specs.Prelude.{Result}

module _ (d m : List ℕ) (root first from : Offset) (room : ℕ) (g : Turning d m root first room from) {b : Batch} {n : ℕ} (bq : b ≡ gathered d m first room 0 from)
    (nq : n ≡ taken b) (table : List ℕ) (held : HoldsFrom d table (taken b) from) where
  holds : HoldsFrom d table n from
  holds = subst (λ (k : ℕ). HoldsFrom d table k from) (sym nq) held

  size : n ≡ taken (gathered d m first room 0 from)
  size = nq ∙ ap taken bq

  once : Once (along d n from)
  once = subst (λ (k : ℕ). Once (along d k from)) (sym size) g.once

  item-there : (i : ℕ) → i < n → is_item d m (onward d i from) ≡ true
  item-there i l =
      items-item d m first (went d m first room 0 from) g.item (onward d i from)
      (subst (λ (os : List Offset). Memᴰ (onward d i from) os) (ap (λ (k : ℕ). along d k from) size ∙ taken-along d m first (went d m first room 0 from)) (onward-in d n i from l))

  row_fits : (i : ℕ) → i < n → 20 ≤ length (data_at d (row_of table i))
  row_fits i l =
      subst (λ (o : Offset). 20 ≤ length (data_at d o)) (sym (row_is d table n from holds i l)) (item-facts d m (onward d i from) (item-there i l)).fits

  pub rows : {older heads : List ℕ} → Chained table older heads (taken b) → (counts : List ℕ) → length table ≤ length counts → Rows d table counts n
  rows t counts l =
      let h : taken b ≤ length table = t.linked.room in
      record { numbers = omega (arith, nq); counters = omega (arith, nq); fit = row_fits }

  module _ (zs counts : List ℕ) (w : Pass) (zero-all : (i : ℕ) → get_or zs i 0 ≡ 0) (space : n ≤ length zs) (by_count : w.seek ≡ false) (of_size : w.items ≡ n)
      (cq : counts ≡ counted_all d table w zs (tree_keys d root)) where
    counted : (i : ℕ) → i < n → get_or counts i 0 ≡ named_by d (tree_keys d root) (row_of table i)
    counted i l =
        ap (λ (cs : List ℕ). get_or cs i 0) cq
        ∙ counted-exactly table n (table-distinct d table n from holds once) i l d w by_count of_size zs (tree_keys d root) space (zero-all i)
        (let h = named-most d (tree_keys d root) (row_of table i) in omega (arith, g.walk.few))

    pub batch-turn : {a : Result ℕ Flaw} → a ≡ summed (unequal d table counts 0 n) (added_from counts 0 n) → turn_by a b ≡ turned d m (tree_keys d root) first room from
    unfolding turned
    batch-turn aq =
        ap (λ (x : Result ℕ Flaw). turn_by x b)
        (aq
        ∙ ap₂ summed (unequal-is d table n from holds counts (tree_keys d root) counted) (added_is d table n from holds counts (tree_keys d root) counted))
        ∙ rw (nq, bq)
