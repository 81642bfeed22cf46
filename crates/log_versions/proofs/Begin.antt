-- The entries that count, from the first on: where they lie, and what they hold.
use Prim.Native.Nat.{ℕ, zero, suc, ◌+◌, ◌≤◌, ◌<◌}
use native.Mathlib.Omega.{arith}
use mathlib.Core.Path.{◌≡◌, refl, sym, ap, subst, ◌∙◌}
use mathlib.Core.List.{List, [], ◌∷◌, ◌++◌, Memᴰ}
use lib.ListN.{length}
use Rattle.fields.specs.Number.{u32_at}
use Rattle.base.specs.Block.{sector, bins_limit}
use Rattle.log_entries.specs.Entries.{size_at, count_at, bins_at, ref_size, ref_bytes, ref_place, Entry, counted_from, counted, no_chain, chain_from, chain_of}
use Rattle.log_entries.proofs.Entered.{Entered, entered, ref-placed, ref-in-log}
use Rattle.log_entries.proofs.Counted.{from_next, full-first, full-rest, counted-full, full, below-largest, largest-sized}
use Rattle.log_versions.specs.declared.Version.{Version}
use Rattle.log_versions.specs.declared.Cursor.{Cursor}
use Rattle.log_versions.specs.Versions.{pages_from, entry_versions, all_versions, versions}
use Rattle.log_versions.specs.Terms.{top, refs_from, entries_from, rest, RefsLie, EntryLies, EntriesLie, Lies}

-- before the first entry
abbrev pub begun : ℕ → Cursor
begun k = record { at = 0; index = 0; refs = 0; end = 512; left = k; page = 0; place = 0; pages = 0 }

module _ (l : List ℕ) where
  -- ---- where they lie

  module _ (a n : ℕ) (e : Entered l a n) (low : bins_at l a ≤ top l) where
    refs-from : (i m : ℕ) → i + m ≡ count_at l a → RefsLie l a i m (ref_place l a i)
    unfolding RefsLie ref_bytes
    refs-from i zero p = tt
    refs-from i (suc m) p =
        let h : i < count_at l a = omega arith in
        let r = ref-placed l a n e i h in
        let s : ref_place l a (suc i) ≡ ref_place l a i + ref_size l a i = omega arith in (
          record {
            head = omega (arith, e.room, e.inside);
            ends = ref-in-log l a n e i h;
            whole = r.size-aligned;
            aligned = r.offset-aligned;
            inside = omega (arith, r.in-bins);
          },
          subst (RefsLie l a (suc i) m) s (refs-from (suc i) m (omega arith)),
        )

    entry-lies : EntryLies l a
    entry-lies = record { head = e.head; ends = e.inside; refs_end = omega (arith, e.room, e.inside); refs = refs-from 0 (count_at l a) (omega arith) }

  entries_from_lem : (k a n : ℕ) → length (counted_from k l a n) ≡ k → ((e : Entry) → Memᴰ e (counted_from k l a n) → bins_at l e.at ≤ top l) → EntriesLie l k a
  unfolding EntriesLie
  entries_from_lem zero a n p low = tt
  entries_from_lem (suc k) a n p low =
      let t = full-first l k a n p in
      let s = sym (from_next l k a n t) in (
        entry-lies a n (entered l a n t) (low (record { at = a; number = n }) (subst (Memᴰ (record { at = a; number = n })) s (Memᴰ.head refl))),
        entries_from_lem k (a + size_at l a) (suc n) (full-rest l k a n p) (λ e i. low e (subst (Memᴰ e) s (Memᴰ.tail i))),
      )

  -- ---- what they hold

  entries-hold : (k a n : ℕ) → length (counted_from k l a n) ≡ k → all_versions l (counted_from k l a n) ≡ entries_from l k a
  unfolding all_versions entries_from counted_from
  entries-hold zero a n p = refl
  entries-hold (suc k) a n p =
      ap (all_versions l) (from_next l k a n (full-first l k a n p))
      ∙ ap (λ (vs : List Version). entry_versions l a (count_at l a) ++ vs) (entries-hold k (a + size_at l a) (suc n) (full-rest l k a n p))

  -- ---- all of them

  pub top-limit : top l ≤ bins_limit
  unfolding chain_of chain_from
  top-limit = by (counted l) refl
    where
      by : (es : List Entry) → counted l ≡ es → (chain_of l).largest ≤ bins_limit
      by [] e = omega (arith, ap (λ (es : List Entry). (chain_from l no_chain es).largest) e)
      by (x ∷ es) e = (largest-sized l (λ z. let n : ◌≡◌ {A = ℕ} 0 1 = cc in omega arith)).limit

  pub begun-lies : Lies l (begun (chain_of l).entries)
  unfolding RefsLie
  begun-lies =
      record {
        limit = top-limit;
        pages-end = omega arith;
        pages-below = omega arith;
        refs = tt;
        entries =
            entries_from_lem (chain_of l).entries 512 (u32_at (sector l) 4) (full l)
            (λ e i. below-largest l e (subst (Memᴰ e) (counted-full l) i));
      }

  pub begun-rest : rest l (begun (chain_of l).entries) ≡ versions l
  unfolding rest pages_from refs_from versions
  begun-rest = sym (entries-hold (chain_of l).entries 512 (u32_at (sector l) 4) (full l)) ∙ ap (all_versions l) (counted-full l)

pub ruleset begins = (begun-lies, begun-rest)
