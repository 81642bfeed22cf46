-- Every version lies in the log, and its page in the largest bins.
use Prim.Native.Nat.{ℕ, zero, suc, ◌+◌, ◌*◌, ◌/◌, ◌≤◌, ◌<◌}
use native.Mathlib.Omega.{arith}
use mathlib.Core.Path.{refl, ap}
use mathlib.Core.Logic.{⊎_elim}
use mathlib.Core.List.Memᴰ
use mathlib.Core.List.{List, [], ◌∷◌, Memᴰ}
use lib.ListN.{length}
use Rattle.log_entries.specs.Entries.{bins_at, count_at, ref_offset, ref_size, ref_place, Entry, counted, chain_of}
use Rattle.log_entries.proofs.Entered.{Entered, ref-placed, ref-in-log}
use Rattle.log_entries.proofs.Counted.{counted-each, below-largest}
use Rattle.base.proofs.Laws.{sized}
use Rattle.log_versions.specs.declared.Version.{Version}
use Rattle.log_versions.specs.Versions.{pages_from, entry_versions, all_versions, versions}

abbrev pub Within : ℕ → ℕ → Version → Type 0
Within long pages v = (v.place + 512 ≤ long) × (v.page < pages)

pages-within : (long pages k p at : ℕ) → at + 512 * k ≤ long → p + k ≤ pages → (v : Version) → Memᴰ v (pages_from k p at) → Within long pages v
unfolding pages_from
pages-within long pages zero p at a b v i = absurd (Memᴰ.not-nil i)
pages-within long pages (suc k) p at a b v i =
    ⊎_elim
    (λ q. (omega (arith, a, ap (λ (w : Version). w.place) q), omega (arith, b, ap (λ (w : Version). w.page) q)))
    (λ j. pages-within long pages k (suc p) (at + 512) (omega (arith, a)) (omega (arith, b)) v j)
    (Memᴰ.cases_cons i)

module _ (l : List ℕ) where
  entry-within : (a n pages : ℕ) → Entered l a n → bins_at l a ≤ 512 * pages → (m : ℕ) → m ≤ count_at l a
      → (v : Version) → Memᴰ v (entry_versions l a m) → Within (length l) pages v
  unfolding entry_versions
  entry-within a n pages e b zero h v i = absurd (Memᴰ.not-nil i)
  entry-within a n pages e b (suc m) h v i =
      let r = ref-placed l a n e m h in
      ⊎_elim
      (λ j. entry-within a n pages e b m (omega (arith, h)) v j)
      (λ j. pages-within (length l) pages (ref_size l a m / 512) (ref_offset l a m / 512) (ref_place l a m)
      (omega (arith, ref-in-log l a n e m h))
      (omega (arith, r.offset-aligned, r.size-aligned, r.in-bins, b)) v j)
      (Memᴰ.append_cases (entry_versions l a m) i)

  all-within : (pages : ℕ) (es : List Entry) → ((e : Entry) → Memᴰ e es → Entered l e.at e.number × (bins_at l e.at ≤ 512 * pages))
      → (v : Version) → Memᴰ v (all_versions l es) → Within (length l) pages v
  unfolding all_versions
  all-within pages [] f v i = absurd (Memᴰ.not-nil i)
  all-within pages (e ∷ es) f v i =
      ⊎_elim
      (λ j. let g = f e (Memᴰ.head refl) in entry-within e.at e.number pages g.0 g.1 (count_at l e.at) (omega arith) v j)
      (λ j. all-within pages es (λ x k. f x (Memᴰ.tail k)) v j)
      (Memᴰ.append_cases (entry_versions l e.at (count_at l e.at)) i)

  pub versions-inside : (v : Version) → Memᴰ v (versions l) → (v.place + 512 ≤ length l) × (v.page < (chain_of l).largest / 512)
  unfolding versions
  versions-inside v i = all-within ((chain_of l).largest / 512) (counted l) (λ e k. (counted-each l e k, within e k)) v i
    where
      within : (e : Entry) → Memᴰ e (counted l) → bins_at l e.at ≤ 512 * ((chain_of l).largest / 512)
      within e k = omega (arith, below-largest l e k, (sized (bins_at l e.at) (counted-each l e k).bins).pages)
