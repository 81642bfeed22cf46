-- Every version put in, one after the other, is every logged page put in by its last version.
use Prim.Native.Nat.{ℕ, zero, suc, ◌+◌, ◌*◌, ◌≤◌, ◌<◌}
use native.Mathlib.Decide.{ℕ_discrete}
use native.Mathlib.Omega.{arith}
use mathlib.Core.Path.{◌≡◌, refl, sym, ap, ◌∙◌}
use mathlib.Core.Bool.{Bool, true, false, cond, ◌||◌}
use mathlib.Core.List.{List, [], ◌∷◌, Memᴰ}
use lib.Dec.{eqb}
use lib.ListN.{length, take, drop}
use borrow.Author.Tests.{eqb-true, eqb-false}
use Rattle.sectors.specs.Sector.{sector_at, stored, page_place, page}
use Rattle.sectors.specs.Logged.{put_one, put_below}
use Rattle.sectors.proofs.Stored.{sector-length, stored-length, stored-take, stored-drop, files-same}
use Rattle.sectors.proofs.Pages.{page-same, page-other}
use Rattle.log_versions.specs.declared.Version.{Version}
use Rattle.log_versions.specs.Versions.{versions, names, last_place, is_logged, logged}
use Rattle.log_versions.specs.declared.Cursor.{Cursor}
use Rattle.log_versions.specs.Terms.{rest, Moves}
use Rattle.log_versions.proofs.Inside.{Within, versions-inside}
use Rattle.new_log.specs.Layout.{log_bins, page_count, all_put}
use Rattle.new_log.specs.Terms.{put_each}
use Rattle.new_log.proofs.Versions.{not_named}
use Rattle.new_log.proofs.Facts.{logged-length}

-- the version at hand, and those after it
pub each_on : (l : List ℕ) (c d : Cursor) → Moves l c d → (h : List ℕ) → put_each l (rest l c) h ≡ put_each l (rest l d) (stored h (page_place c.page) (sector_at l c.place))
unfolding put_each
each_on l c d m h = ap (λ (vs : List Version). put_each l vs h) m.split

-- d is h but for the first n pages of its bins
record Kept (n : ℕ) (h d : List ℕ) : Type 0 where
  long : length d ≡ length h
  front : take 4096 d ≡ take 4096 h
  back : drop (4096 + 512 * n) d ≡ drop (4096 + 512 * n) h

kept_self : (n : ℕ) (h : List ℕ) → Kept n h h
kept_self n h = record { long = refl; front = refl; back = refl }

module _ (n : ℕ) (h d : List ℕ) (room : 4096 + 512 * n ≤ length h) (k : Kept n h d) (p : ℕ) (below : p < n) (new : List ℕ) (size : length new ≡ 512) where
  kept-fits : page_place p + 512 ≤ length d
  kept-fits = omega (arith, k.long)

  kept_store : Kept n h (stored d (page_place p) new)
  kept_store =
      record {
        long = stored-length d (page_place p) new size kept-fits ∙ k.long;
        front = stored-take d (page_place p) new size kept-fits 4096 (omega arith) ∙ k.front;
        back = stored-drop d (page_place p) new size kept-fits (4096 + 512 * n) (omega arith) ∙ k.back;
      }

-- ---- each version in turn

module _ (l : List ℕ) (n : ℕ) (h : List ℕ) (room : 4096 + 512 * n ≤ length h) where
  abbrev AllWithin : List Version → Type 0
  AllWithin vs = (v : Version) → Memᴰ v vs → Within (length l) n v

  each-kept : (vs : List Version) → AllWithin vs → (d : List ℕ) → Kept n h d → Kept n h (put_each l vs d)
  unfolding put_each
  each-kept [] f d k = k
  each-kept (v ∷ vs) f d k =
      let i = f v (Memᴰ.head refl) in
      each-kept vs (λ w j. f w (Memᴰ.tail j)) (stored d (page_place v.page) (sector_at l v.place))
      (kept_store n h d room k v.page i.1 (sector_at l v.place) (sector-length l v.place i.0))

  each-page : (p : ℕ) (vs : List Version) → AllWithin vs → (d : List ℕ) → Kept n h d → (z : ℕ)
      → page (put_each l vs d) p ≡ cond (names p vs) (sector_at l (last_place z p vs)) (page d p)
  unfolding put_each names last_place
  each-page p [] f d k z = refl
  each-page p (v ∷ vs) f d k z =
      let i = f v (Memᴰ.head refl) in
      let size = sector-length l v.place i.0 in
      let fits = kept-fits n h d room k v.page i.1 (sector_at l v.place) size in
      let e = stored d (page_place v.page) (sector_at l v.place) in
      let on = each-page p vs (λ w j. f w (Memᴰ.tail j)) e (kept_store n h d room k v.page i.1 (sector_at l v.place) size) in
      by (eqb v.page p) refl (names p vs) refl on
      (λ q. ap (page e) (sym q) ∙ page-same d v.page (sector_at l v.place) size fits)
      (λ q. page-other d v.page (sector_at l v.place) size fits p (λ s. q (sym s)))
    where
      by : (b : Bool) → eqb v.page p ≡ b → (m : Bool) → names p vs ≡ m
          → ((y : ℕ) → page (put_each l vs (stored d (page_place v.page) (sector_at l v.place))) p
          ≡ cond (names p vs) (sector_at l (last_place y p vs)) (page (stored d (page_place v.page) (sector_at l v.place)) p))
          → (v.page ≡ p → page (stored d (page_place v.page) (sector_at l v.place)) p ≡ sector_at l v.place)
          → ((v.page ≡ p → ⊥) → page (stored d (page_place v.page) (sector_at l v.place)) p ≡ page d p)
          → page (put_each l vs (stored d (page_place v.page) (sector_at l v.place))) p
          ≡ cond (b || names p vs) (sector_at l (last_place (cond b v.place z) p vs)) (page d p)
      by true t true a on same other = on v.place ∙ rw a refl
      by true t false a on same other =
          on v.place ∙ rw a (same (eqb-true v.page p t) ∙ ap (sector_at l) (sym (not_named p vs v.place a)))
      by false t m a on same other =
          on z ∙ ap (λ (x : List ℕ). cond (names p vs) (sector_at l (last_place z p vs)) x) (other (eqb-false v.page p t))

-- ---- each page, rising

module _ (is : ℕ → Bool) (bytes : ℕ → List ℕ) (sized : (p : ℕ) → is p ≡ true → length (bytes p) ≡ 512) (n : ℕ) (h : List ℕ) (room : 4096 + 512 * n ≤ length h) where
  one_kept : (p : ℕ) → p < n → (d : List ℕ) → Kept n h d → Kept n h (put_one is bytes p d)
  one_kept p g d k = by (is p) refl
    where
      by : (b : Bool) → is p ≡ b → Kept n h (cond b (stored d (page_place p) (bytes p)) d)
      by true e = kept_store n h d room k p g (bytes p) (sized p e)
      by false e = k

  below-kept : (m : ℕ) → m ≤ n → Kept n h (put_below is bytes m h)
  unfolding put_below
  below-kept zero g = kept_self n h
  below-kept (suc m) g = one_kept m g (put_below is bytes m h) (below-kept m (omega arith))

  one_same : (p : ℕ) → p < n → (d : List ℕ) → Kept n h d → page (put_one is bytes p d) p ≡ cond (is p) (bytes p) (page d p)
  one_same p g d k = by (is p) refl
    where
      by : (b : Bool) → is p ≡ b → page (cond b (stored d (page_place p) (bytes p)) d) p ≡ cond b (bytes p) (page d p)
      by true e = page-same d p (bytes p) (sized p e) (kept-fits n h d room k p g (bytes p) (sized p e))
      by false e = refl

  one-other : (p : ℕ) → p < n → (d : List ℕ) → Kept n h d → (q : ℕ) → (q ≡ p → ⊥) → page (put_one is bytes p d) q ≡ page d q
  one-other p g d k q s = by (is p) refl
    where
      by : (b : Bool) → is p ≡ b → page (cond b (stored d (page_place p) (bytes p)) d) q ≡ page d q
      by true e = page-other d p (bytes p) (sized p e) (kept-fits n h d room k p g (bytes p) (sized p e)) q s
      by false e = refl

  -- a page not reached yet
  below-not : (m : ℕ) → m ≤ n → (p : ℕ) → m ≤ p → page (put_below is bytes m h) p ≡ page h p
  unfolding put_below
  below-not zero g p a = refl
  below-not (suc m) g p a = one-other m g (put_below is bytes m h) (below-kept m (omega arith)) p (omega arith) ∙ below-not m (omega arith) p (omega arith)

  below-page : (m : ℕ) → m ≤ n → (p : ℕ) → p < m → page (put_below is bytes m h) p ≡ cond (is p) (bytes p) (page h p)
  unfolding put_below
  below-page zero g p a = absurd (omega arith)
  below-page (suc m) g p a = by (ℕ_discrete p m) (below-page m (omega arith) p)
    where
      by : Dec (p ≡ m) → (p < m → page (put_below is bytes m h) p ≡ cond (is p) (bytes p) (page h p))
          → page (put_one is bytes m (put_below is bytes m h)) p ≡ cond (is p) (bytes p) (page h p)
      by (yes e) on =
          rw e (one_same m g (put_below is bytes m h) (below-kept m (omega arith)) ∙ ap (cond (is m) (bytes m)) (below-not m (omega arith) m (omega arith)))
      by (no e) on = one-other m g (put_below is bytes m h) (below-kept m (omega arith)) p e ∙ on (omega arith)

-- ---- the one is the other

module _ (l h : List ℕ) (room : 4096 + log_bins l ≤ length h) where
  inside : 4096 + 512 * page_count l ≤ length h
  inside = omega arith

  pub each_all : put_each l (versions l) h ≡ all_put h l
  unfolding page logged
  each_all =
      let n = page_count l in
      let a = each-kept l n h inside (versions l) (versions-inside l) h (kept_self n h) in
      let b = below-kept (is_logged l) (logged l) (logged-length l) n h inside n (omega arith) in
      files-same (put_each l (versions l) h) (all_put h l) 4096 (a.front ∙ sym b.front) n
      (λ p g.
      each-page l n h inside p (versions l) (versions-inside l) h (kept_self n h) 0
      ∙ sym (below-page (is_logged l) (logged l) (logged-length l) n h inside n (omega arith) p g))
      (a.back ∙ sym b.back)
