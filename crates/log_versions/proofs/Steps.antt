-- Each step of the cursor leaves what is before it.
use Prim.Native.Nat.{ℕ, zero, suc, ◌+◌, ◌-◌, ◌*◌, ◌/◌, ◌<◌}
use native.Mathlib.Omega.{arith}
use native.Mathlib.Numerals.{add-one}
use native.Mathlib.Nat.{add-zero}
use mathlib.Core.Path.{◌≡◌, refl, sym, ap, ap₂, subst, ◌∙◌}
use mathlib.Core.List.{List, ◌∷◌, ◌++◌, append-nil, append_assoc}
use mathlib.Core.Bool.{false}
use Rattle.std.proofs.lemmas.Bool.Decides.{nat_tests}
use Rattle.log_entries.specs.Entries.{size_at, count_at, ref_offset, ref_size, ref_bytes, ref_place}
use Rattle.log_versions.specs.declared.Version.{Version}
use Rattle.log_versions.specs.declared.Cursor.{Cursor}
use Rattle.log_versions.specs.Versions.{pages_from, entry_versions}
use Rattle.log_versions.specs.Terms.{refs_from, entries_from, rest, is_between, RefLies, RefsLie, EntryLies, EntriesLie, Lies, steps_from, steps, Same, Stands}

-- in a reference of so many pages from one on
abbrev pub in_ref : Cursor → ℕ → ℕ → Cursor
in_ref c page pages = record { at = c.at; index = c.index + 1; refs = c.refs - 1; end = c.end; left = c.left; page = page; place = c.place; pages = pages }

-- in an entry of so many references, and of a size
abbrev pub in_entry : Cursor → ℕ → ℕ → Cursor
in_entry c count size = record { at = c.end; index = 0; refs = count; end = c.end + size; left = c.left - 1; page = 0; place = c.end + 40 + 8 * count; pages = 0 }

-- past a page
abbrev pub past : Cursor → Cursor
past c = record { at = c.at; index = c.index; refs = c.refs; end = c.end; left = c.left; page = c.page + 1; place = c.place + 512; pages = c.pages - 1 }

-- ---- whether no page is at hand

pub between_none : (c : Cursor) → is_between c ≡ false → c.pages ≡ 0 → (c.refs ≡ 0) × (c.left ≡ 0)
between_none c e z = grind (arith, nat_tests)

module _ (l : List ℕ) where
  -- ---- the references of an entry, from one on

  pub shift : (a i n : ℕ) → entry_versions l a (i + n) ≡ entry_versions l a i ++ refs_from l a i n (ref_place l a i)
  unfolding entry_versions refs_from ref_bytes
  shift a i zero = rw add-zero (sym (append-nil (entry_versions l a i)))
  shift a i (suc n) =
      let e : ref_place l a (suc i) ≡ ref_place l a i + ref_size l a i = omega arith in
      let s : i + suc n ≡ suc i + n = omega arith in
      ap (entry_versions l a) s ∙ shift a (suc i) n
      ∙ append_assoc (entry_versions l a i) (pages_from (ref_size l a i / 512) (ref_offset l a i / 512) (ref_place l a i)) (refs_from l a (suc i) n (ref_place l a (suc i)))
      ∙ ap (λ (b : ℕ). entry_versions l a i ++ (pages_from (ref_size l a i / 512) (ref_offset l a i / 512) (ref_place l a i) ++ refs_from l a (suc i) n b)) e

  pub from_first : (a n : ℕ) → entry_versions l a n ≡ refs_from l a 0 n (ref_place l a 0)
  unfolding entry_versions
  from_first a n = let z : n ≡ 0 + n = omega arith in ap (entry_versions l a) z ∙ shift a 0 n

  one_less : (n : ℕ) → 0 < n → n ≡ suc (n - 1)
  one_less n h = omega arith

  refs-split : (a i n place : ℕ) → 0 < n
      → refs_from l a i n place ≡ pages_from (ref_size l a i / 512) (ref_offset l a i / 512) place ++ refs_from l a (i + 1) (n - 1) (place + ref_size l a i)
  unfolding refs_from
  refs-split a i n place h = rw add-one (ap (λ (k : ℕ). refs_from l a i k place) (one_less n h))

  pub refs-lie : (a i n place : ℕ) → 0 < n → RefsLie l a i n place → RefLies l a i place × RefsLie l a (i + 1) (n - 1) (place + ref_size l a i)
  unfolding RefsLie
  refs-lie a i n place h r = rw add-one (subst (λ (k : ℕ). RefsLie l a i k place) (one_less n h) r)

  entries-split : (k a : ℕ) → 0 < k → entries_from l k a ≡ refs_from l a 0 (count_at l a) (ref_place l a 0) ++ entries_from l (k - 1) (a + size_at l a)
  unfolding entries_from
  entries-split k a h =
      ap (λ (n : ℕ). entries_from l n a) (one_less k h) ∙ ap (λ (vs : List Version). vs ++ entries_from l (k - 1) (a + size_at l a)) (from_first a (count_at l a))

  pub entries-lie : (k a : ℕ) → 0 < k → EntriesLie l k a → EntryLies l a × EntriesLie l (k - 1) (a + size_at l a)
  unfolding EntriesLie
  entries-lie k a h r = subst (λ (n : ℕ). EntriesLie l n a) (one_less k h) r

  steps-split : (k a : ℕ) → 0 < k → steps_from l k a ≡ suc (count_at l a + steps_from l (k - 1) (a + size_at l a))
  unfolding steps_from
  steps-split k a h = ap (λ (n : ℕ). steps_from l n a) (one_less k h)

  -- ---- no page is at hand

  nothing : (c : Cursor) → c.pages ≡ 0 → rest l c ≡ refs_from l c.at c.index c.refs c.place ++ entries_from l c.left c.end
  unfolding rest pages_from
  nothing c z =
      let e : c.place + 512 * c.pages ≡ c.place = omega arith in
      ap₂ (λ (k b : ℕ). pages_from k c.page c.place ++ (refs_from l c.at c.index c.refs b ++ entries_from l c.left c.end)) z e

  -- into a reference
  module _ (c : Cursor) (z : c.pages ≡ 0) (some : 0 < c.refs) (lies : Lies l c) where
    abbrev a : ℕ
    a = c.at

    abbrev i : ℕ
    i = c.index

    refs-here : RefsLie l a i c.refs c.place
    refs-here = let e : c.place + 512 * c.pages ≡ c.place = omega arith in subst (RefsLie l a i c.refs) e lies.refs

    pub ref-here : RefLies l a i c.place
    ref-here = (refs-lie a i c.refs c.place some refs-here).0

    pub in-reference : Same l c (in_ref c (ref_offset l a i / 512) (ref_size l a i / 512))
    unfolding rest steps
    in-reference =
        let r = ref-here in
        let e : c.place + ref_size l a i ≡ c.place + 512 * (ref_size l a i / 512) = omega (arith, r.whole) in
        record {
          all =
              sym
              (nothing c z ∙ ap (λ (vs : List Version). vs ++ entries_from l c.left c.end) (refs-split a i c.refs c.place some)
              ∙ append_assoc (pages_from (ref_size l a i / 512) (ref_offset l a i / 512) c.place) (refs_from l a (i + 1) (c.refs - 1) (c.place + ref_size l a i)) (entries_from l c.left c.end)
              ∙ ap (λ (b : ℕ). pages_from (ref_size l a i / 512) (ref_offset l a i / 512) c.place ++ (refs_from l a (i + 1) (c.refs - 1) b ++ entries_from l c.left c.end)) e);
          lies = record {
            limit = lies.limit;
            pages-end = omega (arith, r.ends, r.whole);
            pages-below = omega (arith, r.inside, r.whole, r.aligned);
            refs = subst (RefsLie l a (i + 1) (c.refs - 1)) e (refs-lie a i c.refs c.place some refs-here).1;
            entries = lies.entries;
          };
          fewer = omega arith;
        }

  -- into an entry
  module _ (c : Cursor) (z : c.pages ≡ 0) (none : c.refs ≡ 0) (some : 0 < c.left) (lies : Lies l c) where
    pub entry_here : EntryLies l c.end
    entry_here = (entries-lie c.left c.end some lies.entries).0

    pub in_entry_lem : Same l c (in_entry c (count_at l c.end) (size_at l c.end))
    unfolding rest steps pages_from refs_from ref_bytes
    in_entry_lem =
        let e = entries-lie c.left c.end some lies.entries in
        let b : ref_place l c.end 0 ≡ c.end + 40 + 8 * count_at l c.end + 512 * 0 = omega arith in
        record {
          all =
              sym
              (nothing c z ∙ ap (λ (n : ℕ). refs_from l c.at c.index n c.place ++ entries_from l c.left c.end) none
              ∙ entries-split c.left c.end some
              ∙ ap (λ (p : ℕ). refs_from l c.end 0 (count_at l c.end) p ++ entries_from l (c.left - 1) (c.end + size_at l c.end)) b);
          lies = record {
            limit = lies.limit;
            pages-end = omega (arith, e.0.refs_end);
            pages-below = omega arith;
            refs = subst (RefsLie l c.end 0 (count_at l c.end)) b e.0.refs;
            entries = e.1;
          };
          fewer = omega (arith, steps-split c.left c.end some);
        }

  -- at a page, or at the end
  pub settled : (c : Cursor) → Lies l c → (c.pages ≡ 0 → (c.refs ≡ 0) × (c.left ≡ 0)) → Stands l c
  unfolding refs_from entries_from
  settled c lies end =
      record {
        lies = lies;
        fits = λ h. omega (arith, lies.pages-end);
        below = λ h. omega (arith, lies.pages-below);
        over = λ z. nothing c z ∙ ap₂ (λ (n k : ℕ). refs_from l c.at c.index n c.place ++ entries_from l k c.end) (end z).0 (end z).1;
      }

  -- past a page
  module _ (c : Cursor) (some : 0 < c.pages) (stands : Stands l c) where
    pub past_split : rest l c ≡ record { page = c.page; place = c.place } ∷ rest l (past c)
    unfolding rest pages_from
    past_split =
        let e : c.place + 512 * c.pages ≡ c.place + 512 + 512 * (c.pages - 1) = omega arith in
        ap₂ (λ (k b : ℕ). pages_from k c.page c.place ++ (refs_from l c.at c.index c.refs b ++ entries_from l c.left c.end)) (one_less c.pages some) e
        ∙ rw add-one refl

    pub past-lies : Lies l (past c)
    past-lies =
        let e : c.place + 512 * c.pages ≡ c.place + 512 + 512 * (c.pages - 1) = omega arith in
        record {
          limit = stands.lies.limit;
          pages-end = omega (arith, stands.lies.pages-end);
          pages-below = omega (arith, stands.lies.pages-below);
          refs = subst (RefsLie l c.at c.index c.refs) e stands.lies.refs;
          entries = stands.lies.entries;
        }

-- ---- what the functions' own goals need

pub ruleset entries = (entry_here, in_entry_lem)

pub ruleset settles = (settled, between_none)

pub ruleset pasts = (past_split, past-lies)
