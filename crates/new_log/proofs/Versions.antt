-- The versions of one page in a list of versions: which page has some, and which is the last.
use Prim.Native.Nat.{ℕ}
use mathlib.Core.Path.{◌≡◌, refl, sym, ap, ◌∙◌}
use mathlib.Core.Logic.{⊎_elim}
use mathlib.Core.Bool.{Bool, true, false, cond, ◌||◌, false≢true}
use mathlib.Core.List.Memᴰ
use mathlib.Core.List.{List, [], ◌∷◌, ◌++◌, Memᴰ}
use lib.Dec.{eqb}
use borrow.Author.Tests.{eqb-true, eq-eqb}
use Rattle.sectors.specs.Sector.{sector_at}
use Rattle.log_versions.specs.declared.Version.{Version}
use Rattle.log_versions.specs.Versions.{bytes_in, names, last_place}

-- a version of page p in a list of them, whose bytes lie at a place
pub record Found (p : ℕ) (vs : List Version) (place : ℕ) : Type 0 where
  pub version : Version
  pub member : Memᴰ version vs
  pub its-page : version.page ≡ p
  pub its-place : version.place ≡ place

abbrev later : {p place : ℕ} {v : Version} {vs : List Version} → Found p vs place → Found p (v ∷ vs) place
later f = record { version = f.version; member = Memᴰ.tail f.member; its-page = f.its-page; its-place = f.its-place }

second : (x : Bool) {y : Bool} → y ≡ true → (x || y) ≡ true
second true e = refl
second false e = e

module _ (p : ℕ) where
  -- ---- its place

  -- a page that no version names
  pub not_named : (vs : List Version) (d : ℕ) → names p vs ≡ false → last_place d p vs ≡ d
  unfolding names last_place
  not_named [] d e = refl
  not_named (v ∷ vs) d e = by (eqb v.page p) e (not_named vs d)
    where
      by : (b : Bool) → b || names p vs ≡ false → (names p vs ≡ false → last_place d p vs ≡ d) → last_place (cond b v.place d) p vs ≡ d
      by true e on = absurd (false≢true (sym e))
      by false e on = on e

  -- and one that some version names has the place of such a version
  pub last_found : (vs : List Version) (d : ℕ) → names p vs ≡ true → Found p vs (last_place d p vs)
  unfolding names last_place
  last_found [] d e = absurd (false≢true e)
  last_found (v ∷ vs) d e = by (eqb v.page p) (names p vs) refl refl e (last_found vs)
    where
      by : (b n : Bool) → eqb v.page p ≡ b → names p vs ≡ n → b || n ≡ true → ((d : ℕ) → names p vs ≡ true → Found p vs (last_place d p vs))
          → Found p (v ∷ vs) (last_place (cond b v.place d) p vs)
      by b true t a e on = later (on (cond b v.place d) a)
      by true false t a e on =
          record { version = v; member = Memᴰ.head refl; its-page = eqb-true v.page p t; its-place = sym (not_named vs v.place a) }
      by false false t a e on = absurd (false≢true e)

  pub member-named : (vs : List Version) (v : Version) → v.page ≡ p → Memᴰ v vs → names p vs ≡ true
  unfolding names
  member-named [] v e i = absurd (Memᴰ.not-nil i)
  member-named (w ∷ vs) v e i =
      ⊎_elim
      (λ q. ap (λ (b : Bool). b || names p vs) (ap (λ (u : Version). eqb u.page p) (sym q) ∙ eq-eqb v.page p e))
      (λ j. second (eqb w.page p) (member-named vs v e j))
      (Memᴰ.cases_cons i)

  -- ---- its bytes

  module _ (l : List ℕ) where
    pub bytes-found : (vs : List Version) (x : List ℕ) → Memᴰ x (bytes_in l p vs) → (place : ℕ) × Found p vs place × (x ≡ sector_at l place)
    unfolding bytes_in
    bytes-found [] x i = absurd (Memᴰ.not-nil i)
    bytes-found (v ∷ vs) x i = by (eqb v.page p) refl i (λ j. let r = bytes-found vs x j in (r.0, later r.1, r.2))
      where
        by : (b : Bool) → eqb v.page p ≡ b → Memᴰ x (cond b (sector_at l v.place ∷ bytes_in l p vs) (bytes_in l p vs))
            → (Memᴰ x (bytes_in l p vs) → (place : ℕ) × Found p (v ∷ vs) place × (x ≡ sector_at l place))
            → (place : ℕ) × Found p (v ∷ vs) place × (x ≡ sector_at l place)
        by true e i on =
            ⊎_elim
            (λ q. (v.place, record { version = v; member = Memᴰ.head refl; its-page = eqb-true v.page p e; its-place = refl }, q))
            on
            (Memᴰ.cases_cons i)
        by false e i on = on i

    not-named-none : (vs : List Version) → names p vs ≡ false → bytes_in l p vs ≡ []
    unfolding names bytes_in
    not-named-none [] e = refl
    not-named-none (v ∷ vs) e = by (eqb v.page p) e (not-named-none vs)
      where
        by : (b : Bool) → b || names p vs ≡ false → (names p vs ≡ false → bytes_in l p vs ≡ [])
            → cond b (sector_at l v.place ∷ bytes_in l p vs) (bytes_in l p vs) ≡ []
        by true e on = absurd (false≢true (sym e))
        by false e on = on e

    -- the last of them lie at its place
    pub bytes-last : (vs : List Version) (d : ℕ) → names p vs ≡ true → (xs : List (List ℕ)) × (bytes_in l p vs ≡ xs ++ (sector_at l (last_place d p vs) ∷ []))
    unfolding names bytes_in last_place
    bytes-last [] d e = absurd (false≢true e)
    bytes-last (v ∷ vs) d e = by (eqb v.page p) (names p vs) refl e (bytes-last vs)
      where
        by : (b n : Bool) → names p vs ≡ n → b || n ≡ true
            → ((d : ℕ) → names p vs ≡ true → (xs : List (List ℕ)) × (bytes_in l p vs ≡ xs ++ (sector_at l (last_place d p vs) ∷ [])))
            → (xs : List (List ℕ))
            × (cond b (sector_at l v.place ∷ bytes_in l p vs) (bytes_in l p vs) ≡ xs ++ (sector_at l (last_place (cond b v.place d) p vs) ∷ []))
        by true true a e on =
            let r = on v.place a in
            (sector_at l v.place ∷ r.0, ap (λ (t : List (List ℕ)). sector_at l v.place ∷ t) r.1)
        by true false a e on = (
          [],
          ap (λ (t : List (List ℕ)). sector_at l v.place ∷ t) (not-named-none vs a) ∙ ap (λ (i : ℕ). sector_at l i ∷ []) (sym (not_named vs v.place a)),
        )
        by false true a e on = on d a
        by false false a e on = absurd (false≢true e)
