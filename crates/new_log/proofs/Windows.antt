-- A window after all versions: its bits say of each page what is said of its last version.
use Prim.Native.Nat.{ℕ, ◌+◌, ◌-◌, ◌*◌, ◌/◌, ◌≤◌, ◌<◌}
use native.Mathlib.Omega.{arith}
use mathlib.Core.Path.{◌≡◌, refl, sym, ap, ◌∙◌}
use mathlib.Core.Bool.{Bool, true, false, cond, ◌&&◌, ◌||◌}
use mathlib.Core.List.{List, [], ◌∷◌}
use lib.Dec.{eqb, leb, ltb}
use lib.ListN.{length}
use borrow.Author.Tests.{eqb-true, ne_eqb, leb-true, leb-false, ltb-true, ltb-false}
use Rattle.fields.proofs.Bools.{and-inv}
use Rattle.bitmap.specs.Bits.{is_marked, with_bit}
use Rattle.bitmap.proofs.Marks.{with-bit, with-length, eqb-cong}
use Rattle.log_versions.specs.declared.Version.{Version}
use Rattle.log_versions.specs.Versions.{names, last_place}
use Rattle.new_log.specs.Windows.{last_bit, in_window, Windowed}
use Rattle.new_log.proofs.Versions.{not_named}

-- ---- one page

module _ (m : List ℕ) (base p : ℕ) (on : Bool) where
  abbrev has : Bool
  has = leb base p && ltb ((p - base) / 8) (length m)

  inside : has ≡ true → (base ≤ p) × (p - base < 8 * length m)
  inside e =
      let a = and-inv (leb base p) _ e in
      let h = ltb-true ((p - base) / 8) (length m) a.1 in
      (leb-true base p a.0, omega arith)

  -- a page that has no bit in it
  outside : has ≡ false → (k : ℕ) → k < 8 * length m → p ≡ base + k → ⊥
  outside e k g q = by (leb base p) (ltb ((p - base) / 8) (length m)) refl refl e
    where
      by : (a b : Bool) → leb base p ≡ a → ltb ((p - base) / 8) (length m) ≡ b → a && b ≡ false → ⊥
      by false b s t e = omega (arith, leb-false base p s)
      by true false s t e = omega (arith, ltb-false ((p - base) / 8) (length m) t)
      by true true s t e = let z : ◌≡◌ {A = ℕ} 0 1 = cc in omega arith

  pub window-length : length (in_window m base p on) ≡ length m
  unfolding in_window
  window-length = by has refl
    where
      by : (t : Bool) → has ≡ t → length (cond t (with_bit m (p - base) on) m) ≡ length m
      by true e = with-length m (p - base) (inside e).1 on
      by false e = refl

  pub window-bit : (k : ℕ) → k < 8 * length m → is_marked (in_window m base p on) k ≡ cond (eqb p (base + k)) on (is_marked m k)
  unfolding in_window
  window-bit k g = by has refl
    where
      by : (t : Bool) → has ≡ t → is_marked (cond t (with_bit m (p - base) on) m) k ≡ cond (eqb p (base + k)) on (is_marked m k)
      by true e =
          let i = inside e in
          with-bit m (p - base) i.1 on k
          ∙ ap (λ (b : Bool). cond b on (is_marked m k)) (eqb-cong (p - base) k p (base + k) (λ h. omega (arith, i.0)) (λ h. omega (arith, i.0)))
      by false e = ap (λ (b : Bool). cond b on (is_marked m k)) (sym (ne_eqb p (base + k) (outside e k g)))

-- ---- one version after the other

module _ (says : ℕ → ℕ → Bool) (base : ℕ) where
  -- what is left answers as the whole does
  pub record Left (m₀ : List ℕ) (ws : List Version) (m : List ℕ) (vs : List Version) : Type 0 where
    pub long : length m ≡ length m₀
    pub bits : (k : ℕ) → k < 8 * length m₀ → last_bit says (is_marked m k) (base + k) vs ≡ last_bit says (is_marked m₀ k) (base + k) ws

  module _ (m₀ : List ℕ) (ws : List Version) where
    pub begins : (vs : List Version) → vs ≡ ws → Left m₀ ws m₀ vs
    begins vs e = record { long = refl; bits = λ k g. ap (last_bit says (is_marked m₀ k) (base + k)) e }

    pub goes : (m : List ℕ) (all : List Version) (v : Version) (vs : List Version) → all ≡ v ∷ vs → Left m₀ ws m all
        → Left m₀ ws (in_window m base v.page (says v.page v.place)) vs
    unfolding last_bit
    goes m all v vs e f = record {
      long = window-length m base v.page (says v.page v.place) ∙ f.long;
      bits = λ k g.
          ap (λ (b : Bool). last_bit says b (base + k) vs)
          (window-bit m base v.page (says v.page v.place) k (omega (arith, f.long)) ∙ here k (eqb v.page (base + k)) refl)
          ∙ sym (ap (last_bit says (is_marked m k) (base + k)) e) ∙ f.bits k g;
    }
      where
        here : (k : ℕ) (t : Bool) → eqb v.page (base + k) ≡ t
            → cond t (says v.page v.place) (is_marked m k) ≡ cond t (says (base + k) v.place) (is_marked m k)
        here k true e = ap (λ (q : ℕ). says q v.place) (eqb-true v.page (base + k) e)
        here k false e = refl

    pub ends : (m : List ℕ) (vs : List Version) → vs ≡ [] → Left m₀ ws m vs → Windowed says base ws m₀ m
    unfolding last_bit
    ends m vs e f = record { long = f.long; bits = λ k g. sym (ap (last_bit says (is_marked m k) (base + k)) e) ∙ f.bits k g }

-- ---- what a window then says

pub last-is : (says : ℕ → ℕ → Bool) (b : Bool) (p d : ℕ) (vs : List Version) → last_bit says b p vs ≡ cond (names p vs) (says p (last_place d p vs)) b
unfolding last_bit names last_place
last-is says b p d [] = refl
last-is says b p d (v ∷ vs) = by (eqb v.page p) (names p vs) refl (λ x y. last-is says x p y vs)
  where
    by : (t n : Bool) → names p vs ≡ n → ((x : Bool) (y : ℕ) → last_bit says x p vs ≡ cond (names p vs) (says p (last_place y p vs)) x)
        → last_bit says (cond t (says p v.place) b) p vs ≡ cond (t || names p vs) (says p (last_place (cond t v.place d) p vs)) b
    by true true e on = on (says p v.place) v.place ∙ ap (λ (n : Bool). cond n (says p (last_place v.place p vs)) (says p v.place)) e
    by true false e on =
        on (says p v.place) v.place ∙ ap (λ (n : Bool). cond n (says p (last_place v.place p vs)) (says p v.place)) e
        ∙ ap (says p) (sym (not_named p vs v.place e))
    by false n e on = on b d
