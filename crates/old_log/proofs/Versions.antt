-- A logged page has one version, and a page that is not logged has none.
use Prim.Native.Nat.{ℕ}
use mathlib.Core.Path.{◌≡◌, refl, ap}
use mathlib.Core.Bool.{Bool, true, false, cond}
use mathlib.Core.Logic.{⊎_elim}
use mathlib.Core.List.Memᴰ
use mathlib.Core.List.{List, [], ◌∷◌, ◌++◌, Memᴰ}
use Rattle.old_log.specs.Layout.{is_logged, logged, versions_of}

module _ (l : List ℕ) (p : ℕ) where
  pub version-is : (x : List ℕ) → Memᴰ x (versions_of l p) → (is_logged l p ≡ true) × (x ≡ logged l p)
  version-is x i = go (is_logged l p) i
    where
      go : (m : Bool) → Memᴰ x (cond m (logged l p ∷ []) []) → (m ≡ true) × (x ≡ logged l p)
      go true i = (refl, ⊎_elim (λ e. e) (λ j. absurd (Memᴰ.not-nil j)) (Memᴰ.cases_cons i))
      go false i = absurd (Memᴰ.not-nil i)

  -- the last of them is the logged page
  pub logged-last : is_logged l p ≡ true → (xs : List (List ℕ)) × (versions_of l p ≡ xs ++ (logged l p ∷ []))
  logged-last e = ([], ap (λ (m : Bool). cond m (logged l p ∷ []) []) e)
