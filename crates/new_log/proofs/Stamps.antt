-- The stamps of page 0's versions, one version after the other.
use Prim.Native.Nat.{ℕ, ◌<◌}
use mathlib.Core.Path.{◌≡◌, refl, ap, ◌∙◌}
use mathlib.Core.Bool.{Bool, true, false, cond, not, ◌&&◌, ◌||◌}
use mathlib.Core.List.{List, ◌∷◌}
use lib.Dec.{eqb}
use Rattle.fields.specs.Number.{u64_at}
use Rattle.sectors.specs.Sector.{sector_at}
use Rattle.log_versions.specs.declared.Version.{Version}
use Rattle.log_versions.specs.declared.Cursor.{Cursor}
use Rattle.log_versions.specs.Versions.{bytes_in}
use Rattle.log_versions.specs.Terms.{rest, Stands, Moves}
use Rattle.log_versions.proofs.Steps.{past, past_split}
use Rattle.new_log.specs.Tests.{all_stamped}

module _ (l : List ℕ) (s : ℕ) where
  -- a version is of another page, or bears the stamp
  abbrev passes : ℕ → ℕ → Bool
  passes page place = not (eqb page 0) || eqb (u64_at (sector_at l place) 20) s

  one : (v : Version) (vs : List Version) → all_stamped s (bytes_in l 0 (v ∷ vs)) ≡ (passes v.page v.place && all_stamped s (bytes_in l 0 vs))
  unfolding bytes_in all_stamped
  one v vs = by (eqb v.page 0)
    where
      by : (b : Bool) → all_stamped s (cond b (sector_at l v.place ∷ bytes_in l 0 vs) (bytes_in l 0 vs))
          ≡ ((not b || eqb (u64_at (sector_at l v.place) 20) s) && all_stamped s (bytes_in l 0 vs))
      by true = refl
      by false = refl

  pub stamped-on : (c d : Cursor) → Moves l c d → passes c.page c.place ≡ true → all_stamped s (bytes_in l 0 (rest l c)) ≡ all_stamped s (bytes_in l 0 (rest l d))
  stamped-on c d m e =
      ap (λ (vs : List Version). all_stamped s (bytes_in l 0 vs)) m.split ∙ one (record { page = c.page; place = c.place }) (rest l d)
      ∙ ap (λ (b : Bool). b && all_stamped s (bytes_in l 0 (rest l d))) e

  pub stamped-not : (c : Cursor) → 0 < c.pages → Stands l c → passes c.page c.place ≡ false → all_stamped s (bytes_in l 0 (rest l c)) ≡ false
  stamped-not c some stands e =
      ap (λ (vs : List Version). all_stamped s (bytes_in l 0 vs)) (past_split l c some stands) ∙ one (record { page = c.page; place = c.place }) (rest l (past c))
      ∙ ap (λ (b : Bool). b && all_stamped s (bytes_in l 0 (rest l (past c)))) e
