-- A name as it is stored, read back: one byte per character exactly when every code is below 256, else in UTF-16LE.
use Prim.Native.Nat.{ℕ, ◌*◌, ◌%◌, ◌<◌, ◌≤◌}
use native.Mathlib.Omega.{arith}
use mathlib.Core.Path.{◌≡◌, refl, ap, ◌∙◌}
use mathlib.Core.Bool.{Bool, true, false, cond}
use mathlib.Core.Logic.{⊎_elim}
use mathlib.Core.List.Memᴰ
use mathlib.Core.List.{List, [], ◌∷◌}
use lib.Dec.{ltb}
use lib.ListN.{length}
use borrow.Author.Tests.{ltb-true, eq-eqb}
use Rattle.fields.specs.Number.{le16}
use Rattle.fields.proofs.Bools.{and-inv}
use Rattle.names.specs.Codes.{codes, characters_in}
use Rattle.names.proofs.LawsCodes.{counted}
use Rattle.records.specs.Keys.{is_whole}
use Rattle.stream.specs.Stream.{wide}
use Rattle.stream.proofs.Laws.{length-wide}
use Rattle.forest.specs.Allowed.{AllBelow}
use Rattle.forest.proofs.Wide.{codes-wide}
use Rattle.layout.specs.Layout.{is_narrow, stored}

-- bytes and codes, element by element
pub below-cons : {n c : ℕ} {cs : List ℕ} → c < n → AllBelow n cs → AllBelow n (c ∷ cs)
below-cons p f x i = ⊎_elim (λ e. omega arith) (f x) (Memᴰ.cases_cons i)

pub below-nil : {n : ℕ} → AllBelow n []
below-nil x i = absurd (Memᴰ.not-nil i)

-- ---- UTF-16LE

below-wide : (x : List ℕ) → AllBelow 256 (wide x)
unfolding wide le16
below-wide [] = below-nil
below-wide (c ∷ cs) = below-cons (omega arith) (below-cons (omega arith) (below-wide cs))

below-narrow : (x : List ℕ) → is_narrow x ≡ true → AllBelow 256 x
unfolding is_narrow
below-narrow [] e = below-nil
below-narrow (c ∷ cs) e = let p = and-inv (ltb c 256) (is_narrow cs) e in below-cons (ltb-true c 256 p.0) (below-narrow cs p.1)

narrow-codes : (x : List ℕ) → codes true x ≡ x
unfolding codes
narrow-codes x = refl

-- ---- both ways

module _ (x : List ℕ) where
  narrow-stored : is_narrow x ≡ true → stored x ≡ x
  unfolding stored
  narrow-stored e = rw e

  wide-stored : is_narrow x ≡ false → stored x ≡ wide x
  unfolding stored
  wide-stored e = rw e

  pub stored-length : length (stored x) ≡ cond (is_narrow x) (length x) (2 * length x)
  stored-length = by (is_narrow x) refl
    where
      by : (t : Bool) → is_narrow x ≡ t → length (stored x) ≡ cond t (length x) (2 * length x)
      by true e = ap length (narrow-stored e)
      by false e = ap length (wide-stored e) ∙ length-wide x

  -- at least one byte for each character, at most two
  pub stored-most : length (stored x) ≤ 2 * length x
  stored-most = by (is_narrow x) stored-length
    where
      by : (t : Bool) → length (stored x) ≡ cond t (length x) (2 * length x) → length (stored x) ≤ 2 * length x
      by true e = omega arith
      by false e = omega arith

  -- "UTF-16 lengths are even"
  pub stored-even : is_narrow x ≡ false → length (stored x) % 2 ≡ 0
  stored-even e = let l = ap length (wide-stored e) ∙ length-wide x in omega arith

  pub stored-whole : is_whole (length (stored x)) (is_narrow x) ≡ true
  stored-whole = by (is_narrow x) refl
    where
      by : (t : Bool) → is_narrow x ≡ t → is_whole (length (stored x)) t ≡ true
      by true e = refl
      by false e = eq-eqb (length (stored x) % 2) 0 (stored-even e)

  pub stored_bytes : AllBelow 256 (stored x)
  stored_bytes = by (is_narrow x) refl
    where
      by : (t : Bool) → is_narrow x ≡ t → AllBelow 256 (stored x)
      by true e = rw (narrow-stored e) (below-narrow x e)
      by false e = rw (wide-stored e) (below-wide x)

  module _ (f : AllBelow 65536 x) where
    pub stored-codes : codes (is_narrow x) (stored x) ≡ x
    stored-codes = by (is_narrow x) refl
      where
        by : (t : Bool) → is_narrow x ≡ t → codes t (stored x) ≡ x
        by true e = narrow-codes (stored x) ∙ narrow-stored e
        by false e = ap (codes false) (wide-stored e) ∙ codes-wide x f

    pub stored-characters : characters_in (length (stored x)) (is_narrow x) ≡ length x
    stored-characters = counted (is_narrow x) (stored x) ∙ ap length stored-codes
