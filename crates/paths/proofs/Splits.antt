-- Names joined by backslashes split again into these names.
use Prim.Native.Nat.{ℕ, ◌≤◌}
use native.Mathlib.Omega.{arith}
use mathlib.Core.Path.{◌≡◌, refl, ap, ◌∙◌}
use mathlib.Core.Bool.{Bool, true, false, ◌||◌}
use mathlib.Core.List.{List, [], ◌∷◌, ◌++◌}
use lib.Dec.{eqb}
use lib.ListN.{length}
use borrow.Author.Tests.{le-leb}
use Rattle.fields.proofs.Bools.{and_both}
use Rattle.names.specs.Codes.{has_code, backslash}
use Rattle.paths.specs.Paths.{split, parts_of, is_part, are_parts, is_path}
use Rattle.paths.specs.Reach.{joined_by}

-- a name that may be a part: 1 to 255 characters and no backslash
pub record PartName (x : List ℕ) : Type 0 where
  pub some : 1 ≤ length x
  pub most : length x ≤ 255
  pub plain : has_code backslash x ≡ false

pub data PartNames : List (List ℕ) → Type 0 where
  no_names : PartNames []
  names-on : {x : List ℕ} {xs : List (List ℕ)} → PartName x → PartNames xs → PartNames (x ∷ xs)

or-false : (a b : Bool) → (a || b) ≡ false → (a ≡ false) × (b ≡ false)
or-false true b e = absurd (let z : ◌≡◌ {A = ℕ} 0 1 = cc in omega arith)
or-false false b e = (refl, e)

pub split-last : (x : List ℕ) → has_code backslash x ≡ false → split x ≡ x ∷ []
unfolding split has_code
split-last [] e = refl
split-last (u ∷ x) e =
    let p = or-false (eqb u backslash) _ e in
    rw (p.0, split-last x p.1)

split-first : (x us : List ℕ) → has_code backslash x ≡ false → split (x ++ (backslash ∷ us)) ≡ x ∷ split us
unfolding split has_code
split-first [] us e = refl
split-first (u ∷ x) us e =
    let p = or-false (eqb u backslash) _ e in
    rw (p.0, split-first x us p.1)

split-joined : (x : List ℕ) (xs : List (List ℕ)) → PartNames (x ∷ xs) → split (joined_by (x ∷ xs)) ≡ x ∷ xs
unfolding joined_by
split-joined x [] (names-on p ps) = split-last x p.plain
split-joined x (y ∷ xs) (names-on p ps) = split-first x (joined_by (y ∷ xs)) p.plain ∙ ap (λ (l : List (List ℕ)). x ∷ l) (split-joined y xs ps)

starts : (x : List ℕ) (xs : List (List ℕ)) → PartName x → parts_of (joined_by (x ∷ xs)) ≡ split (joined_by (x ∷ xs))
unfolding joined_by parts_of
starts [] xs p = absurd (let s = p.some in omega arith)
starts (u ∷ x) [] p = refl
starts (u ∷ x) (y ∷ xs) p = refl

pub parts-joined : (xs : List (List ℕ)) → PartNames xs → parts_of (joined_by xs) ≡ xs
unfolding joined_by parts_of
parts-joined [] ps = refl
parts-joined (x ∷ xs) (names-on p ps) = starts x xs p ∙ split-joined x xs (names-on p ps)

are-parts : (xs : List (List ℕ)) → PartNames xs → are_parts xs ≡ true
unfolding are_parts is_part
are-parts [] ps = refl
are-parts (x ∷ xs) (names-on p ps) = and_both (and_both (le-leb 1 (length x) p.some) (le-leb (length x) 255 p.most)) (are-parts xs ps)

-- so they are a path, if there are not too many
pub path-joined : (xs : List (List ℕ)) → PartNames xs → length xs ≤ 512 → is_path (joined_by xs) ≡ true
unfolding is_path
path-joined xs ps l = rw (parts-joined xs ps) (and_both (are-parts xs ps) (le-leb (length xs) 512 l))
