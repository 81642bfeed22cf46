-- "A path is UTF-16 units split at backslash; the empty path is the root."
use Rattle.std.specs.Prelude.{ℕ, Bool, true, cond, ◌&&◌, List, [], ◌∷◌, eqb, leb, length}
use Rattle.fields.specs.declared.Fault.TheVariants.{PathParts}
use Rattle.fields.specs.Faults.{flaw, nowhere, unless, Verdict}
use Rattle.names.specs.Codes.{backslash}

-- a unit in front of the first part
abbrev pub join_first : ℕ → List (List ℕ) → List (List ℕ)
join_first u [] = (u ∷ []) ∷ []
join_first u (p ∷ ps) = (u ∷ p) ∷ ps

-- split at backslash: one part more than there are backslashes
unfoldable pub split : List ℕ → List (List ℕ)
split [] = [] ∷ []
split (u ∷ us) = cond (eqb u backslash) ([] ∷ split us) (join_first u (split us))

-- the units before the first backslash: the first part
unfoldable pub first_part : List ℕ → List ℕ
first_part [] = []
first_part (u ∷ us) = cond (eqb u backslash) [] (u ∷ first_part us)

-- the parts of a path: of the empty path none
unfoldable pub parts_of : List ℕ → List (List ℕ)
parts_of [] = []
parts_of (u ∷ us) = split (u ∷ us)

unfoldable pub is_part : List ℕ → Bool
is_part p = leb 1 (length p) && leb (length p) 255

unfoldable pub are_parts : List (List ℕ) → Bool
are_parts [] = true
are_parts (p ∷ ps) = is_part p && are_parts ps

-- "16: path: empty part, part over 255 units, over 512 parts"
unfoldable pub is_path : List ℕ → Bool
is_path us = are_parts (parts_of us) && leb (length (parts_of us)) 512

unfoldable pub path_fault : List ℕ → Verdict
path_fault us = unless (is_path us) (flaw PathParts nowhere)
