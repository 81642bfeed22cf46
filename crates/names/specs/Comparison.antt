-- The order of names, over lists of codes, wherever these stand.
use Rattle.std.specs.Prelude.{ℕ, Bool, true, false, cond, List, [], ◌∷◌, ltb}
use Rattle.names.specs.Upper_case.{uppers}
use Rattle.std.specs.declared.cmp.Ordering.{Ordering}
use Rattle.std.specs.declared.cmp.Ordering.TheVariants.{Equal, Greater, Less}

-- ".. by code .., a prefix before the longer name"
unfoldable pub by_code : List ℕ → List ℕ → Ordering
by_code [] [] = Equal
by_code [] (y ∷ ys) = Less
by_code (x ∷ xs) [] = Greater
by_code (x ∷ xs) (y ∷ ys) =
    let rest = by_code xs ys in
    cond (ltb x y) Less (cond (ltb y x) Greater rest)

-- "Names, also of values, are compared by code after upper-casing a to z, 0xE0 to 0xFE except 0xF7 (each 32 down) and 0xFF (to 0x0178), a prefix
-- before the longer name"
unfoldable pub compare : List ℕ → List ℕ → Ordering
compare xs ys = by_code (uppers xs) (uppers ys)

abbrev pub is_same : Ordering → Bool
is_same Less = false
is_same Equal = true
is_same Greater = false

-- two names are the same by the same comparison
unfoldable pub same_name : List ℕ → List ℕ → Bool
same_name xs ys = is_same (compare xs ys)
