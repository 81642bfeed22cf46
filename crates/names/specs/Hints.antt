-- The hint beside a key's offset in an `lf`: "The same pass shall test `lf` hints, each against the first four characters as stored (source documents 000
-- and 003; a code above 255 among them leaves only a zero first byte required)". The scope's line is, for the check, "`lf`: offset, hint".
use Rattle.std.specs.Prelude.{ℕ, ◌+◌, ◌*◌, ◌%◌, Bool, cond, ◌||◌, List, eqb, ltb, get_or}

-- the first four codes, not upper-cased, as four bytes; behind a shorter name "unused bytes of this field are set to null"
unfoldable pub hint_of : List ℕ → ℕ
hint_of cs = get_or cs 0 0 + get_or cs 1 0 * 256 + get_or cs 2 0 * 65536 + get_or cs 3 0 * 16777216

-- "a code above 255 among them"
unfoldable pub is_wide : List ℕ → Bool
is_wide cs = ltb 255 (get_or cs 0 0) || (ltb 255 (get_or cs 1 0) || (ltb 255 (get_or cs 2 0) || ltb 255 (get_or cs 3 0)))

-- "leaves only a zero first byte required"
unfoldable pub fits_hint : ℕ → List ℕ → Bool
fits_hint hint cs = cond (is_wide cs) (eqb (hint % 256) 0) (eqb hint (hint_of cs))
