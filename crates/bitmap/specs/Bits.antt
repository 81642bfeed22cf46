-- A bitmap is a list of bytes: index p has bit p % 8, "lowest bit first", of byte p / 8. Past the map's end every bit is 0.
use Rattle.std.specs.Prelude.{ℕ, zero, suc, ◌+◌, ◌-◌, ◌*◌, ◌/◌, ◌%◌, ◌^◌, Bool, cond, not, List, [], ◌∷◌, ◌++◌, length, get_or, set, replicate, drop, eqb, None, Option, Some}
use Rattle.std.specs.Int.Bits.{bit_or, bit_xor}

-- the bit at index p, 0 or 1
abbrev pub bit : List ℕ → ℕ → ℕ
bit map p = get_or map (p / 8) 0 / 2 ^ (p % 8) % 2

abbrev pub is_marked : List ℕ → ℕ → Bool
is_marked map p = eqb (bit map p) 1

-- "the set bits before it"
unfoldable pub bits_before : List ℕ → ℕ → ℕ
bits_before map zero = 0
bits_before map (suc p) = bits_before map p + bit map p

-- the least index among the n from p on at which a test holds
unfoldable pub next_among : ℕ → (ℕ → Bool) → ℕ → Option ℕ
next_among zero is p = None
next_among (suc n) is p = cond (is p) (Some p) (next_among n is (suc p))

-- the least set index at or after p
abbrev pub next_marked : List ℕ → ℕ → Option ℕ
next_marked map p = next_among (8 * length map - p) (is_marked map) p

-- ---- maps that are made

-- the first n bytes zero, and those beyond as they were
unfoldable pub zeros : ℕ → List ℕ → List ℕ
zeros n map = replicate n 0 ++ drop n map

-- the map with the bit at index p turned over
unfoldable pub turned : List ℕ → ℕ → List ℕ
turned map p = set map (p / 8) (bit_xor (get_or map (p / 8) 0) (2 ^ (p % 8)))

-- the map with that bit set, or cleared
unfoldable pub with_bit : List ℕ → ℕ → Bool → List ℕ
with_bit map p on = cond (cond on (not (is_marked map p)) (is_marked map p)) (turned map p) map

-- the number whose k lowest digits say where a test holds, from index p on
unfoldable pub digits_of : (ℕ → Bool) → ℕ → ℕ → ℕ
digits_of is p zero = 0
digits_of is p (suc k) = bit_or (digits_of is p k) (cond (is (p + k)) (2 ^ k) 0)

-- the map of n bytes that has the bits set at which a test holds
unfoldable pub map_of : (ℕ → Bool) → ℕ → List ℕ
map_of is zero = []
map_of is (suc n) = map_of is n ++ (digits_of is (8 * n) 8 ∷ [])
