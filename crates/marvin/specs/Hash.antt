-- Marvin32: a state of two 32-bit words, into which the message's words are mixed, little-endian; then the bytes that are left with 0x80 behind them
-- and zeros up to a word; then a word of zero. The hash is the state, its low word first.
use Rattle.std.specs.Prelude.{ℕ, zero, suc, ◌+◌, ◌-◌, ◌*◌, ◌/◌, ◌%◌, ◌^◌, List, [], ◌∷◌, ◌++◌, length}
use Rattle.std.specs.Int.Bits.{bit_xor, bit_or}
use Rattle.fields.specs.Number.{u32_at}
use Rattle.marvin.specs.declared.Marvin.{Marvin}

-- a + b and x rotated left by k, in 32 bits
abbrev pub sum : ℕ → ℕ → ℕ
sum a b = (a + b) % 4294967296

abbrev pub rotated : ℕ → ℕ → ℕ
rotated x k = bit_or (x * 2 ^ k % 4294967296) (x / 2 ^ (32 - k))

-- b ^= a; a = rotl(a, i); a += b; b = rotl(b, j)
unfoldable pub half_round : Marvin → ℕ → ℕ → Marvin
half_round s i j = record { low = sum (rotated s.low i) (bit_xor s.high s.low); high = rotated (bit_xor s.high s.low) j }

-- a += word; then two half rounds
unfoldable pub mixed : Marvin → ℕ → Marvin
mixed s word = half_round (half_round (record { low = sum s.low word; high = s.high }) 20 9) 27 19

-- the state after the first n words of a message
unfoldable pub after_words : Marvin → List ℕ → ℕ → Marvin
after_words seed m zero = seed
after_words seed m (suc n) = mixed (after_words seed m n) (u32_at m (4 * n))

-- the bytes that are left, 0x80, zeros
abbrev pub last_word : List ℕ → ℕ
last_word m = u32_at (m ++ (128 ∷ [])) (length m / 4 * 4)

unfoldable pub state_of : Marvin → List ℕ → Marvin
state_of seed m = mixed (mixed (after_words seed m (length m / 4)) (last_word m)) 0

-- "The following seed is used for calculating the *Hash-1* and *Hash-2* (hexadecimal bytes): 82 EF 4D 88 7A 4E 55 C5": these are the number
-- 0x82EF4D887A4E55C5, and its low word is the low one. The hashes of a log that Windows wrote come out only so.
abbrev pub seed_of_logs : Marvin
seed_of_logs = record { low = 0x7a4e_55c5; high = 0x82ef_4d88 }

abbrev pub number_of : Marvin → ℕ
number_of s = s.low + s.high * 0x1_0000_0000

unfoldable pub hash_of : List ℕ → ℕ
hash_of m = number_of (state_of seed_of_logs m)
