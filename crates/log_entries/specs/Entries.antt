-- The entries of a new-format log l: "HvLE" at 0, size at 4, number at 12, bins size at 16, count of page references at 20, Hash-1 at 24, Hash-2 at 32,
-- references from 40, their pages behind them. a is the place where an entry starts.
use Rattle.std.specs.Prelude.{ℕ, zero, suc, ◌+◌, ◌-◌, ◌*◌, ◌/◌, ◌%◌, max, Bool, true, cond, ◌&&◌, ◌||◌, List, [], ◌∷◌, eqb, leb, length, take, drop}
use Rattle.fields.specs.Number.{u32_at, u64_at}
use Rattle.fields.specs.Bytes.{stands_at}
use Rattle.base.specs.Block.{sector, is_bins_size}
use Rattle.marvin.specs.Hash.{hash_of}
use Rattle.log_entries.specs.declared.Chain.{Chain}

-- "HvLE"
abbrev pub hvle : List ℕ
hvle = 72 ∷ 118 ∷ 76 ∷ 69 ∷ []

abbrev pub size_at : List ℕ → ℕ → ℕ
size_at l a = u32_at l (a + 4)

abbrev pub number_at : List ℕ → ℕ → ℕ
number_at l a = u32_at l (a + 12)

abbrev pub bins_at : List ℕ → ℕ → ℕ
bins_at l a = u32_at l (a + 16)

abbrev pub count_at : List ℕ → ℕ → ℕ
count_at l a = u32_at l (a + 20)

-- reference i: an offset in the bins data, and a size
abbrev pub ref_offset : List ℕ → ℕ → ℕ → ℕ
ref_offset l a i = u32_at l (a + 40 + 8 * i)

abbrev pub ref_size : List ℕ → ℕ → ℕ → ℕ
ref_size l a i = u32_at l (a + 44 + 8 * i)

-- the bytes of the first n references
unfoldable pub ref_bytes : List ℕ → ℕ → ℕ → ℕ
ref_bytes l a zero = 0
ref_bytes l a (suc n) = ref_bytes l a n + ref_size l a n

-- "attached to a log entry in the same order [..] without an alignment or gaps"
abbrev pub ref_place : List ℕ → ℕ → ℕ → ℕ
ref_place l a i = a + 40 + 8 * count_at l a + ref_bytes l a i

-- ---- the tests of one entry

-- "*Hash-1* is the Marvin32 hash of the data starting from the beginning of the first page reference of a current log entry with the length of
-- *Size - 40* bytes", padding too; "*Hash-2* is the Marvin32 hash of the first 32 bytes of a current log entry (including the *Hash-1* calculated before)"
unfoldable pub is_hashed : List ℕ → ℕ → Bool
is_hashed l a = eqb (u64_at l (a + 24)) (hash_of (take (size_at l a - 40) (drop (a + 40) l))) && eqb (u64_at l (a + 32)) (hash_of (take 32 (drop a l)))

-- not "outside that entry's bins size, unaligned"
abbrev pub is_placed : List ℕ → ℕ → ℕ → Bool
is_placed l a i = eqb (ref_offset l a i % 512) 0 && (eqb (ref_size l a i % 512) 0 && leb (ref_offset l a i + ref_size l a i) (bins_at l a))

-- two references share no byte; one of size 0 shares none with any
abbrev pub are_apart : List ℕ → ℕ → ℕ → ℕ → Bool
are_apart l a i j =
    (eqb (ref_size l a i) 0 || eqb (ref_size l a j) 0)
    || (leb (ref_offset l a i + ref_size l a i) (ref_offset l a j) || leb (ref_offset l a j + ref_size l a j) (ref_offset l a i))

-- reference i shares no byte with the first n
unfoldable pub apart_from : List ℕ → ℕ → ℕ → ℕ → Bool
apart_from l a i zero = true
apart_from l a i (suc n) = apart_from l a i n && are_apart l a i n

unfoldable pub are_refs : List ℕ → ℕ → ℕ → Bool
are_refs l a zero = true
are_refs l a (suc n) = are_refs l a n && (is_placed l a n && apart_from l a n n)

-- "torn, wrongly hashed or out of sequence"; "a bins size that 01 forbids"; the references
unfoldable pub is_entry : List ℕ → ℕ → ℕ → Bool
is_entry l a n =
    leb (a + 40) (length l)
    && (stands_at l a hvle
    && (leb 512 (size_at l a)
    && (eqb (size_at l a % 512) 0
    && (leb (a + size_at l a) (length l)
    && (is_hashed l a
    && (eqb (number_at l a) n
    && (is_bins_size (bins_at l a)
    && (leb (ref_place l a (count_at l a)) (a + size_at l a) && are_refs l a (count_at l a)))))))))

-- ---- the entries that count

pub record Entry : Type 0 where
  pub at : ℕ
  pub number : ℕ

-- "the first entry that is torn, wrongly hashed or out of sequence ends the log, and those before it count": at most k entries, from place a and number n on
unfoldable pub counted_from : ℕ → List ℕ → ℕ → ℕ → List Entry
counted_from zero l a n = []
counted_from (suc k) l a n = cond (is_entry l a n) (record { at = a; number = n } ∷ counted_from k l (a + size_at l a) (suc n)) []

-- "Entries count from the log's own sequence number, consecutively": the first stands at 512, and each has 512 bytes at least
unfoldable pub counted : List ℕ → List Entry
counted l = counted_from (length l / 512) l 512 (u32_at (sector l) 4)

-- ---- what one pass over them finds

-- how many there are, where the last ends, its number and bins size, and the largest bins size of all
unfoldable pub grown : List ℕ → Chain → Entry → Chain
grown l c e =
    record { entries = suc c.entries; end = e.at + size_at l e.at; last = e.number; bins = bins_at l e.at; largest = max c.largest (bins_at l e.at) }

abbrev pub no_chain : Chain
no_chain = record { entries = 0; end = 512; last = 0; bins = 0; largest = 0 }

unfoldable pub chain_from : List ℕ → Chain → List Entry → Chain
chain_from l c [] = c
chain_from l c (e ∷ es) = chain_from l (grown l c e) es

unfoldable pub chain_of : List ℕ → Chain
chain_of l = chain_from l no_chain (counted l)
