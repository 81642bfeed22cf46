-- The base block. What is said of it reads the file's first 512 bytes alone, so that a log's copy of them and a store elsewhere are one `ap` away.
use Rattle.std.specs.Prelude.{ℕ, zero, suc, ◌+◌, ◌*◌, ◌%◌, Bool, cond, not, ◌&&◌, List, [], ◌∷◌, eqb, leb, length, take, drop}
use Rattle.std.specs.Int.Bits.{bit_xor}
use Rattle.fields.specs.declared.Fault.TheVariants.{HiveShort, NoRegf, Checksum, Version, BinsSize, BinsCut, Sequences}
use Rattle.fields.specs.declared.Offset.{Offset}
use Rattle.fields.specs.Number.{u32_at}
use Rattle.fields.specs.Bytes.{stands_at}
use Rattle.fields.specs.Faults.{flaw, nowhere, unless, ◌next◌, is_sound, Verdict}

-- the first 512 bytes of a file
abbrev pub sector : List ℕ → List ℕ
sector file = take 512 file

-- Of the definitions down to `clean`, s is a file's first sector.

-- "regf" at 0
abbrev pub is_regf : List ℕ → Bool
is_regf s = stands_at s 0 (114 ∷ 101 ∷ 103 ∷ 102 ∷ [])

-- the XOR of the first n words
unfoldable pub xors : List ℕ → ℕ → ℕ
xors s zero = 0
xors s (suc n) = bit_xor (xors s n) (u32_at s (n * 4))

-- "The checksum at 508 is the XOR of the 127 words before it, but a XOR of 0 is stored as 1 and one of 0xFFFFFFFF as 0xFFFFFFFE"
unfoldable pub as_stored : ℕ → ℕ
as_stored x = cond (eqb x 0) 1 (cond (eqb x 4294967295) 4294967294 x)

unfoldable pub stored_checksum : List ℕ → ℕ
stored_checksum s = as_stored (xors s 127)

abbrev pub is_summed : List ℕ → Bool
is_summed s = eqb (u32_at s 508) (stored_checksum s)

-- "major 1 at 20; minor 3, 4 or 5 at 24; file type 0 at 28; format 1 at 32; [..] clustering factor 1 at 44", with the file type that is asked for
abbrev pub minor_of : List ℕ → ℕ
minor_of s = u32_at s 24

abbrev pub type_of : List ℕ → ℕ
type_of s = u32_at s 28

unfoldable pub is_version : List ℕ → ℕ → Bool
is_version s type =
    eqb (u32_at s 20) 1 && (leb 3 (minor_of s) && (leb (minor_of s) 5 && (eqb (type_of s) type && (eqb (u32_at s 32) 1 && eqb (u32_at s 44) 1))))

-- "bins size at 40, a nonzero multiple of 4096, at most 2,147,479,552"
abbrev pub bins_of : List ℕ → ℕ
bins_of s = u32_at s 40

abbrev pub bins_limit : ℕ
bins_limit = 2147479552

unfoldable pub is_bins_size : ℕ → Bool
is_bins_size n = not (eqb n 0) && (eqb (n % 4096) 0 && leb n bins_limit)

-- the tests 2 to 5, with the file type that is asked for
unfoldable pub block_fault : List ℕ → ℕ → Verdict
block_fault s type =
    unless (is_regf s) (flaw NoRegf nowhere)
    next unless (is_summed s) (flaw Checksum nowhere)
    next unless (is_version s type) (flaw Version nowhere)
    next unless (is_bins_size (bins_of s)) (flaw BinsSize nowhere)

-- "A base block is *usable* when all this holds"
unfoldable pub usable : List ℕ → ℕ → Bool
usable s type = is_sound (block_fault s type)

-- "sequence numbers at 4 and 8"
abbrev pub is_settled : List ℕ → Bool
is_settled s = eqb (u32_at s 4) (u32_at s 8)

-- "it is *clean* when usable with equal sequence numbers"
unfoldable pub clean : List ℕ → Bool
clean s = usable s 0 && is_settled s

-- "root offset at 36"
abbrev pub root_of : List ℕ → Offset
root_of s = record { 0 = u32_at s 36 }

-- The reader's tests 1 to 7: "The first fault in this order answers."
unfoldable pub base_fault : List ℕ → Verdict
base_fault h =
    unless (leb 4096 (length h)) (flaw HiveShort nowhere)
    next block_fault (sector h) 0
    next unless (leb (4096 + bins_of (sector h)) (length h)) (flaw BinsCut nowhere)
    next unless (is_settled (sector h)) (flaw Sequences nowhere)

-- the bins data of a hive: "Bytes past the bins are padding and not read."
abbrev pub bins_data : List ℕ → List ℕ
bins_data h = take (bins_of (sector h)) (drop 4096 h)
