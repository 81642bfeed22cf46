-- The inputs that the figures speak of.
use Rattle.std.specs.Prelude.{ℕ, List, [], ◌∷◌, ◌++◌, replicate}

-- "regf" and 504 zero bytes
unfoldable pub bare : List ℕ
bare = 114 ∷ 101 ∷ 103 ∷ 102 ∷ replicate 504 0

-- a sector whose only nonzero word, at 200, has these four bytes
unfoldable pub lone : ℕ → ℕ → ℕ → ℕ → List ℕ
lone a b c d = replicate 200 0 ++ (a ∷ b ∷ c ∷ d ∷ replicate 308 0)

-- the header of a first bin of 4096 bytes
unfoldable pub header : List ℕ
header = 104 ∷ 98 ∷ 105 ∷ 110 ∷ 0 ∷ 0 ∷ 0 ∷ 0 ∷ 0 ∷ 16 ∷ 0 ∷ 0 ∷ replicate 20 0

-- a first sector that gives a bins size in four bytes
unfoldable pub sized : ℕ → ℕ → ℕ → ℕ → List ℕ
sized a b c d = replicate 40 0 ++ (a ∷ b ∷ c ∷ d ∷ replicate 468 0)

-- the base block of a hive of one bin
unfoldable pub base_block : List ℕ
base_block =
    114 ∷ 101 ∷ 103 ∷ 102 ∷ 1 ∷ 0 ∷ 0 ∷ 0 ∷ 1 ∷ 0 ∷ 0 ∷ 0
    ∷ replicate 8 0 ++ (1 ∷ 0 ∷ 0 ∷ 0 ∷ 5 ∷ 0 ∷ 0 ∷ 0 ∷ 0 ∷ 0 ∷ 0 ∷ 0 ∷ 1 ∷ 0 ∷ 0 ∷ 0 ∷ 32 ∷ 0 ∷ 0 ∷ 0 ∷ 0 ∷ 16 ∷ 0 ∷ 0 ∷ 1 ∷ 0 ∷ 0 ∷ 0
    ∷ (replicate 460 0 ++ (0x56 ∷ 0x75 ∷ 0x67 ∷ 0x66 ∷ replicate 3584 0)))

-- an `nk` with flags 0x0020, no subkeys, no values, and the name "R"
unfoldable pub root_cell : List ℕ
root_cell = 0xa8 ∷ 0xff ∷ 0xff ∷ 0xff ∷ 110 ∷ 107 ∷ 0x20 ∷ 0 ∷ replicate 68 0 ++ (1 ∷ 0 ∷ 0 ∷ 0 ∷ 82 ∷ replicate 7 0)

-- the minimal hive: one bin with the root, named by one byte, and a free cell with the rest
unfoldable pub minimal : List ℕ
minimal = base_block ++ (header ++ (root_cell ++ (0x88 ∷ 0x0f ∷ 0 ∷ 0 ∷ replicate 3972 0)))

-- the root with a security offset, the item at 120
unfoldable pub root_with_item : List ℕ
root_with_item =
    0xa8 ∷ 0xff ∷ 0xff ∷ 0xff ∷ 110 ∷ 107 ∷ 0x20 ∷ 0
    ∷ replicate 40 0 ++ (120 ∷ 0 ∷ 0 ∷ 0 ∷ replicate 24 0 ++ (1 ∷ 0 ∷ 0 ∷ 0 ∷ 82 ∷ replicate 7 0))

-- "an empty item after the key, linked to itself": an `sk`, 120 forward and 120 backward, count 1, no descriptor
unfoldable pub item_cell : List ℕ
item_cell = 0xe8 ∷ 0xff ∷ 0xff ∷ 0xff ∷ 115 ∷ 107 ∷ 0 ∷ 0 ∷ 120 ∷ 0 ∷ 0 ∷ 0 ∷ 120 ∷ 0 ∷ 0 ∷ 0 ∷ 1 ∷ 0 ∷ 0 ∷ 0 ∷ 0 ∷ 0 ∷ 0 ∷ 0 ∷ []

-- the minimal hive with that item
unfoldable pub with_item : List ℕ
with_item = base_block ++ (header ++ (root_with_item ++ (item_cell ++ (0x70 ∷ 0x0f ∷ 0 ∷ 0 ∷ replicate 3948 0))))

-- the same hive with the size field 0x80000000 in its first cell
unfoldable pub lowest : List ℕ
lowest = base_block ++ (header ++ (0 ∷ 0 ∷ 0 ∷ 0x80 ∷ replicate 4060 0))

-- and with 0x7FFFFFF8, the largest free size that the field can say
unfoldable pub highest : List ℕ
highest = base_block ++ (header ++ (0xf8 ∷ 0xff ∷ 0xff ∷ 0x7f ∷ replicate 4060 0))

-- a work map of 64 bytes that was used before
unfoldable pub used : List ℕ
used = replicate 64 255
