-- A small hive and its log, which figures and traces are computed on: "bins size 8,192, bitmap 0x01 0x80".
use Rattle.std.specs.Prelude.{ℕ, List, [], ◌∷◌, ◌++◌, replicate}

-- a log's first sector, of bins size 8,192
unfoldable pub head : List ℕ
head =
    114 ∷ 101 ∷ 103 ∷ 102 ∷ 7 ∷ 0 ∷ 0 ∷ 0 ∷ 7 ∷ 0 ∷ 0 ∷ 0
    ∷ replicate 8 0 ++ (1 ∷ 0 ∷ 0 ∷ 0 ∷ 5 ∷ 0 ∷ 0 ∷ 0 ∷ 1 ∷ 0 ∷ 0 ∷ 0 ∷ 1 ∷ 0 ∷ 0 ∷ 0 ∷ 32 ∷ 0 ∷ 0 ∷ 0 ∷ 0 ∷ 32 ∷ 0 ∷ 0 ∷ 1 ∷ 0 ∷ 0 ∷ 0
    ∷ (replicate 460 0 ++ (87 ∷ 69 ∷ 103 ∷ 102 ∷ [])))

-- the log there: bitmap 0x01 0x80, page 0, and the first n bytes of page 15
unfoldable pub log : ℕ → List ℕ
log n = head ++ (68 ∷ 73 ∷ 82 ∷ 84 ∷ 1 ∷ 128 ∷ replicate 506 0) ++ (replicate 28 0 ++ replicate 484 7) ++ replicate n 9

-- a hive of zeros: not usable
unfoldable pub hive : List ℕ
hive = replicate 12288 0

-- a log of Windows 8.1 and later for it: its entries 7 and 8 have two versions of page 1, 512 bytes 0xAA and then 0xBB
unfoldable pub later : List ℕ
later =
    (114 ∷ 101 ∷ 103 ∷ 102 ∷ 7 ∷ 0 ∷ 0 ∷ 0 ∷ 7 ∷ 0 ∷ 0 ∷ 0
    ∷ replicate 8 0 ++ (1 ∷ 0 ∷ 0 ∷ 0 ∷ 5 ∷ 0 ∷ 0 ∷ 0 ∷ 6 ∷ 0 ∷ 0 ∷ 0 ∷ 1 ∷ 0 ∷ 0 ∷ 0 ∷ 32 ∷ 0 ∷ 0 ∷ 0 ∷ 0 ∷ 32 ∷ 0 ∷ 0 ∷ 1 ∷ 0 ∷ 0 ∷ 0
    ∷ (replicate 460 0 ++ (80 ∷ 69 ∷ 103 ∷ 102 ∷ []))))
    ++ ((72 ∷ 118 ∷ 76 ∷ 69 ∷ 0 ∷ 4 ∷ 0 ∷ 0 ∷ 0 ∷ 0 ∷ 0 ∷ 0 ∷ 7 ∷ 0 ∷ 0 ∷ 0 ∷ 0 ∷ 16 ∷ 0 ∷ 0 ∷ 1 ∷ 0 ∷ 0 ∷ 0
    ∷ 149 ∷ 176 ∷ 79 ∷ 90 ∷ 235 ∷ 72 ∷ 241 ∷ 125 ∷ 93 ∷ 111 ∷ 57 ∷ 168 ∷ 71 ∷ 92 ∷ 135 ∷ 0 ∷ 0 ∷ 2 ∷ 0 ∷ 0 ∷ 0 ∷ 2 ∷ 0 ∷ 0
    ∷ (replicate 512 170 ++ replicate 464 0))
    ++ (72 ∷ 118 ∷ 76 ∷ 69 ∷ 0 ∷ 4 ∷ 0 ∷ 0 ∷ 0 ∷ 0 ∷ 0 ∷ 0 ∷ 8 ∷ 0 ∷ 0 ∷ 0 ∷ 0 ∷ 16 ∷ 0 ∷ 0 ∷ 1 ∷ 0 ∷ 0 ∷ 0
    ∷ 62 ∷ 22 ∷ 26 ∷ 143 ∷ 249 ∷ 124 ∷ 191 ∷ 80 ∷ 205 ∷ 78 ∷ 92 ∷ 110 ∷ 163 ∷ 181 ∷ 39 ∷ 25 ∷ 0 ∷ 2 ∷ 0 ∷ 0 ∷ 0 ∷ 2 ∷ 0 ∷ 0
    ∷ (replicate 512 187 ++ replicate 464 0)))
