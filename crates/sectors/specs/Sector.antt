-- Files in sectors of 512 bytes.
use Rattle.std.specs.Prelude.{ℕ, ◌+◌, ◌*◌, ◌<◌, List, ◌++◌, take, drop, get_or}

abbrev pub sector_at : List ℕ → ℕ → List ℕ
sector_at f i = take 512 (drop i f)

-- "writes its 512 bytes and no others": f with the bytes `new` at i
abbrev pub stored : List ℕ → ℕ → List ℕ → List ℕ
stored f i new = take i f ++ (new ++ drop (i + 512) f)

-- "one bit per 512-byte page": where page p of the bins data lies in the hive, and its bytes there
abbrev pub page_place : ℕ → ℕ
page_place p = 4096 + 512 * p

unfoldable pub page : List ℕ → ℕ → List ℕ
page h p = sector_at h (page_place p)

-- a file is a list of bytes
abbrev pub Bytes : List ℕ → Type 0
Bytes f = (i : ℕ) → get_or f i 0 < 256
