-- A stored name as the list of its codes.
use Rattle.std.specs.Prelude.{ℕ, ◌+◌, ◌*◌, ◌/◌, Bool, true, false, ◌||◌, List, [], ◌∷◌, eqb}

-- "0x0020: one byte per character, else UTF-16LE", and of values "0x0001: one byte per character": `true` is one byte per character.
-- "One byte means its own code." An odd last byte, which no admissible UTF-16 name has, counts nothing.
unfoldable pub codes : Bool → List ℕ → List ℕ
codes true s = s
codes false [] = []
codes false (low ∷ []) = []
codes false (low ∷ high ∷ s) = (low + high * 256) ∷ codes false s

-- how many characters a name of so many bytes has
unfoldable pub characters_in : ℕ → Bool → ℕ
characters_in len true = len
characters_in len false = len / 2

-- whether a code stands in a name: "A name has .. no backslash"
unfoldable pub has_code : ℕ → List ℕ → Bool
has_code k [] = false
has_code k (c ∷ cs) = eqb c k || has_code k cs

-- the code of the backslash
abbrev pub backslash : ℕ
backslash = 92
