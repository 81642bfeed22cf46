-- Figures, by computation. "child" is 99 104 105 108 100.
use Prim.Native.Nat.{ℕ}
use mathlib.Core.Path.{◌≡◌, refl}
use mathlib.Core.Bool.{true, false}
use mathlib.Core.List.{List, [], ◌∷◌}
use Rattle.names.specs.Codes.{codes, has_code, backslash}
use Rattle.names.specs.Upper_case.{upper, uppers}
use Rattle.names.specs.Comparison.{by_code, compare}
use Rattle.names.specs.Hashing.{mixed, mixed_all, hash_of}
use Rattle.std.specs.declared.cmp.Ordering.TheVariants.{Equal, Greater, Less}

-- "child", one byte per character and as UTF-16LE
abbrev child : List ℕ
child = codes true (99 ∷ 104 ∷ 105 ∷ 108 ∷ 100 ∷ [])

abbrev child-16 : List ℕ
child-16 = codes false (99 ∷ 0 ∷ 104 ∷ 0 ∷ 105 ∷ 0 ∷ 108 ∷ 0 ∷ 100 ∷ 0 ∷ [])

-- "CHILD" and "Children", one byte per character
abbrev child-capitals : List ℕ
child-capitals = codes true (67 ∷ 72 ∷ 73 ∷ 76 ∷ 68 ∷ [])

abbrev children : List ℕ
children = codes true (67 ∷ 104 ∷ 105 ∷ 108 ∷ 100 ∷ 114 ∷ 101 ∷ 110 ∷ [])

-- UTF-16 storage does not change the hash
hash-child-16 : hash_of child-16 ≡ 129318620
unfolding codes uppers upper hash_of mixed_all mixed
hash-child-16 = refl

-- "children" wraps at 32 bits
hash-children : hash_of children ≡ 551047349
unfolding codes uppers upper hash_of mixed_all mixed
hash-children = refl

-- a to z, and neither neighbour
upper-ends : (upper 96 ≡ 96) × (upper 97 ≡ 65) × (upper 122 ≡ 90) × (upper 123 ≡ 123)
unfolding upper
upper-ends = (refl, refl, refl, refl)

-- the accented letters, and neither neighbour; times and divided are two names, and micro and sharp s have no capital
accented-ends : (upper 0xdf ≡ 0xdf) × (upper 0xe0 ≡ 0xc0) × (upper 0xfe ≡ 0xde) × (upper 0xff ≡ 0x178) × (upper 0x100 ≡ 0x100) × (upper 0x101 ≡ 0x101)
unfolding upper
accented-ends = (refl, refl, refl, refl, refl, refl)

accented-gaps : (upper 0xb5 ≡ 0xb5) × (upper 0xd7 ≡ 0xd7) × (upper 0xf6 ≡ 0xd6) × (upper 0xf7 ≡ 0xf7) × (upper 0xf8 ≡ 0xd8) × (upper 0x178 ≡ 0x178)
unfolding upper
accented-gaps = (refl, refl, refl, refl, refl, refl)

-- names that differ in case only are the same
case-only : compare child child-capitals ≡ Equal
unfolding codes uppers upper compare by_code
case-only = refl

-- one byte per character against UTF-16LE
mixed-same : compare child-16 child-capitals ≡ Equal
unfolding codes uppers upper compare by_code
mixed-same = refl

-- `ab`, one byte per character, against `aC` and `aA` as UTF-16LE
mixed-before : compare (codes true (97 ∷ 98 ∷ [])) (codes false (97 ∷ 0 ∷ 67 ∷ 0 ∷ [])) ≡ Less
unfolding codes uppers upper compare by_code
mixed-before = refl

mixed-after : compare (codes true (97 ∷ 98 ∷ [])) (codes false (97 ∷ 0 ∷ 65 ∷ 0 ∷ [])) ≡ Greater
unfolding codes uppers upper compare by_code
mixed-after = refl

-- a code above 255 stands after every one-byte code but 0xFF, though its low byte is 0
wide-after : compare (codes false (0 ∷ 1 ∷ [])) (codes true (254 ∷ [])) ≡ Greater
unfolding codes uppers upper compare by_code
wide-after = refl

-- 0xFF stands after 0x0177, and is one name with 0x0178
y-after : compare (codes true (255 ∷ [])) (codes false (0x77 ∷ 1 ∷ [])) ≡ Greater
unfolding codes uppers upper compare by_code
y-after = refl

-- a one-byte 0xE9 and a UTF-16 0x00E9 are the same letter, and both are 0xC9
accented-same : (compare (codes true (0xe9 ∷ [])) (codes false (0xe9 ∷ 0 ∷ [])) ≡ Equal) × (compare (codes true (0xe9 ∷ [])) (codes false (0xc9 ∷ 0 ∷ [])) ≡ Equal)
unfolding codes uppers upper compare by_code
accented-same = (refl, refl)

-- "a prefix before the longer name", either way round, and the empty name before all others
prefix-before : compare child-16 children ≡ Less
unfolding codes uppers upper compare by_code
prefix-before = refl

longer-after : compare children child-16 ≡ Greater
unfolding codes uppers upper compare by_code
longer-after = refl

empty-before : compare (codes false []) child ≡ Less
unfolding codes uppers upper compare by_code
empty-before = refl

-- a letter is compared as its capital: "a" stands before "_", which stands between Z and a
capital-before : compare (codes true (97 ∷ [])) (codes true (95 ∷ [])) ≡ Less
unfolding codes uppers upper compare by_code
capital-before = refl

-- a backslash is a character, and no byte of one: 0x5c00 as UTF-16LE has none
backslashes : (has_code backslash (codes true (97 ∷ 92 ∷ [])) ≡ true) × (has_code backslash (codes false (0 ∷ 92 ∷ [])) ≡ false)
unfolding codes has_code
backslashes = (refl, refl)
