-- "The hash starts at 0; for each upper-cased code, H = 37H + code, wrapping at 32 bits."
use Rattle.std.specs.Prelude.{ℕ, ◌+◌, ◌*◌, ◌%◌, List, [], ◌∷◌}
use Rattle.names.specs.Upper_case.{uppers}

-- "H = 37H + code, wrapping at 32 bits"
unfoldable pub mixed : ℕ → ℕ → ℕ
mixed h code = (37 * h + code) % 4294967296

-- "for each .. code"
unfoldable pub mixed_all : ℕ → List ℕ → ℕ
mixed_all h [] = h
mixed_all h (c ∷ cs) = mixed_all (mixed h c) cs

-- "The hash starts at 0; for each upper-cased code .."
unfoldable pub hash_of : List ℕ → ℕ
hash_of cs = mixed_all 0 (uppers cs)
