-- Upper case, the one rule that order, hash and lookup share.
use Rattle.std.specs.Prelude.{ℕ, ◌-◌, cond, not, ◌&&◌, List, [], ◌∷◌, eqb, leb}

-- "upper-casing a to z, 0xE0 to 0xFE except 0xF7 (each 32 down) and 0xFF (to 0x0178)": a is 97, z is 122
unfoldable pub upper : ℕ → ℕ
upper c =
    cond (leb 97 c && leb c 122) (c - 32)
    (cond (leb 0xe0 c && (leb c 0xfe && not (eqb c 0xf7))) (c - 32)
    (cond (eqb c 0xff) 0x0178 c))

unfoldable pub uppers : List ℕ → List ℕ
uppers [] = []
uppers (c ∷ cs) = upper c ∷ uppers cs
