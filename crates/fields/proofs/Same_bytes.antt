-- `same_bytes` is std's test of two lists of numbers.
use Rattle.std.proofs.Common.{ℕ, ◌-◌, ◌≡◌, refl, ap, ◌∙◌, eqb, ◌&&◌, List, [], ◌∷◌, length, take, drop}
use Rattle.std.proofs.lemmas.Cmp.{nat_list_eq_equiv}
use Rattle.std.proofs.lemmas.List.{take_rest}
use Rattle.std.specs.Cmp.Lexicographic.{pointwise}
use Rattle.fields.specs.Bytes.{same_bytes, stands_at}

pub pointwise_same : (a b : List ℕ) → pointwise eqb a b ≡ same_bytes a b
unfolding same_bytes
pointwise_same [] [] = refl
pointwise_same [] (y ∷ b) = refl
pointwise_same (x ∷ a) [] = refl
pointwise_same (x ∷ a) (y ∷ b) = ap (λ t. eqb x y && t) (pointwise_same a b)

-- as `starts_with` asks it of what is left from i on
pub starts_same : (s what : List ℕ) (i : ℕ) → pointwise eqb what (take (length what) (take (length s - i) (drop i s))) ≡ stands_at s i what
unfolding stands_at
starts_same s what i = rw (take_rest s i) (nat_list_eq_equiv.symm what _ ∙ pointwise_same _ what)
