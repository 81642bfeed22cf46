-- A list's kind and count stand in the first 4 bytes of its data.
use Prim.Native.Nat.{ℕ}
use native.Mathlib.Omega.{arith}
use mathlib.Core.Path.{◌≡◌, ap}
use mathlib.Core.List.{List, [], ◌∷◌}
use lib.Seq.{take-take}
use Rattle.fields.specs.declared.Offset.{Offset}
use Rattle.fields.specs.Bytes.{same_bytes, stands_at}
use Rattle.cells.specs.Named.{data_at, part_in}
use Rattle.cells.proofs.Parts.{u16-part}
use Rattle.records.specs.Lists.{count_of, width_of}
use Rattle.records.specs.Terms.{leaves_in, leaves_at, leaf_in, leaf_of}

module _ (d : List ℕ) (o : Offset) where
  -- a signature of two bytes
  stands-front : (a b : ℕ) → stands_at (part_in d o 0 4) 0 (a ∷ b ∷ []) ≡ stands_at (data_at d o) 0 (a ∷ b ∷ [])
  unfolding stands_at
  stands-front a b = ap (λ (s : List ℕ). same_bytes s (a ∷ b ∷ [])) (take-take 2 4 (data_at d o) (omega arith))

  count-front : count_of (part_in d o 0 4) ≡ count_of (data_at d o)
  count-front = u16-part (data_at d o) 0 4 2 (omega arith)

  pub leaves-front : leaves_in (part_in d o 0 4) o ≡ leaves_at d o
  unfolding leaves_at leaves_in
  leaves-front = rw (stands-front 114 105, count-front)

  pub leaf-front : leaf_in (part_in d o 0 4) o ≡ leaf_of d o
  unfolding leaf_of leaf_in width_of
  leaf-front = rw (stands-front 108 105, stands-front 108 104, stands-front 108 102, count-front)
