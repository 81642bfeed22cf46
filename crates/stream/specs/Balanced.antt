-- "one balanced root key": what a stream of frames is made of.
use Rattle.std.specs.Prelude.{ℕ, cond, List, [], ◌∷◌, ◌++◌, eqb}
use Rattle.fields.specs.declared.Offset.{Offset}
use Rattle.fields.specs.Number.{u16_at}
use Rattle.stream.specs.Stream.{frame, Framed}

-- the kind that a frame says, and the keys of the frames of kind 16, in order
abbrev pub kind_of : List ℕ → ℕ
kind_of b = u16_at b 4

unfoldable pub opened_by : List Framed → List Offset
opened_by [] = []
opened_by (f ∷ fs) = cond (eqb (kind_of f.bytes) 16) (f.key ∷ opened_by fs) (opened_by fs)

-- a key opens, has its values and then its subkeys, each balanced, and closes
pub data Part : Type 0 where
  a_key : Part
  values : Part
  subkeys : Part

pub data Balanced : Part → List ℕ → Type 0 where
  no-values : Balanced values []
  value : (p : List ℕ) {s : List ℕ} → Balanced values s → Balanced values (frame 17 p ++ s)
  no-subkeys : Balanced subkeys []
  subkey : {s t : List ℕ} → Balanced a_key s → Balanced subkeys t → Balanced subkeys (s ++ t)
  opened : (p : List ℕ) {s t : List ℕ} → Balanced values s → Balanced subkeys t → Balanced a_key (frame 16 p ++ (s ++ (t ++ frame 18 [])))
