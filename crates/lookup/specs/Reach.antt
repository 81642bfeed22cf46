-- What a key holds, said without a search: a value under a name. d is the bins data.
use Rattle.std.specs.Prelude.{ℕ, ◌<◌, ◌≡◌, List, ◌∷◌, length, get_or}
use Rattle.fields.specs.declared.Offset.{Offset}
use Rattle.fields.specs.Faults.{nowhere}
use Rattle.names.specs.Comparison.{compare}
use Rattle.records.specs.Keys.{codes_of}
use Rattle.values.specs.Records.{value_of}
use Rattle.std.specs.declared.cmp.Ordering.TheVariants.{Equal}

abbrev pub HasName : List ℕ → ℕ → List ℕ → Offset → Type 0
HasName d minor x v = compare (codes_of d (value_of d minor v).name) x ≡ Equal

-- the first of some values that has a name
pub data FirstNamed (d : List ℕ) (minor : ℕ) (x : List ℕ) : List Offset → Offset → Type 0 where
  first : {v : Offset} {vs : List Offset} → HasName d minor x v → FirstNamed d minor x (v ∷ vs) v
  later : {u v : Offset} {vs : List Offset} → (HasName d minor x u → ⊥) → FirstNamed d minor x vs v → FirstNamed d minor x (u ∷ vs) v

-- a name that one value at most has, by positions
abbrev pub OnlyNamed : List ℕ → ℕ → List ℕ → List Offset → Type 0
OnlyNamed d minor x vs =
    (i j : ℕ) → i < length vs → j < length vs → HasName d minor x (get_or vs i nowhere) → HasName d minor x (get_or vs j nowhere) → i ≡ j
