-- What is known of a key that lookup finds in a hive that is well formed.
use Prim.Native.Nat.{ℕ, suc}
use mathlib.Core.List.{List, ◌∷◌}
use Rattle.fields.specs.declared.Offset.{Offset}
use Rattle.tree.specs.declared.Hive.{Hive}
use Rattle.tree.specs.WellFormed.{KeyStands, TreeStands, key}
use Rattle.paths.specs.Reach.{Holds, here, below}

-- a key that is held under a path stands
pub holds-stands : (d : List ℕ) (hive : Hive) (n : ℕ) (o e : Offset) (xs : List (List ℕ)) → TreeStands d hive n o → Holds d o xs e → KeyStands d hive.minor e
holds-stands d hive Prim.Native.Nat.zero o e xs x₂ _ = elim x₂ [ ]
holds-stands d hive (suc n) o e xs (key s a ch tree) here = s
holds-stands d hive (suc n) o e (x ∷ xs) (key s a ch tree) (below {c = c} i q r) = holds-stands d hive n c.at e xs (tree c i) r
