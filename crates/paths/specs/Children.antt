-- One step of a path, from a key's offset: "1 to 7; 16; then the records in list order up to the first match [..]; 17". The given key's own record is
-- tested as the root's is, with no key under examination; then it is that key. h is the hive, o the key's offset, x the name.
use Rattle.std.specs.Prelude.{ℕ, Bool, not, ◌&&◌, List, [], ◌∷◌, ◌++◌, Err, Ok, Result}
use Rattle.fields.specs.declared.Offset.{Offset}
use Rattle.base.specs.Block.{bins_data}
use Rattle.names.specs.Codes.{has_code, backslash}
use Rattle.search.specs.declared.How.{How}
use Rattle.search.specs.declared.How.TheVariants.{InTurn, Halving}
use Rattle.paths.specs.Paths.{is_part}
use Rattle.paths.specs.Descent.{opened, lookup_key_by}
use Rattle.paths.specs.Answers.{ask_fault, key_found}
use Rattle.fields.specs.declared.Refusal.{Refusal}
use Rattle.paths.specs.declared.Way.{Way}

-- a name that a path can have as one part: 1 to 255 units, and no backslash, at which it would be split
unfoldable pub is_step : List ℕ → Bool
is_step x = is_part x && not (has_code backslash x)

-- 1 to 7, then 16; then the key of that name below the key at that offset, by either search
unfoldable pub child_look_by : How → List ℕ → Offset → List ℕ → Result Way Refusal
child_look_by how h o x = opened (ask_fault h (is_step x)) (lookup_key_by how (bins_data h) o (x ∷ []))

unfoldable pub child_by : How → List ℕ → Offset → List ℕ → Result Offset Refusal
child_by how h o x = key_found (child_look_by how h o x)

-- child_of
abbrev pub child_answer : List ℕ → Offset → List ℕ → Result Offset Refusal
child_answer h o x = child_by InTurn h o x

-- quick_child_of
abbrev pub quick_child : List ℕ → Offset → List ℕ → Result Offset Refusal
quick_child h o x = child_by Halving h o x

-- ---- a path is its steps

-- a key that is found, and what follows it; a refusal ends it
abbrev pub on_key : Result Offset Refusal → (Offset → Result Offset Refusal) → Result Offset Refusal
on_key (Ok o) go = go o
on_key (Err r) go = Err r

-- a step for each name, one after the other
unfoldable pub steps_by : How → List ℕ → Result Offset Refusal → List (List ℕ) → Result Offset Refusal
steps_by how h a [] = a
steps_by how h a (x ∷ xs) = steps_by how h (on_key a (λ o. child_by how h o x)) xs

-- a path, and one part more behind it: the empty path has no backslash before it
unfoldable pub joined_to : List ℕ → List ℕ → List ℕ
joined_to [] x = x
joined_to (u ∷ us) x = (u ∷ us) ++ (backslash ∷ x)
