-- The way along the parts of a path, a search below a key for each. d is the bins data; there is no map, and a cell is named by its own header.
use Rattle.std.specs.Prelude.{ℕ, List, [], ◌∷◌, Err, None, Ok, Option, Result, Some}
use Rattle.fields.specs.declared.Offset.{Offset}
use Rattle.fields.specs.Faults.{no_key, refusal_of, Verdict}
use Rattle.cells.specs.Rule.{Header}
use Rattle.records.specs.Keys.{key_fault, key_of}
use Rattle.search.specs.declared.How.{How}
use Rattle.search.specs.declared.How.TheVariants.{InTurn}
use Rattle.search.specs.Quick.{below_by}
use Rattle.paths.specs.declared.Way.TheVariants as way
use Rattle.fields.specs.declared.Flaw.{Flaw}
use Rattle.fields.specs.declared.Refusal.{Refusal}
use Rattle.paths.specs.declared.Way.{Way}

-- a search below a key, and the way on from what it finds: where it finds nothing, or a fault, that is the key under examination
unfoldable pub on_found : Offset → Result (Option Offset) Flaw → (Offset → Result Way Refusal) → Result Way Refusal
on_found k (Ok (Some o)) go = go o
on_found k (Ok None) go = Ok (way.Missing k)
on_found k (Err f) go = Err (refusal_of k f)

-- along the parts of a path, from a key, by either search
unfoldable pub descend_by : How → List ℕ → Offset → List (List ℕ) → Result Way Refusal
descend_by how d o [] = Ok (way.Found o)
descend_by how d o (x ∷ xs) = on_found o (below_by how d x (key_of d o)) (λ c. descend_by how d c xs)

abbrev pub descend : List ℕ → Offset → List (List ℕ) → Result Way Refusal
descend d o xs = descend_by InTurn d o xs

-- a test that is made before any key is accepted, then what follows it
abbrev pub opened : Verdict → Result Way Refusal → Result Way Refusal
opened (Ok tt) w = w
opened (Err f) w = Err (refusal_of no_key f)

-- "The root's own record is read (11, 12) for every path."
unfoldable pub lookup_key_by : How → List ℕ → Offset → List (List ℕ) → Result Way Refusal
lookup_key_by how d root xs = opened (key_fault Header d [] root) (descend_by how d root xs)

abbrev pub lookup_key : List ℕ → Offset → List (List ℕ) → Result Way Refusal
lookup_key d root xs = lookup_key_by InTurn d root xs
