-- The answers of the calls for a key: "Order: 1 to 7; 16; then the records in list order up to the first match [..]; 17", each with the key under
-- examination; and the same by halving. h is the hive, us the path.
use Rattle.std.specs.Prelude.{ℕ, Bool, List, Err, Ok, Result}
use Rattle.fields.specs.declared.Fault.TheVariants.{PathParts, NoKey}
use Rattle.fields.specs.Faults.{flaw, nowhere, unless, ◌next◌, refusal_of, Verdict}
use Rattle.base.specs.Block.{bins_data, base_fault}
use Rattle.tree.specs.Tree.{hive_of}
use Rattle.search.specs.declared.How.{How}
use Rattle.search.specs.declared.How.TheVariants.{InTurn, Halving}
use Rattle.paths.specs.declared.Way.TheVariants.{Found, Missing}
use Rattle.paths.specs.Paths.{parts_of, path_fault}
use Rattle.paths.specs.Descent.{opened, lookup_key_by}
use Rattle.fields.specs.declared.Offset.{Offset}
use Rattle.fields.specs.declared.Refusal.{Refusal}
use Rattle.paths.specs.declared.Way.{Way}

-- 1 to 7, then 16 where what is asked for is not good
unfoldable pub ask_fault : List ℕ → Bool → Verdict
ask_fault h good = base_fault h next unless good (flaw PathParts nowhere)

-- 1 to 7, then 16
unfoldable pub open_fault : List ℕ → List ℕ → Verdict
open_fault h us = base_fault h next path_fault us

-- the key of that path, by either search
unfoldable pub key_look_by : How → List ℕ → List ℕ → Result Way Refusal
key_look_by how h us = opened (open_fault h us) (lookup_key_by how (bins_data h) (hive_of h).root (parts_of us))

abbrev pub key_look : List ℕ → List ℕ → Result Way Refusal
key_look h us = key_look_by InTurn h us

-- "17: no such key", with the last key that the way stood on
abbrev pub key_found : Result Way Refusal → Result Offset Refusal
key_found (Ok (Found o)) = Ok o
key_found (Ok (Missing k)) = Err (refusal_of k (flaw NoKey nowhere))
key_found (Err r) = Err r

unfoldable pub find_by : How → List ℕ → List ℕ → Result Offset Refusal
find_by how h us = key_found (key_look_by how h us)

-- find_key
abbrev pub find_answer : List ℕ → List ℕ → Result Offset Refusal
find_answer h us = find_by InTurn h us

-- quick_key
abbrev pub quick_answer : List ℕ → List ℕ → Result Offset Refusal
quick_answer h us = find_by Halving h us
