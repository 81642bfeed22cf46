-- The first value of a name, from a key's offset: "1 to 7", the key's own 11 and 12, with no key under examination; then, with that key, what `value_info`
-- tests up to its 18. A value's name is any list of units, the empty one too. h is the hive, d its bins data, o the key's offset, x the name.
use Rattle.std.specs.Prelude.{ℕ, List, [], Err, Ok, Result}
use Rattle.fields.specs.declared.Fault.TheVariants.{NoValue}
use Rattle.fields.specs.declared.Offset.{Offset}
use Rattle.fields.specs.Faults.{flaw, nowhere, no_key, refusal_of, Verdict}
use Rattle.base.specs.Block.{sector, minor_of, bins_data, base_fault}
use Rattle.cells.specs.Rule.{Header}
use Rattle.records.specs.Keys.{key_fault, key_of}
use Rattle.lookup.specs.declared.Spot.TheVariants.{Found, Missing}
use Rattle.lookup.specs.Search.{lookup_value}
use Rattle.lookup.specs.Answers.{in_key}
use Rattle.fields.specs.declared.Refusal.{Refusal}
use Rattle.lookup.specs.declared.Spot.{Spot}

-- tests that are made before the key is accepted, then what follows them
abbrev pub spot_after : Verdict → Result Spot Refusal → Result Spot Refusal
spot_after (Ok tt) s = s
spot_after (Err f) s = Err (refusal_of no_key f)

unfoldable pub spot_in : List ℕ → ℕ → Offset → List ℕ → Result Spot Refusal
spot_in d minor o x = spot_after (key_fault Header d [] o) (in_key o (lookup_value d minor x (key_of d o)))

unfoldable pub spot_of : List ℕ → Offset → List ℕ → Result Spot Refusal
spot_of h o x = spot_after (base_fault h) (spot_in (bins_data h) (minor_of (sector h)) o x)

-- "18: no such value", with the key that has none
abbrev pub spotted : Result Spot Refusal → Result Offset Refusal
spotted (Ok (Found k v)) = Ok v
spotted (Ok (Missing k)) = Err (refusal_of k (flaw NoValue nowhere))
spotted (Err r) = Err r

-- value_of
unfoldable pub spot_answer : List ℕ → Offset → List ℕ → Result Offset Refusal
spot_answer h o x = spotted (spot_of h o x)
