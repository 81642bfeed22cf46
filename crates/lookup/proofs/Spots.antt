-- The first value of a name of a key by its offset: a law for each way out.
use Prim.Native.Nat.{ℕ}
use mathlib.Core.Path.{◌≡◌}
use mathlib.Core.List.{List, []}
use Rattle.fields.specs.declared.Flaw.{Flaw}
use Rattle.fields.specs.declared.Offset.{Offset}
use Rattle.fields.specs.Faults.{no_key, refusal_of}
use Rattle.base.specs.Block.{sector, minor_of, bins_data, base_fault}
use Rattle.cells.specs.Rule.{Header}
use Rattle.records.specs.declared.Key.{Key}
use Rattle.records.specs.Keys.{key_fault, key_of, keyed}
use Rattle.records.proofs.LawsAnswer.{keyed-whole, keyed-flawed}
use Rattle.lookup.specs.Search.{lookup_value}
use Rattle.lookup.specs.Answers.{in_key}
use Rattle.lookup.specs.Spots.{spot_in, spot_of}
use Rattle.std.specs.Prelude.{Err, Ok}

module _ (d : List ℕ) (minor : ℕ) (o : Offset) (x : List ℕ) where
  pub spot-bad : {f : Flaw} → keyed (key_fault Header d [] o) (key_of d o) ≡ Err f → spot_in d minor o x ≡ Err (refusal_of no_key f)
  unfolding spot_in
  spot-bad e = rw (keyed-flawed (key_fault Header d [] o) _ e)

  pub spot_on : {k : Key} → keyed (key_fault Header d [] o) (key_of d o) ≡ Ok k → spot_in d minor o x ≡ in_key o (lookup_value d minor x k)
  unfolding spot_in
  spot_on e = let w = keyed-whole (key_fault Header d [] o) _ e in rw (w.0, w.1)

module _ (h : List ℕ) (o : Offset) (x : List ℕ) where
  pub spot-stop : {f : Flaw} → base_fault h ≡ Err f → spot_of h o x ≡ Err (refusal_of no_key f)
  unfolding spot_of
  spot-stop e = rw e

  pub spot_in_lem : base_fault h ≡ Ok tt → spot_of h o x ≡ spot_in (bins_data h) (minor_of (sector h)) o x
  unfolding spot_of
  spot_in_lem e = rw e

-- the ways out, for the tactics
pub ruleset spot_ways = (spot-bad, spot_on, spot-stop, spot_in_lem)
