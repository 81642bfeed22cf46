-- From a key's offset, one step at a time: a path's answer is that of its steps one after the other, and a value's by its path is that of the key's
-- first value of the name. h is the hive, us a path, o a key's offset, x a name.
use Rattle.std.specs.Prelude.{ℕ, ◌<◌, ◌≡◌, true, false, ◌↔◌, length, Err, Ok, Result}
use mathlib.Core.List.{List, [], ◌∷◌, ◌++◌, Memᴰ}
use Rattle.fields.specs.declared.Fault.TheVariants.{PathParts, NoKey}
use Rattle.fields.specs.declared.Offset.{Offset}
use Rattle.fields.specs.Faults.{flaw, nowhere, no_key, refusal_of}
use Rattle.base.specs.Block.{bins_data, base_fault}
use Rattle.sectors.specs.Sector.{Bytes}
use Rattle.tree.specs.Tree.{keys_of}
use Rattle.tree.specs.WellFormed.{CleanAndWellFormed}
use Rattle.search.specs.declared.How.{How}
use Rattle.paths.specs.Paths.{parts_of, is_path}
use Rattle.paths.specs.Answers.{find_by}
use Rattle.paths.specs.Reach.{Holds}
use Rattle.paths.specs.Children.{is_step, child_by, child_answer, quick_child, on_key, steps_by, joined_to}
use Rattle.lookup.specs.Answers.{info_by}
use Rattle.lookup.specs.Spots.{spot_answer}
use Rattle.listing.specs.Members.{info_at}
use Rattle.fields.specs.declared.Refusal.{Refusal}
use Rattle.lookup.specs.declared.Info.{Info}

-- the key, then its value, then the value's facts: a refusal of each is the answer
abbrev pub info_on : Result Offset Refusal → (Offset → Result Info Refusal) → Result Info Refusal
info_on (Ok k) go = go k
info_on (Err r) go = Err r

abbrev pub info_then : Result Offset Refusal → (Offset → Result Info Refusal) → Result Info Refusal
info_then (Ok v) go = go v
info_then (Err r) go = Err r

-- the facts of a value are told without a key; of that key's value with it
abbrev pub under : Offset → Result Info Refusal → Result Info Refusal
under k (Ok i) = Ok i
under k (Err r) = Err (record { fault = r.fault; place = r.place; key = k })

pub record StepByStep : Type 0 where
  -- by either search, on any bytes: a path is a step for each of its parts, from what the empty path answers; the first refusal ends it
  pub path : (how : How) (h us : List ℕ) → is_path us ≡ true → find_by how h us ≡ steps_by how h (find_by how h []) (parts_of us)
  -- one part more is one step more. A path of 512 parts takes no more, and is then 16; a name that is no part is 16 by itself
  pub last : (how : How) (h us x : List ℕ) → is_step x ≡ true → length (parts_of us) < 512
      → find_by how h (joined_to us x) ≡ on_key (find_by how h us) (λ o. child_by how h o x)
  pub parts : (us x : List ℕ) → is_step x ≡ true → parts_of (joined_to us x) ≡ parts_of us ++ (x ∷ [])
  pub no_step : (how : How) (h : List ℕ) (o : Offset) (x : List ℕ) → base_fault h ≡ Ok tt → is_step x ≡ false
      → child_by how h o x ≡ Err (refusal_of no_key (flaw PathParts nowhere))
  -- a value's facts by path are those of the first value of the name, of the key that is found
  pub info : (how : How) (h us x : List ℕ) → info_by how h us x ≡ info_on (find_by how h us) (λ k. info_then (spot_answer h k x) (λ v. under k (info_at h v)))
  -- in an accepted hive, from a key of its tree: the child that the tree holds under the name, else 17 with the given key; and by halving the same
  pub child : (h : List ℕ) → CleanAndWellFormed h → (o : Offset) → Memᴰ o (keys_of h) → (x : List ℕ) → is_step x ≡ true → (c : Offset)
      → (child_answer h o x ≡ Ok c) ↔ Holds (bins_data h) o (x ∷ []) c
  pub none : (h : List ℕ) → CleanAndWellFormed h → (o : Offset) → Memᴰ o (keys_of h) → (x : List ℕ) → is_step x ≡ true
      → ((c : Offset) → Holds (bins_data h) o (x ∷ []) c → ⊥) → child_answer h o x ≡ Err (refusal_of o (flaw NoKey nowhere))
  pub quick : (h : List ℕ) → Bytes h → CleanAndWellFormed h → (o : Offset) → Memᴰ o (keys_of h) → (x : List ℕ) → quick_child h o x ≡ child_answer h o x
