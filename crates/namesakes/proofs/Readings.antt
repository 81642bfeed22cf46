-- A value's name, read in its cell.
pub use Rattle.namesake_laws.proofs.Blocks.{pass-start, pass_on, pass-found, pass-end}
pub use Rattle.namesake_laws.proofs.Scans.{take-one, take_none}
use Prim.Native.Nat.{ℕ, ◌<◌, ◌≤◌}
use native.Mathlib.Omega.{arith}
use mathlib.Core.Path.{◌≡◌, sym, ap, ◌∙◌}
use mathlib.Core.Bool.{Bool}
use mathlib.Core.List.{List}
use lib.ListN.{length, get_or}
use Rattle.fields.specs.declared.Offset.{Offset}
use Rattle.fields.specs.Number.{u16_at}
use Rattle.fields.specs.Faults.{nowhere}
use Rattle.cells.specs.Named.{data_at, part_in}
use Rattle.cells.proofs.Parts.{u16-part}
use Rattle.names.specs.Comparison.{same_name}
use Rattle.records.specs.declared.Name.{Name}
use Rattle.records.specs.Keys.{codes_of}
use Rattle.values.specs.Records.{value_narrow}
use Rattle.values.specs.declared.Entries.{Entries}
use Rattle.values.specs.Entries.{entries_of}
use Rattle.namesakes.specs.Namesakes.{value_name, called_at}
use Rattle.namesakes.specs.Terms.{NamesLie, called}

-- length and flags stand in the first 20 bytes of the record
pub name-front : (d : List ℕ) (v : Offset) (r : List ℕ) → r ≡ part_in d v 0 20 → (n : ℕ) (b : Bool) → n ≡ u16_at r 2 → b ≡ value_narrow r
    → ◌≡◌ {A = Name} (record { cell = v; at = 20; len = n; narrow = b }) (value_name d v)
name-front d v r is n b e f = rw (e, f, is, u16-part (data_at d v) 0 20 2 (omega arith), u16-part (data_at d v) 0 20 16 (omega arith))

-- a value's record has room for its fields
pub record-room : (d : List ℕ) (e : Entries) → NamesLie d e → (i : ℕ) → i < e.count → {v : Offset} → v ≡ get_or (entries_of d e) i nowhere
    → 20 ≤ length (data_at d v)
record-room d e l i h is = rw is (let z = (l.lie i h).ends in omega arith)

-- a name that was read
pub read_name : (d : List ℕ) (vs : List Offset) (i : ℕ) {x : Name} → x ≡ value_name d (get_or vs i nowhere) → codes_of d x ≡ called d vs i
unfolding called_at
read_name d vs i e = ap (codes_of d) e

-- it was compared with another
pub read-compared : (d : List ℕ) (vs : List Offset) (i : ℕ) (cs : List ℕ) {x : Name} {r : Bool} → x ≡ value_name d (get_or vs i nowhere) → r ≡ same_name (codes_of d x) cs
    → same_name (called d vs i) cs ≡ r
read-compared d vs i cs e c = sym (c ∙ ap (λ (x : List ℕ). same_name x cs) (read_name d vs i e))

-- what `few` and `take_in` need
pub ruleset passing = (pass-start, pass_on, pass-found, pass-end)

pub ruleset taking = (take-one, take_none)
