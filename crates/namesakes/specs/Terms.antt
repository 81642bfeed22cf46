-- What the code asks of its callers and its loops keep. d is the bins data.
use Rattle.std.specs.Prelude.{ℕ, ◌+◌, ◌≤◌, ◌<◌, List, get_or}
use Rattle.fields.specs.declared.Offset.{Offset}
use Rattle.fields.specs.Faults.{nowhere}
use Rattle.chains.specs.Chains.{Chained}
use Rattle.namesake_laws.specs.Repeats.{later}
use Rattle.namesake_laws.specs.Tables.{Telling}
use Rattle.records.specs.declared.Name.{Name}
use Rattle.records.specs.Keys.{NameIn, codes_of}
use Rattle.values.specs.declared.Entries.{Entries}
use Rattle.values.specs.Entries.{entries_of}
use Rattle.values.specs.Terms.{Room}
use Rattle.namesakes.specs.Namesakes.{value_name, called_at}

-- the elements of a value list lie in its cell, and the names of the values in theirs
pub record NamesLie (d : List ℕ) (e : Entries) : Type 0 where
  pub room : Room d e
  pub lie : (i : ℕ) → i < e.count → NameIn d (value_name d (get_or (entries_of d e) i nowhere))

-- the names of the values of a list
abbrev pub called : List ℕ → List Offset → ℕ → List ℕ
called d vs i = called_at d (get_or vs i nowhere)

-- a name x, of the hash g, is looked for among n values from position s on
pub record Ready (d : List ℕ) (e : Entries) (s n : ℕ) (x : Name) (g : ℕ) (ks older heads : List ℕ) : Type 0 where
  pub names : NamesLie d e
  pub inside : s + n ≤ e.count
  pub name : NameIn d x
  pub table : Chained ks older heads n
  pub telling : Telling (later (called d (entries_of d e)) s) n ks g (codes_of d x)
